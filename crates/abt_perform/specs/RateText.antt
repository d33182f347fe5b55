-- The text that `abt rate` prints (docs/FORMATS.md, "The program").
use Rattle.std.specs.Prelude.{ℕ, Option, Some, None, Result, Ok, Err, codes, ◌==◌, if◌then◌else◌}
use Rattle.abt_rate.specs.Rate.{spacing_of}
use Rattle.abt_rate.specs.Code.{code_of}
use Rattle.abt_text.specs.Text.{Text, ◌⋅◌, newline, decimal, code_text}
use Rattle.abt_format.specs.Values.{rate_of}
use Rattle.abt_perform.specs.declared.fault.Fault.{Fault}
use Rattle.abt_perform.specs.declared.fault.Fault.TheVariants.{Code}

abbrev pub spacing_text : ℕ → Text
spacing_text units = if units == 0 then codes "none" else decimal (spacing_of units)

-- the canonical code, the units and the spacing of a rate
abbrev pub rate_line : ℕ → Text
rate_line units =
    code_text (code_of units) ⋅ codes " units " ⋅ decimal units ⋅ codes " spacing " ⋅ spacing_text units ⋅ newline

abbrev pub rate_text_of : Option ℕ → Result Text Fault
rate_text_of (Some units) = Ok (rate_line units)
rate_text_of None = Err Code

abbrev pub rate_text : Text → Result Text Fault
rate_text code = rate_text_of (rate_of code)
