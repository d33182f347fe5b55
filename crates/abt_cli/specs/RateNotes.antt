-- What is told of the rate of a command, beside what it prints (docs/FORMATS.md, "Parts by hand").
use Rattle.std.specs.Prelude.{◌≡◌, ℕ, ◌==◌, Bool, true, false, if◌then◌else◌, Option, None, Some, codes, string_bytes}
use Rattle.abt_codes.specs.Doubts.{IsCodeDoubt}
use Rattle.abt_codes.specs.declared.nearest.SaidRate.{SaidRate}
use Rattle.abt_perform.specs.RateText.{rate_line}
use Rattle.abt_text.specs.Text.{Text, ◌⋅◌, newline}
use Rattle.abt_cli.specs.declared.command.Command.{Command}
use Rattle.abt_cli.specs.declared.command.Command.TheVariants.{Rate, Police, Shape}

-- what is doubtful in a code, in a line
abbrev pub IsCodeNote : (word : Text) → Option Text → Type 0
IsCodeNote word None = IsCodeDoubt word None
IsCodeNote word (Some line) = (doubt : Text) × IsCodeDoubt word (Some doubt) × (line ≡ doubt ⋅ newline)

-- no cell passes at rate 0
abbrev pub zero_line : Text
zero_line = codes "this rate is 0, so no cell passes; cells per second are written as 1000cps\n"

-- the line of the rate that stands in the place of one that no code says
abbrev pub rounded_line : (units : ℕ) → Text
rounded_line units = codes "no code says this rate: below " ⋅ rate_line units

abbrev pub note_of : (is_exact : Bool) → (units : ℕ) → Option Text
note_of false units = Some (rounded_line units)
note_of true units = if units == 0 then Some zero_line else None

abbrev pub said_note : SaidRate → Option Text
said_note said = note_of said.is_exact said.rate

-- A word says a code, and policers and shapers have a rate that a word says.
abbrev pub IsRateNote : Command → Option Text → Type 0
IsRateNote (Rate code json) note = IsCodeNote (string_bytes code) note
IsRateNote (Police tau rate json) note = note ≡ said_note rate
IsRateNote (Shape rate json) note = note ≡ said_note rate
IsRateNote command note = note ≡ None
