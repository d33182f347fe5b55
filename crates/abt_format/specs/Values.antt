-- What single words of a scenario's texts say (docs/FORMATS.md, "Scenario").
use Rattle.std.specs.Prelude.{ℕ, ◌^◌, if◌then◌else◌, List, codes, Option, Some, None, Result, Ok, Err}
use Rattle.std.specs.Int.{w16, from_be_bytes}
use Rattle.std.specs.Str.{bytes_eq}
use Rattle.hex.specs.Hex.{decode_sized}
use Rattle.hex.specs.declared.error.FromHexError.{FromHexError}
use Rattle.abt_rate.specs.Rate.{units_of}
use Rattle.abt_keep.specs.declared.plan.StorePlan.{StorePlan}
use Rattle.abt_keep.specs.declared.plan.StorePlan.TheVariants.{FailsBefore, FailsAfter}
use Rattle.abt_text.specs.Text.{Text}
use Rattle.abt_text.specs.Words.{number_of, number_below}

-- what the first says, and then what is said with it; nothing, if the first says nothing
infixl 10 ◌>>=◌
abbrev pub ◌>>=◌ : {A B : Type 0} → Option A → (A → Option B) → Option B
Some x >>= f = f x
None >>= f = None

-- C, HOP and P: numbers of 16 bits
abbrev pub conn_of : Text → Option ℕ
conn_of word = number_below (2 ^ 16) word

abbrev pub hop_of : Text → Option ℕ
hop_of word = number_below (2 ^ 16) word

abbrev pub port_of : Text → Option ℕ
port_of word = number_below (2 ^ 16) word

-- SEQ and TURNS: numbers of 32 bits
abbrev pub seq_of : Text → Option ℕ
seq_of word = number_below (2 ^ 32) word

abbrev pub turns_of : Text → Option ℕ
turns_of word = number_below (2 ^ 32) word

-- NOW, AT, CELL, JITTER and U: any number
abbrev pub moment_of : Text → Option ℕ
moment_of word = number_of word

abbrev pub cell_of : Text → Option ℕ
cell_of word = number_of word

abbrev pub units_in : Text → Option ℕ
units_in word = number_of word

abbrev pub rate_in : Result (List ℕ) FromHexError → Option ℕ
rate_in (Ok octets) = Some (units_of (from_be_bytes w16 octets))
rate_in (Err fault) = None

-- CODE: the rate of a code of four hexadecimal digits, which are two octets, the higher first
abbrev pub rate_of : Text → Option ℕ
rate_of word = rate_in (decode_sized word 2)

-- how the store fails at an ask
abbrev pub plan_of : Text → Option StorePlan
plan_of word =
    if bytes_eq word (codes "before") then Some FailsBefore
    else if bytes_eq word (codes "after") then Some FailsAfter
    else None
