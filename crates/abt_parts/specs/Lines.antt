-- Answers to lines (docs/FORMATS.md, "Parts by hand"): one line for each line, which begins with its number.
use Rattle.std.specs.Prelude.{◌≡◌, ℕ, ◌+◌, List, [], ◌∷◌, Option, Some, None, Result, Ok, Err, codes}
use Rattle.abt_text.specs.Text.{Text, ◌⋅◌, newline, decimal}
use Rattle.abt_text.specs.Words.{number_of}
use Rattle.abt_parts.specs.declared.fault.LineFault.{LineFault}
use Rattle.abt_parts.specs.declared.fault.LineFault.TheVariants.{TooLong, Number, ClockBack, TimeRange, Zero}

abbrev pub fault_name : LineFault → Text
fault_name TooLong = codes "TooLong"
fault_name Number = codes "number"
fault_name ClockBack = codes "ClockBack"
fault_name TimeRange = codes "TimeRange"
fault_name Zero = codes "Zero"

abbrev pub fault_text : LineFault → Text
fault_text fault = codes "fault " ⋅ fault_name fault

abbrev pub moment_or_fault : Option ℕ → Result ℕ LineFault
moment_or_fault (Some moment) = Ok moment
moment_or_fault None = Err Number

-- the moment that a line says; of a line that is too long nothing is seen
abbrev pub moment_of : Option Text → Result ℕ LineFault
moment_of (Some line) = moment_or_fault (number_of line)
moment_of None = Err TooLong

-- the answer to a moment, or else the fault
abbrev pub to_moment : (answer : ℕ → Text) → Result ℕ LineFault → Text
to_moment answer (Ok moment) = answer moment
to_moment answer (Err fault) = fault_text fault

-- what is kept behind a moment; a fault changes nothing
abbrev pub past_moment : {Kept : Type 0} → (next : ℕ → Kept) → Kept → Result ℕ LineFault → Kept
past_moment next kept (Ok moment) = next moment
past_moment next kept (Err fault) = kept

-- the line that answers the line of a number
abbrev pub numbered : ℕ → Text → Text
numbered number answer = decimal number ⋅ codes " " ⋅ answer ⋅ newline

-- a line is answered so, behind its number, and what is kept is then that
abbrev pub IsAnswer : {Kept : Type 0} → (answer : Kept → Option Text → Text) → (next : Kept → Option Text → Kept) → (old : Kept) → ℕ → Option Text
    → (said : Text) → (new : Kept) → Type 0
IsAnswer answer next old number line said new = (said ≡ numbered number (answer old line)) × (new ≡ next old line)

-- The answers to some lines, the first of this number, by the answer to a line, what is kept then, and what is said
-- behind the last line.
abbrev pub answers_of : {Kept : Type 0} → (answer : Kept → Option Text → Text) → (next : Kept → Option Text → Kept) → (last : Kept → Text)
    → Kept → ℕ → List (Option Text) → Text
answers_of answer next last kept number [] = last kept
answers_of answer next last kept number (line ∷ lines) =
    numbered number (answer kept line) ⋅ answers_of answer next last (next kept line) (number + 1) lines
