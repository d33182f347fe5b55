-- Which lines of a reader are answered, and why the next one isn't.
use Rattle.std.specs.Prelude.{◌≡◌, ℕ, ◌+◌, ◌^◌, ◌<◌, ◌≤◌, ◌==◌, ◌⊎◌, length, take, count_by, Option}
use Rattle.std.specs.Io.KnownBytes.{Appends, Consumes, IsAtEnd}
use Rattle.abt_text.specs.Text.{Text, line_feed}
use Rattle.abt_lines.specs.Lines.{lines_of, seen_lines}
use Rattle.abt_lines.specs.Runs.{AnswersAll, AnswersFirst, Ends, Steps}
use Rattle.abt_lines.specs.declared.fault.LinesFault.{LinesFault}
use Rattle.abt_lines.specs.declared.fault.LinesFault.TheVariants.{Read, TooLong, Write, Memory}

-- how many line feeds a text has, and so how many whole lines
abbrev pub feeds_in : Text → ℕ
feeds_in text = count_by (λ octet. octet == line_feed) text

-- Less went out than was to: answers to the first lines, or, at the end of the input, to all, with what is said behind them.
pub record IsCutShort {A : Type 0} (steps : Steps A) (ends : Ends A) (first : A) (left : Option Text) (taken printed : Text) : Type 0 where
  pub made : Text
  pub count : ℕ
  pub front : printed ≡ take count made
  pub short : count < length made
  pub of : ((n : ℕ) × AnswersFirst steps first (seen_lines taken) n made)
      ⊎ (IsAtEnd left × ((last : A) × AnswersAll steps ends first 1 (seen_lines taken) made last))

-- Why no more lines are answered, if this was taken of the input, this is left, and this went out.
--   Read: all whole lines that were taken are answered, and no others.
--   TooLong: 2^64 - 1 octets were taken at least.
--   Memory: the next line, which isn't answered, had begun in what was taken; behind the last line the input is at its end.
--   Write: less went out than was to.
abbrev pub StopsBy : {A : Type 0} → (steps : Steps A) → (ends : Ends A) → (first : A) → (left : Option Text) → (taken printed : Text)
    → LinesFault → Type 0
StopsBy steps ends first left taken printed Read = AnswersFirst steps first (seen_lines taken) (feeds_in taken) printed
StopsBy steps ends first left taken printed TooLong =
    ((n : ℕ) × AnswersFirst steps first (seen_lines taken) n printed) × (2 ^ 64 ≤ length taken + 1)
StopsBy steps ends first left taken printed Memory =
    (n : ℕ) × AnswersFirst steps first (seen_lines taken) n printed × (n ≡ length (lines_of taken) → IsAtEnd left)
StopsBy steps ends first left taken printed Write = IsCutShort steps ends first left taken printed

-- Lines are answered up to one, and this fault is why that isn't.
pub record IsStopped {A : Type 0} (steps : Steps A) (ends : Ends A) (first : A) (left_old left_new old new : Option Text)
    (fault : LinesFault) : Type 0 where
  pub taken : Text
  pub consumed : Consumes left_old left_new taken
  pub printed : Text
  pub written : Appends old new printed
  pub why : StopsBy steps ends first left_new taken printed fault
