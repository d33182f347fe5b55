-- A piece of the input, taken line by line.
use Rattle.std.specs.Prelude.{◌≡◌, ℕ, ◌+◌, ◌^◌, ◌<◌, ◌≤◌, ◌⊎◌, ⊤, List, [], ◌∷◌, ◌++◌, length, Option}
use Rattle.abt_text.specs.Text.{Text, ◌⋅◌}
use Rattle.abt_lines.specs.Lines.{seen_lines}
use Rattle.abt_lines.specs.Runs.{Runs, Steps}
use Rattle.abt_lines.specs.Stopped.{feeds_in}
use Rattle.abt_lines.specs.declared.fault.LinesFault.{LinesFault}
use Rattle.abt_lines.specs.declared.fault.LinesFault.TheVariants.{Read, TooLong, Write, Memory}

-- The lines that end in a piece are answered, behind a text that was there, and what stands behind them has begun.
pub record Fed {A : Type 0} (steps : Steps A) (server : A) (number : ℕ) (begun piece : Text) (server_new : A) (number_new : ℕ)
    (begun_new old new : Text) : Type 0 where
  pub lines : List (Option Text)
  pub said : Text
  pub added : new ≡ old ⋅ said
  pub runs : Runs steps server number lines said server_new
  pub counted : number_new ≡ number + length lines
  pub ended : length lines ≡ feeds_in piece
  pub left : (rest : Text) → seen_lines (begun ⋅ piece ⋅ rest) ≡ lines ++ seen_lines (begun_new ⋅ rest)

-- why a line of a number isn't answered: no memory was found, or it is the last number that there is
abbrev pub IsUnanswered : ℕ → LinesFault → Type 0
IsUnanswered number Read = ⊥
IsUnanswered number TooLong = 2 ^ 64 ≤ number + 1
IsUnanswered number Write = ⊥
IsUnanswered number Memory = ⊤

-- why the last line, which has begun so, isn't answered, or what is said behind it isn't there: the same, but a line that has a number isn't empty
abbrev pub IsUnended : ℕ → Text → LinesFault → Type 0
IsUnended number begun Read = ⊥
IsUnended number begun TooLong = (2 ^ 64 ≤ number + 1) × (0 < length begun)
IsUnended number begun Write = ⊥
IsUnended number begun Memory = ⊤

-- An octet of a piece wasn't taken: the lines that end before it are answered, and no others.
pub record FedPart {A : Type 0} (steps : Steps A) (server : A) (number : ℕ) (begun piece text : Text) (fault : LinesFault) : Type 0 where
  pub taken : Text
  pub octet : ℕ
  pub rest : Text
  pub is : piece ≡ taken ⋅ (octet ∷ rest)
  pub server_new : A
  pub number_new : ℕ
  pub begun_new : Text
  pub fed : Fed steps server number begun taken server_new number_new begun_new [] text
  pub why : IsUnanswered number_new fault

-- The last line, which ends with the input, is answered, or isn't, and what is said behind it isn't there.
pub record EndedPart {A : Type 0} (steps : Steps A) (server : A) (number : ℕ) (begun text : Text) (fault : LinesFault) : Type 0 where
  pub server_new : A
  pub lines : List (Option Text)
  pub of : (lines ≡ []) ⊎ (lines ≡ seen_lines begun)
  pub runs : Runs steps server number lines text server_new
  pub why : IsUnended number begun fault
