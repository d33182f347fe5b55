-- What went out when the lines of a reader are answered.
use Rattle.std.specs.Prelude.{◌≡◌, Option, IfSome}
use Rattle.std.specs.Io.KnownBytes.{Appends}
use Rattle.abt_text.specs.Text.{Text, ◌⋅◌}
use Rattle.abt_lines.specs.Lines.{seen_lines}
use Rattle.abt_lines.specs.Runs.{AnswersAll, Ends, IsMade, Steps}

-- A text begins with another.
pub record Begins (front whole : Text) : Type 0 where
  pub rest : Text
  pub is : whole ≡ front ⋅ rest

-- A text began to go out, and nothing else.
pub record AppendsFront (old new : Option Text) (text : Text) : Type 0 where
  pub printed : Text
  pub written : Appends old new printed
  pub front : Begins printed text

-- exactly the answers to all lines that a reader had left went out, from this server's on, and it is that one then
abbrev pub ServesAll : {A : Type 0} → (steps : Steps A) → (ends : Ends A) → (first last : A) → (left old new : Option Text) → Type 0
ServesAll steps ends first last left old new =
    IfSome left (λ source. (printed : Text) × Appends old new printed × AnswersAll steps ends first 1 (seen_lines source) printed last)

-- the answers to the first lines that it had left, or to all with what is said behind them, began to go out, and nothing else did
abbrev pub ServesPart : {A : Type 0} → (steps : Steps A) → (ends : Ends A) → (first : A) → (left old new : Option Text) → Type 0
ServesPart steps ends first left old new =
    IfSome left (λ source. (made : Text) × IsMade steps ends first (seen_lines source) made × AppendsFront old new made)

-- If a function says the answers: those to all that a reader had left went out, and nothing else.
abbrev pub IsServed : (answers_to : Text → Text) → (left old new : Option Text) → Type 0
IsServed answers_to left old new = IfSome left (λ source. Appends old new (answers_to source))

-- the answers to all that it had left began to go out, and nothing else did
abbrev pub IsServedPart : (answers_to : Text → Text) → (left old new : Option Text) → Type 0
IsServedPart answers_to left old new = IfSome left (λ source. AppendsFront old new (answers_to source))
