-- Lines that a server answers, one after the other.
use Rattle.std.specs.Prelude.{◌≡◌, ◌≤◌, ◌⊎◌, ℕ, ◌+◌, List, [], ◌∷◌, length, take, Option}
use Rattle.abt_text.specs.Text.{Text, ◌⋅◌}

-- the steps that servers may take: one answers the line of a number so, and is then that; a line that is too long isn't seen
abbrev pub Steps : Type 0 → Type 1
Steps A = (old : A) → ℕ → Option Text → (said : Text) → (new : A) → Type 0

-- what they may say behind the last line, if the next one would have this number
abbrev pub Ends : Type 0 → Type 1
Ends A = (last : A) → ℕ → (said : Text) → Type 0

-- a text got longer by one of which this holds
abbrev pub Adds : (old new : Text) → (Text → Type 0) → Type 0
Adds old new Holds = (said : Text) × (new ≡ old ⋅ said) × Holds said

-- a run: some lines are answered one after the other, the first of which has this number, and this is what is said
abbrev pub Runs : {A : Type 0} → (steps : Steps A) → (old : A) → ℕ → List (Option Text) → (said : Text) → (new : A) → Type 0
Runs steps old number [] said new = (said ≡ []) × (new ≡ old)
Runs {A = A} steps old number (line ∷ lines) said new =
    (mid : A) × (first : Text) × (rest : Text) × (said ≡ first ⋅ rest) × steps old number line first mid × Runs steps mid (number + 1) lines rest new

-- A text is exactly the answers to some lines, and what is said behind the last one.
pub record AnswersAll {A : Type 0} (steps : Steps A) (ends : Ends A) (first : A) (number : ℕ) (lines : List (Option Text)) (text : Text)
    (last : A) : Type 0 where
  pub answers : Text
  pub behind : Text
  pub is : text ≡ answers ⋅ behind
  pub runs : Runs steps first number lines answers last
  pub ended : ends last (number + length lines) behind

-- A text is exactly the answers to the first so many lines: the server, as it is then, answers the next one.
pub record AnswersFirst {A : Type 0} (steps : Steps A) (first : A) (lines : List (Option Text)) (count : ℕ) (text : Text) : Type 0 where
  pub server : A
  pub within : count ≤ length lines
  pub runs : Runs steps first 1 (take count lines) text server

-- a text is the answers to the first of some lines, or to all with what is said behind the last one
abbrev pub IsMade : {A : Type 0} → (steps : Steps A) → (ends : Ends A) → (first : A) → List (Option Text) → Text → Type 0
IsMade {A = A} steps ends first lines text =
    ((n : ℕ) × AnswersFirst steps first lines n text) ⊎ ((last : A) × AnswersAll steps ends first 1 lines text last)

-- A function says all answers: those to a line and to more lines are what a step says, and those of the server then; those to no line are
-- what is said behind the last one.
pub record IsAnswering {A : Type 0} (steps : Steps A) (ends : Ends A) (answers : A → ℕ → List (Option Text) → Text) : Type 0 where
  pub stepped : (old new : A) (number : ℕ) (line : Option Text) (said : Text) → steps old number line said new
      → (more : List (Option Text)) → answers old number (line ∷ more) ≡ said ⋅ answers new (number + 1) more
  pub ended : (last : A) (number : ℕ) (said : Text) → ends last number said → answers last number [] ≡ said
