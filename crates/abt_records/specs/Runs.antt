-- Records that a server answers, one after the other.
use Rattle.std.specs.Prelude.{◌≡◌, ℕ, List, [], ◌∷◌, ◌++◌, Option}
use Rattle.abt_text.specs.Text.{Text, ◌⋅◌}

-- the steps that servers may take: one answers a record so, and is then that; a line that is too long isn't seen
abbrev pub Steps : Type 0 → Type 1
Steps A = (old : A) → Option Text → (said : Text) → (new : A) → Type 0

-- a text got longer by one of which this holds
abbrev pub Adds : (old new : Text) → (Text → Type 0) → Type 0
Adds old new Holds = (said : Text) × (new ≡ old ⋅ said) × Holds said

-- a run: some records are answered one after the other, and this is what is said
abbrev pub Runs : {A : Type 0} → (steps : Steps A) → (old : A) → List (Option Text) → (said : Text) → (new : A) → Type 0
Runs steps old [] said new = (said ≡ []) × (new ≡ old)
Runs {A = A} steps old (record_seen ∷ records) said new =
    (mid : A) × (first : Text) × (rest : Text) × (said ≡ first ⋅ rest) × steps old record_seen first mid × Runs steps mid records rest new

-- A text is exactly the answers to the first of some records.
pub record AnswersFirst {A : Type 0} (steps : Steps A) (first : A) (records : List (Option Text)) (text : Text) : Type 0 where
  pub answered : List (Option Text)
  pub more : List (Option Text)
  pub are : records ≡ answered ++ more
  pub server : A
  pub runs : Runs steps first answered text server
