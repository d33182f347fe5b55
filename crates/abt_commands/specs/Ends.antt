-- What a command leaves, by its exit status, over the input that is there or over a file in its place.
use Rattle.std.specs.Prelude.{◌≡◌, ◌⊎◌, ◌+◌, ⊤, ℕ, Option, None, MatchOption, IsSome}
use Rattle.std.specs.Io.KnownBytes.{Keeps}
use Rattle.abt_text.specs.Text.{Text}
use Rattle.abt_text.specs.Streams.{ConsumesAtMost, text_max}
use Rattle.abt_commands.specs.declared.input.Input.{Input}
use Rattle.abt_commands.specs.declared.input.Input.TheVariants.{Here, File}

-- It is the input that is there, unless a file is named.
abbrev pub IsInputOf : {F : Type 0} → (file : Option Text) → Input F → Type 0
IsInputOf file Here = file ≡ None
IsInputOf file (File opened) = IsSome file

-- what is taken of a reader that has a scenario
abbrev pub TakesText : (old new : Option Text) → Type 0
TakesText old new = ConsumesAtMost old new (text_max + 1)

-- of one that is read to its end, as lines or as journals, anything may be taken
abbrev pub TakesAny : (old new : Option Text) → Type 0
TakesAny old new = ⊤

-- What a command leaves over one reader: what it took of that, and what went out and was told if it is done (status 0), or refused (status 1).
pub record Ends (Takes : (old new : Option Text) → Type 0) (Done Refused : (left old new told_old told_new : Option Text) → Type 0)
    (status : ℕ) (left_old left_new old new told_old told_new : Option Text) : Type 0 where
  pub status_is : (status ≡ 0) ⊎ (status ≡ 1)
  pub takes : Takes left_old left_new
  pub done : status ≡ 0 → Done left_old old new told_old told_new
  pub refused : status ≡ 1 → Refused left_old old new told_old told_new

-- That went out, and nothing was told.
pub record Quietly (Prints : (left old new : Option Text) → Type 0) (left old new told_old told_new : Option Text) : Type 0 where
  pub prints : Prints left old new
  pub quiet : Keeps told_old told_new

-- The command is carried out over a file: nothing is taken of the input that is there, and some reader stands in its place.
pub record EndsElsewhere (Takes : (old new : Option Text) → Type 0) (Done Refused : (left old new told_old told_new : Option Text) → Type 0)
    (status : ℕ) (left_old left_new old new told_old told_new : Option Text) : Type 0 where
  pub untaken : Keeps left_old left_new
  pub file_old : Option Text
  pub file_new : Option Text
  pub ends : Ends Takes Done Refused status file_old file_new old new told_old told_new

-- The file isn't opened: that is told, nothing is taken, and nothing goes out.
pub record EndsUnopened (Unopened : (old new : Option Text) → Type 0)
    (status : ℕ) (left_old left_new old new told_old told_new : Option Text) : Type 0 where
  pub status_is : status ≡ 1
  pub untaken : Keeps left_old left_new
  pub silent : Keeps old new
  pub told : Unopened told_old told_new

-- What a command leaves over the file that is named, or else over the input that is there.
pub record EndsOver (file : Option Text) (Unopened : (name : Text) → (old new : Option Text) → Type 0)
    (Takes : (old new : Option Text) → Type 0) (Done Refused : (left old new told_old told_new : Option Text) → Type 0)
    (status : ℕ) (left_old left_new old new told_old told_new : Option Text) : Type 0 where
  pub ends : MatchOption file
      (Ends Takes Done Refused status left_old left_new old new told_old told_new)
      (λ name. EndsUnopened (Unopened name) status left_old left_new old new told_old told_new
      ⊎ EndsElsewhere Takes Done Refused status left_old left_new old new told_old told_new)
