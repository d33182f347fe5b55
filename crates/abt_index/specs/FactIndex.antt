-- A log and its parts, as contracts see them.
use Rattle.std.specs.Prelude.{◌≡◌, ℕ, List}
use Rattle.abt_facts.specs.declared.fact.Fact.{Fact}
use Rattle.abt_index.specs.declared.message.Message.{Message}
use Rattle.abt_index.specs.Index.{Index, index_of}

-- what is known of each number, and for how many more there is room
pub record MessagesView : Type 0 where
  pub entries : List (ℕ × Message)
  pub room : ℕ

-- the emitted cells and their moments, the last first, and for how many more there is room
pub record EmissionsView : Type 0 where
  pub moments : List (ℕ × ℕ)
  pub room : ℕ

-- the index of the noted facts, and for how many more there is room
pub record LogView : Type 0 where
  pub index : Index
  pub room : ℕ

-- A log is that of a list of facts.
abbrev pub IsLogOf : List Fact → LogView → Type 0
IsLogOf facts log = log.index ≡ index_of facts
