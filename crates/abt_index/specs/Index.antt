-- The index of a connection's facts.
use Rattle.std.specs.Prelude.{◌≡◌, ℕ, ◌<◌, ◌==◌, ◌&&◌, Bool, true, false, List, [], ◌∷◌, length, Option, None, Some, if◌then◌else◌, max, unwrap_or, nat_eq}
use Rattle.std.specs.Map.{lookup}
use Rattle.indexmap.specs.IndexMap.{insert_entry}
use Rattle.abt_facts.specs.declared.fact.Fact.{Fact}
use Rattle.abt_facts.specs.declared.fact.Fact.TheVariants.{Asked, Emitted, Delivered, Passed, Shut, Turned, Back, Arrived}
use Rattle.abt_index.specs.declared.message.Message.{Message}
use Rattle.abt_index.specs.Hops.{none, with_hop}
use Rattle.abt_index.specs.Kept.{conforms_if_arrived}

-- What is known of each number, in the order of their first facts; the emitted cells and their moments, the last first; the greatest
-- mark of a request that came to the first hop; the last cell that arrived, and when; whether all that arrived conform.
pub record Index : Type 0 where
  pub messages : List (ℕ × Message)
  pub emissions : List (ℕ × ℕ)
  pub mark : ℕ
  pub last : Option (ℕ × ℕ)
  pub conform : Bool

-- a number to which nothing happened
abbrev pub blank : Message
blank = record { asked = false; floor = 0; ask = 0; mark = 0; delivered = false; turned = false; passed = none; shut = none; back = none }

-- what is known of a number
abbrev pub message_in : List (ℕ × Message) → ℕ → Message
message_in messages seq = unwrap_or (lookup (nat_eq seq) messages) blank

-- the moment of a cell, 0 if it wasn't emitted
abbrev pub moment_in : List (ℕ × ℕ) → ℕ → ℕ
moment_in [] n = 0
moment_in (emission ∷ emissions) n = if emission.0 == n then emission.1 else moment_in emissions n

-- a message after one more fact of it
abbrev pub changed : Fact → Message → Message
changed (Asked seq floor ask mark) message = record message { asked = true; floor = floor; ask = ask; mark = mark }
changed (Delivered seq) message = record message { delivered = true }
changed (Passed seq hop) message = record message { passed = with_hop message.passed hop }
changed (Shut seq hop) message = record message { shut = with_hop message.shut hop }
changed (Turned seq) message = record message { turned = true }
changed (Back seq hop) message = record message { back = with_hop message.back hop }
changed fact message = message

-- the messages with one changed, which goes last if it is new
abbrev pub with_change : (Message → Message) → ℕ → List (ℕ × Message) → List (ℕ × Message)
with_change change seq messages = insert_entry nat_eq messages seq (change (message_in messages seq))

-- the index of no facts
abbrev pub empty : Index
empty = record { messages = []; emissions = []; mark = 0; last = None; conform = true }

-- the index after one more fact
abbrev pub noted : Fact → Index → Index
noted (Asked seq floor ask mark) index = record index { messages = with_change (changed (Asked seq floor ask mark)) seq index.messages }
noted (Delivered seq) index = record index { messages = with_change (changed (Delivered seq)) seq index.messages; mark = max index.mark ((message_in index.messages seq).mark) }
noted (Passed seq hop) index = record index { messages = with_change (changed (Passed seq hop)) seq index.messages }
noted (Shut seq hop) index = record index { messages = with_change (changed (Shut seq hop)) seq index.messages }
noted (Turned seq) index = record index { messages = with_change (changed (Turned seq)) seq index.messages }
noted (Back seq hop) index = record index { messages = with_change (changed (Back seq hop)) seq index.messages }
noted (Emitted cell at rate) index = record index { emissions = (cell, at) ∷ index.emissions }
noted (Arrived cell at rate verdict) index = record index { last = Some (cell, at); conform = index.conform && conforms_if_arrived (Arrived cell at rate verdict) }
noted fact index = index

-- the index of a list of facts, the newest first
abbrev pub index_of : List Fact → Index
index_of [] = empty
index_of (fact ∷ facts) = noted fact (index_of facts)

-- Hops are few.
abbrev pub HasFewHops : Fact → Type 0
HasFewHops (Passed seq hop) = hop < 32
HasFewHops (Shut seq hop) = hop < 32
HasFewHops (Back seq hop) = hop < 32
HasFewHops fact = Unit {0}

-- What a log can note next: hops are few, and cells are numbered from 0 without a gap.
abbrev pub CanFollow : Index → Fact → Type 0
CanFollow index (Emitted cell at rate) = cell ≡ length index.emissions
CanFollow index fact = HasFewHops fact

-- whether a fact is one of a message, to note which the message is looked up
abbrev pub is_of_message : Fact → Bool
is_of_message (Asked seq floor ask mark) = true
is_of_message (Delivered seq) = true
is_of_message (Passed seq hop) = true
is_of_message (Shut seq hop) = true
is_of_message (Turned seq) = true
is_of_message (Back seq hop) = true
is_of_message fact = false
