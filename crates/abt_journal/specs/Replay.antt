-- Journals of one thread (docs/RULES.md, "Journals").
use Rattle.std.specs.Prelude.{◌≡◌, ℕ, List, Some, slice_get, take, fold}
use Rattle.abt_node.specs.Table as table
use Rattle.abt_node.specs.Table.{Table, reply_to, answer_to, arrival_at, capacity_set, table_after_answer, table_after_arrival, table_after_capacity}
use Rattle.abt_journal.specs.declared.input.PortInput.{PortInput}
use Rattle.abt_journal.specs.declared.input.PortInput.TheVariants.{Request, Answer, Arrive, Capacity}
use Rattle.abt_journal.specs.declared.input.PortReply.{PortReply}
use Rattle.abt_journal.specs.declared.input.PortReply.TheVariants.{Requested, Answered, Arrived, Capped}
use Rattle.abt_journal.specs.declared.entry.Entry.{Entry}

-- the reply to an input by a port's table
abbrev pub reply_by : Table → PortInput → PortReply
reply_by t (Request q) = Requested (reply_to t q)
reply_by t (Answer a) = Answered (answer_to t a)
reply_by t (Arrive vc at) = Arrived (arrival_at t vc at)
reply_by t (Capacity u) = Capped (capacity_set t u)

-- the table after the input
abbrev pub table_after : Table → PortInput → Table
table_after t (Request q) = table.table_after t q
table_after t (Answer a) = table_after_answer t a
table_after t (Arrive vc at) = table_after_arrival t vc at
table_after t (Capacity u) = table_after_capacity t u

-- the table after the inputs of these entries, one after the other
abbrev pub replay : Table → List Entry → Table
replay opening entries = fold (λ t e. table_after t e.input) opening entries

-- The steps of one thread at a port: the place of each entry is its index, and its reply is that of the table after the
-- entries before it.
pub record IsHistory (opening : Table) (entries : List Entry) : Type 0 where
  pub places : (i : ℕ) (e : Entry) → slice_get entries i ≡ Some e → e.place ≡ i
  pub replies : (i : ℕ) (e : Entry) → slice_get entries i ≡ Some e → e.reply ≡ reply_by (replay opening (take i entries)) e.input

-- The entries are the steps that led from one table to the other.
pub record IsReplayed (opening now : Table) (entries : List Entry) : Type 0 where
  pub history : IsHistory opening entries
  pub table : now ≡ replay opening entries
