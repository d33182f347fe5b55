-- The journals so far are completed.
use Rattle.std.proofs.Common.{take, vec_items}
use Rattle.abt_journal_text.specs.Books.{lists_of}
use Rattle.abt_derive.specs.Derives.{AreCompletedFrom}
use Rattle.abt_derive.proofs.completion.completed.Given as goal

abbrev pub invariant-loop-number : goal.invariant-loop-number
invariant-loop-number l =
    AreCompletedFrom l.run.net l.run.journals (lists_of l.run.port_spots) (lists_of l.run.source_spots) 0 (take l.number l.journal-items)
    (vec_items l.full.sources) (lists_of l.full.spots)
