use Rattle.abt_journal.proofs.Marks.{AreMarked}
use Rattle.abt_journal.proofs.looks.receipts.callers_differ.Given as goal

abbrev pub invariant-loop-seat : goal.invariant-loop-seat
invariant-loop-seat l = AreMarked l.seats l.seat-index l.taken
