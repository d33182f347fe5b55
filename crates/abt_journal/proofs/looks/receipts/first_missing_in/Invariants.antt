use Rattle.abt_journal.specs.Gathered.{journals_of}
use Rattle.abt_journal.proofs.Walk.{IsWalked}
use Rattle.abt_journal.proofs.looks.receipts.first_missing_in.Given as goal

abbrev pub invariant-loop-receipt : goal.invariant-loop-receipt
invariant-loop-receipt l = IsWalked (journals_of l.states) l.seat l.receipt-index l.seen
