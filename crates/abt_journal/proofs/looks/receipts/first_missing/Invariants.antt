use Rattle.std.proofs.Common.{◌≡◌, ℕ, ◌<◌, Some, length}
use Rattle.std.specs.Prelude.{slice_get}
use Rattle.abt_journal.specs.Receipts.{Seated}
use Rattle.abt_journal.specs.Gathered.{journals_of}
use Rattle.abt_journal.specs.Missing.{AreInOrder}
use Rattle.abt_journal.proofs.looks.receipts.first_missing.Given as goal

abbrev pub invariant-loop-seat : goal.invariant-loop-seat
invariant-loop-seat l =
    (length l.seen ≡ length l.states)
    × ((k : ℕ) (seat : Seated) → k < l.seat-index → slice_get l.seats k ≡ Some seat → AreInOrder (journals_of l.states) seat)
