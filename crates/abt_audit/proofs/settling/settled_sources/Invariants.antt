-- The journals so far are settled, and what becomes of the others becomes of all.
use Rattle.std.proofs.Common.{◌≡◌, length, vec_items}
use Rattle.std.specs.Vec.Iter.{into_iter_len, into_iter_items}
use Rattle.abt_audit.proofs.SettledRuns.{SettlesOn}
use Rattle.abt_audit.proofs.settling.settled_sources.Given as goal

abbrev pub invariant-loop-journal : goal.invariant-loop-journal
invariant-loop-journal l =
    (length (into_iter_items l.journal-iterator) ≡ into_iter_len l.journal-iterator)
    × SettlesOn l.net l.open_writes l.fn.sources.items (into_iter_items l.journal-iterator) (vec_items l.settled)
