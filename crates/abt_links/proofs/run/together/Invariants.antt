use Rattle.std.specs.Prelude.{◌≡◌, ◌++◌, vec_items, length}
use Rattle.std.specs.Vec.Iter.{into_iter_items, into_iter_len}
use Rattle.abt_links.proofs.run.together.Given as goal

abbrev pub invariant-loop-seat : goal.invariant-loop-seat
invariant-loop-seat l =
    (length (into_iter_items l.seat-iterator) ≡ into_iter_len l.seat-iterator)
    × (vec_items l.seats ++ into_iter_items l.seat-iterator ≡ vec_items l.initial.seats ++ into_iter_items l.initial.seat-iterator)
