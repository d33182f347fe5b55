use Rattle.std.specs.Prelude.{◌≡◌, ◌++◌, length, vec_items}
use Rattle.std.specs.Vec.Iter.{into_iter_items, into_iter_len}
use Rattle.abt_links.specs.Faults as faults
use Rattle.abt_links.proofs.worker_results.given_back.Given as goal

abbrev pub invariant-loop-result : goal.invariant-loop-result
invariant-loop-result g l =
    (length (into_iter_items l.result-iterator) ≡ into_iter_len l.result-iterator)
    × (vec_items l.given ++ faults.given_back (into_iter_items l.result-iterator) ≡ faults.given_back (into_iter_items l.initial.result-iterator))
