use Rattle.std.specs.Prelude.{◌≡◌, ◌++◌, length, map, vec_items}
use Rattle.std.specs.Vec.Iter.{into_iter_items, into_iter_len}
use Rattle.abt_links.proofs.worker_results.apart.Given as goal

abbrev pub invariant-loop-first : goal.invariant-loop-first
invariant-loop-first g l =
    (length (into_iter_items l.first-iterator) ≡ into_iter_len l.first-iterator)
    × (vec_items l.firsts ++ map (λ p. p.0) (into_iter_items l.first-iterator) ≡ map (λ p. p.0) (into_iter_items l.initial.first-iterator))
    × (vec_items l.others ++ map (λ p. p.1) (into_iter_items l.first-iterator) ≡ map (λ p. p.1) (into_iter_items l.initial.first-iterator))
