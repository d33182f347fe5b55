use Rattle.std.specs.Prelude.{◌≡◌, ◌++◌, length, map, vec_items}
use Rattle.std.specs.Vec.Iter.{into_iter_items, into_iter_len}
use Rattle.abt_links.proofs.workers.with_senders.Given as goal

abbrev pub invariant-loop-site : goal.invariant-loop-site
invariant-loop-site g l =
    (length (into_iter_items l.site-iterator) ≡ into_iter_len l.site-iterator)
    × (map (λ e. e.1) (vec_items l.ends) ++ into_iter_items l.site-iterator ≡ into_iter_items l.initial.site-iterator)
