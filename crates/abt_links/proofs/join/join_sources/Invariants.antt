use Rattle.std.specs.Prelude.{◌≡◌, ◌+◌, ◌≤◌, ◌++◌, List, Result, length, map, vec_len, vec_items, vec_capacity}
use Rattle.std.specs.Vec.Iter.{into_iter_len, into_iter_items}
use Rattle.abt_journal.specs.Receipts.{Seated}
use Rattle.abt_journal.specs.declared.fault.ServeFault.{ServeFault}
use Rattle.abt_history.specs.Sites.{SiteView}
use Rattle.abt_links.specs.Promises.{KeepEachAccess}
use Rattle.abt_links.proofs.join.join_sources.Given as goal

abbrev pub invariant-loop-handle : goal.invariant-loop-handle
invariant-loop-handle g l =
    (vec_len l.results + into_iter_len l.handle-iterator ≤ vec_capacity l.results)
    × (length (into_iter_items l.handle-iterator) ≡ into_iter_len l.handle-iterator)
    × ((rs : List (Result (Seated × SiteView) ServeFault)) → KeepEachAccess (map (λ h. h.promise) (into_iter_items l.handle-iterator)) rs
    → KeepEachAccess (map (λ h. h.promise) (into_iter_items l.initial.handle-iterator)) (vec_items l.results ++ rs))
