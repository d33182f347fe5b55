use Rattle.std.specs.Prelude.{◌≡◌, ◌+◌, ◌≤◌, map, length, vec_len, vec_items, vec_capacity}
use Rattle.std.specs.Vec.Iter.{into_iter_len, into_iter_items}
use Rattle.abt_links.specs.Lines.{HaveBegunFrom}
use Rattle.abt_links.specs.Promises.{AreAccessesFrom}
use Rattle.abt_links.proofs.start.start_sources.Given as goal

abbrev pub invariant-loop-to : goal.invariant-loop-to
invariant-loop-to g l =
    (l.conn ≡ vec_len l.handles.sources)
    × (vec_len l.handles.sources + into_iter_len l.to-iterator ≡ into_iter_len l.initial.to-iterator)
    × (into_iter_len l.initial.to-iterator ≤ vec_capacity l.handles.sources)
    × AreAccessesFrom l.net 0 l.scripts (map (λ h. h.promise) (vec_items l.handles.sources))
    × (l.handles.links ≡ l.initial.handles.links)
    × (l.handles.complete ≡ l.initial.handles.complete)
    × (length (into_iter_items l.to-iterator) ≡ into_iter_len l.to-iterator)
    × HaveBegunFrom l.net l.conn (map (λ e. e.1) (into_iter_items l.to-iterator))
