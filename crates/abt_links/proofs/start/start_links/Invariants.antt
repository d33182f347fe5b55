use Rattle.std.specs.Prelude.{◌≡◌, ◌+◌, ◌≤◌, length, map, vec_len, vec_items, vec_capacity}
use Rattle.std.specs.Vec.Iter.{into_iter_len}
use Rattle.abt_links.specs.Promises.{AreLinksFrom}
use Rattle.abt_links.proofs.start.start_links.Given as goal

abbrev pub invariant-loop-to : goal.invariant-loop-to
invariant-loop-to g l =
    (l.caller ≡ length l.net.conns + vec_len l.handles.links)
    × (vec_len l.handles.links + into_iter_len l.to-iterator ≡ into_iter_len l.initial.to-iterator)
    × (into_iter_len l.initial.to-iterator ≤ vec_capacity l.handles.links)
    × AreLinksFrom (length l.net.conns) (map (λ h. h.promise) (vec_items l.handles.links))
    × (l.handles.sources ≡ l.initial.handles.sources)
