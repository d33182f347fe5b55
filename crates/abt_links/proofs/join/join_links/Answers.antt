use Rattle.std.proofs.Common.{rules, ◌≡◌, [], arith, append-nil}
use Rattle.std.specs.Vec.Iter.{into_iter_items}
use Rattle.std.proofs.lemmas.List.{nil_from_length}
use Rattle.abt_links.proofs.join.join_links.Goals as goal

pub returns : goal.returns
returns g c =
    let inv = c.loop-handle.invariant in
    let none : into_iter_items c.loop-handle.handle-iterator ≡ [] = nil_from_length _ (omega (arith, inv.1, c.in-None.ensures.steps)) in
    let whole : into_iter_items c.into_iter-handle-iterator.result ≡ c.args.handles.items = search rules in
    rw (← whole, ← append-nil c.loop-handle.results.items) (inv.2 [] (rw none tt))
