-- The connections behind the place are others than the one at it, and fewer than the net has.
use Rattle.std.proofs.Common.{◌-◌, drop, ap, ◌∙◌, arith}
use Rattle.std.proofs.lemmas.List.{length-drop}
use Rattle.std.specs.FinMap as map
use Rattle.abt_node.specs.Table.{Table, connection_at}
use Rattle.abt_world.proofs.Admitting.{later_others, opening_unknown, opening_few}
use Rattle.abt_world.proofs.opening.port_with.Goals as goal

pub join-requires-clause-unknown : goal.join-requires-clause-unknown
join-requires-clause-unknown c =
    let conns = c.args.conns.now in
    let place = c.loop-place.place in
    let conn = c.index-conns-place.result in
    ap (λ (table : Table). connection_at table conn.vc) c.loop-place.invariant.made
    ∙ opening_unknown c.args.id c.args.capacity (drop place conns) conn.vc
    (later_others conns (place - 1) place conn c.requires.channels (omega (arith, c.loop-place-test.true)) c.index-conns-place.is)

pub join-requires-clause-room : goal.join-requires-clause-room
join-requires-clause-room c =
    let place = c.loop-place.place in
    let behind = length-drop place c.args.conns.now in
    let same = ap (λ (table : Table). map.len table.connections) c.loop-place.invariant.made in
    let few = opening_few c.args.id c.args.capacity (drop place c.args.conns.now) in
    omega (arith, c.loop-place-test.true, c.requires.count, c.loop-place.invariant.within)
