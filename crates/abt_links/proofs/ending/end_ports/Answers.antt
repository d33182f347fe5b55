use Rattle.std.proofs.Common.{rules}
use Rattle.abt_links.proofs.Closing.{port_more}
use Rattle.abt_links.proofs.ending.end_ports.Goals as goal

pub loop-cell-preserved : goal.loop-cell-preserved
loop-cell-preserved g c =
    let state = c.into_state-state.result.0 in
    let station = c.into_station.result in
    let ended = c.into_state-state.ensures.ended in
    (search rules, port_more g.N.Place.net c.loop-cell.states.items c.push_reserved.new.self.items state station.port c.loop-cell.front c.into_state-state.result.1 c.with-front.result c.push_reserved.ensures.items c.loop-cell.invariant.1 c.into_state-state.ensures.port ended c.with-front.ensures.this c.with-front.ensures.that)
