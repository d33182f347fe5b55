use Rattle.std.proofs.Common.{[], refl}
use Rattle.abt_history.specs.Stations.{StationView}
use Rattle.abt_history.proofs.Stations.{tells_wounds}
use Rattle.abt_history.proofs.station.StationOf+NotKept.take.Goals as goal

pub returns-clause-wound : goal.returns-clause-wound
returns-clause-wound c =
    let s = c.self.inside in
    let inside : StationView = record { port = s.state.opening.id; state = s.state; front = [] } in
    tells_wounds (record { capacities = []; conns = [] }) inside c.args.self.now c.step.result c.step.result c.id-port.result c.args.seat.now.receipts c.id-port.ensures.opening c.self.view_is refl c.step.ensures.wound
