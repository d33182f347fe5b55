use Rattle.std.proofs.Common.{◌<◌, List, length}
use mathlib.Core.List.{IsPrefix}
use Rattle.abt_net.specs.Topology.{IsWithinRules}
use Rattle.abt_journal.specs.declared.input.PortInput.TheVariants.{Capacity}
use Rattle.abt_serving.specs.Messages.{ComesNow}
use Rattle.abt_serving.proofs.Capacities.{capacity_comes}
use Rattle.abt_history.specs.declared.deed.Deed.{Deed}
use Rattle.abt_history.specs.Histories.{happened}
use Rattle.abt_history.specs.Legal.{IsLegal}
use Rattle.abt_history.proofs.Growing.{rates_of}
use Rattle.abt_history.proofs.Modes.{where_kept}
use Rattle.abt_history.proofs.station.StationOf.set_capacity.Goals as goal

pub step-requires : goal.step-requires
step-requires g c =
    let k = g.K.Keeping in
    let net = k.net in
    let port = c.args.self.now.port in
    let comes : IsWithinRules net → port < length net.capacities → (log : List Deed) → IsPrefix (k.log c.again-seen.result) log → IsLegal net log → ComesNow net (happened log) port (Capacity c.args.capacity)
    = λ rules low log pre legal. capacity_comes net (happened log) port c.args.capacity rules (rates_of net log legal) low in
    record { comes = where_kept k.kept (λ is. comes) }
