-- The capacities of the ports so far.
use Rattle.std.proofs.Common.{◌≡◌, List, map, take}
use Rattle.std.specs.List.{enumerate_from}
use Rattle.abt_model.specs.Reserved.{capacity_of}
use Rattle.abt_model.specs.declared.event.Event.{Event}
use Rattle.abt_model.specs.Run.{facts_after}
use Rattle.abt_world.specs.Standing.{StandsFor}
use Rattle.abt_step.proofs.net_state.capacities_of.Given as goal

abbrev pub invariant-loop-port : goal.invariant-loop-port
invariant-loop-port l = (events : List Event) → StandsFor l.net events l.world →
    l.capacities ≡ map (λ numbered. capacity_of l.net (facts_after l.net events) numbered.0) (enumerate_from 0 (take l.port l.net.capacities))
