-- What the hops of the paths so far hold.
use Rattle.std.proofs.Common.{◌≡◌, List, map, take}
use Rattle.std.specs.List.{enumerate_from}
use Rattle.abt_model.specs.Past.{facts_of}
use Rattle.abt_model.specs.Traces.{held_along}
use Rattle.abt_model.specs.declared.event.Event.{Event}
use Rattle.abt_model.specs.Run.{facts_after}
use Rattle.abt_world.specs.Standing.{StandsFor}
use Rattle.abt_step.proofs.net_state.held_of.Given as goal

abbrev pub invariant-loop-conn : goal.invariant-loop-conn
invariant-loop-conn l = (events : List Event) → StandsFor l.net events l.world →
    l.held ≡ map (λ numbered. held_along (facts_of numbered.0 (facts_after l.net events)) numbered.1.path) (enumerate_from 0 (take l.conn l.net.conns))
