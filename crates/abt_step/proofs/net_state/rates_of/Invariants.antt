-- The rates of the connections so far.
use Rattle.std.proofs.Common.{◌≡◌, List, map, take}
use Rattle.std.specs.List.{enumerate_from}
use Rattle.abt_facts.specs.Source.{rate_of}
use Rattle.abt_model.specs.Past.{facts_of}
use Rattle.abt_model.specs.declared.event.Event.{Event}
use Rattle.abt_model.specs.Run.{facts_after}
use Rattle.abt_world.specs.Standing.{StandsFor}
use Rattle.abt_step.proofs.net_state.rates_of.Given as goal

abbrev pub invariant-loop-conn : goal.invariant-loop-conn
invariant-loop-conn l = (events : List Event) → StandsFor l.net events l.world →
    l.rates ≡ map (λ numbered. rate_of (facts_of numbered.0 (facts_after l.net events))) (enumerate_from 0 (take l.conn l.net.conns))
