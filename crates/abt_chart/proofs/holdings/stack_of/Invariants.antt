-- What the connections so far hold there.
use Rattle.std.proofs.Common.{◌≡◌, List, map, take}
use Rattle.std.specs.List.{enumerate_from}
use Rattle.abt_model.specs.declared.event.Event.{Event}
use Rattle.abt_model.specs.Past.{facts_of}
use Rattle.abt_model.specs.Reserved.{held_on}
use Rattle.abt_model.specs.Run.{facts_after}
use Rattle.abt_world.specs.Standing.{StandsFor}
use Rattle.abt_chart.proofs.holdings.stack_of.Given as goal

abbrev pub invariant-loop-place : goal.invariant-loop-place
invariant-loop-place l = (events : List Event) → StandsFor l.net events l.world →
    l.stack ≡ map (λ numbered. held_on (facts_of numbered.0 (facts_after l.net events)) numbered.1.path l.port) (enumerate_from 0 (take l.place l.net.conns))
