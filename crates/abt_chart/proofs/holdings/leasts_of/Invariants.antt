-- The least of each connection so far.
use Rattle.std.proofs.Common.{◌≡◌, List, length, map, take}
use Rattle.std.specs.List.{enumerate_from}
use Rattle.abt_model.specs.declared.event.Event.{Event}
use Rattle.abt_model.specs.Past.{facts_of}
use Rattle.abt_model.specs.Run.{facts_after}
use Rattle.abt_world.specs.Standing.{StandsFor}
use Rattle.abt_chart.specs.Frames.{least_held}
use Rattle.abt_chart.proofs.holdings.leasts_of.Given as goal

abbrev pub invariant-loop-place : goal.invariant-loop-place
invariant-loop-place l = (events : List Event) → StandsFor l.net events l.world →
    l.leasts ≡ map (λ numbered. least_held (facts_of numbered.0 (facts_after l.net events)) (length numbered.1.path)) (enumerate_from 0 (take l.place l.net.conns))
