-- The world stands for the events so far, and what they told is there.
use Rattle.std.proofs.Common.{◌≡◌, ◌++◌, List, take}
use Rattle.abt_chart.specs.Tellings.{told_after}
use Rattle.abt_model.specs.declared.event.Event.{Event}
use Rattle.abt_world.specs.Standing.{StandsFor}
use Rattle.abt_chart.proofs.chart.carry.Given as goal

abbrev pub invariant-loop-event : goal.invariant-loop-event
invariant-loop-event l = (past : List Event) → StandsFor l.net past l.initial.world →
    StandsFor l.net (past ++ take l.event-index l.events) l.world
    × (l.initial.told ≡ told_after l.net past → l.told ≡ told_after l.net (past ++ take l.event-index l.events))
