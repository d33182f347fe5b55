-- The world stands for the events so far, and the sightings are those of their past; their outcomes, and the text with the lines of the events that are left, are the whole.
use Rattle.std.proofs.Common.{◌≡◌, ◌++◌, take, drop, [], string_bytes}
use Rattle.abt_model.specs.Run.{facts_after, outcomes_of}
use Rattle.abt_world.specs.Standing.{StandsFor}
use Rattle.abt_reason.specs.Explanation.{event_lines}
use Rattle.abt_reason.specs.Sightings.{AreSightings}
use Rattle.abt_reason.proofs.explanation.explanation_of.Given as goal

abbrev pub invariant-loop-index : goal.invariant-loop-index
invariant-loop-index l =
    StandsFor l.net (take l.index l.events) l.world
    × AreSightings l.net (facts_after l.net (take l.index l.events)) l.sightings
    × (l.outcomes ≡ outcomes_of l.net (take l.index l.events))
    × (string_bytes l.text ++ event_lines l.net (facts_after l.net (take l.index l.events)) l.places l.index (drop l.index l.events) ≡ event_lines l.net [] l.places 0 l.events)
