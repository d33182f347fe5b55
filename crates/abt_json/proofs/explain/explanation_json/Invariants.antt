-- The world stands for the events so far, and the sightings are those of their past; their outcomes, and the text with the objects of the events that are left, are the whole.
use Rattle.std.proofs.Common.{◌≡◌, ◌++◌, take, drop, []}
use Rattle.abt_model.specs.Run.{facts_after, outcomes_of}
use Rattle.abt_world.specs.Standing.{StandsFor}
use Rattle.abt_reason.specs.Sightings.{AreSightings}
use Rattle.abt_json.specs.Explained.{event_objects}
use Rattle.abt_json.proofs.explain.explanation_json.Given as goal

abbrev pub invariant-loop-index : goal.invariant-loop-index
invariant-loop-index l =
    StandsFor l.net (take l.index l.events) l.world
    × AreSightings l.net (facts_after l.net (take l.index l.events)) l.sightings
    × (l.outcomes ≡ outcomes_of l.net (take l.index l.events))
    × (l.text.items ++ event_objects l.net (facts_after l.net (take l.index l.events)) l.lines l.index (drop l.index l.events) ≡ event_objects l.net [] l.lines 0 l.events)
