-- Runs of lists of events, the first of them first.
use Rattle.std.specs.Prelude.{List, [], ◌∷◌}
use Rattle.abt_net.specs.Topology.{Topology}
use Rattle.abt_model.specs.Past.{Past}
use Rattle.abt_model.specs.declared.event.Event.{Event}
use Rattle.abt_model.specs.declared.outcome.Outcome.{Outcome}
use Rattle.abt_model.specs.Outcomes.{outcome_of, after_event}

-- the past that events leave behind, after an earlier past
abbrev pub facts_from : Topology → Past → List Event → Past
facts_from net past [] = past
facts_from net past (event ∷ events) = facts_from net (after_event net past event) events

-- the outcomes of events, each after those before it
abbrev pub outcomes_from : Topology → Past → List Event → List Outcome
outcomes_from net past [] = []
outcomes_from net past (event ∷ events) = outcome_of net past event ∷ outcomes_from net (after_event net past event) events

-- the past after a list of events from the beginning
abbrev pub facts_after : Topology → List Event → Past
facts_after net events = facts_from net [] events

abbrev pub outcomes_of : Topology → List Event → List Outcome
outcomes_of net events = outcomes_from net [] events
