-- The answers of a net to lines: answer K is the outcome of event K, whatever else the lines between say.
use Rattle.std.specs.Prelude.{◌+◌, Bool, true, List, [], ◌∷◌, ◌++◌, if◌then◌else◌, length, Option, None, Some}
use Rattle.abt_text.specs.Text.{Text, ◌⋅◌}
use Rattle.abt_format.specs.Report.{safe_line}
use Rattle.abt_net.specs.Topology.{Topology}
use Rattle.abt_model.specs.declared.event.Event.{Event}
use Rattle.abt_model.specs.Outcomes.{outcome_of}
use Rattle.abt_model.specs.Run.{facts_after}
use Rattle.abt_reason.specs.Grounds.{grounds_of}
use Rattle.abt_step.specs.AnswerLines.{event_lines, fault_line, reset_lines}
use Rattle.abt_step.specs.AnswerObjects.{end_object, event_object, fault_object, possible_object, report_object, reset_object, state_object}
use Rattle.abt_step.specs.Asked.{asked_on}
use Rattle.abt_step.specs.NetStates.{state_after}
use Rattle.abt_step.specs.Possible.{possible_after}
use Rattle.abt_step.specs.PossibleWords.{possible_line}
use Rattle.abt_step.specs.StateWords.{report_lines, state_line}
use Rattle.abt_plans.specs.declared.answer_form.AnswerForm.{AnswerForm}
use Rattle.abt_step.specs.declared.asked.Asked.{Asked}
use Rattle.abt_step.specs.declared.asked.Asked.TheVariants.{Nothing, Happen, Reset, Tell, Wrong}
use Rattle.abt_step.specs.declared.asked.Query.{Query}
use Rattle.abt_step.specs.declared.asked.Query.TheVariants.{State, Report, Possible as Next}
use Rattle.abt_step.specs.declared.net_state.NetState.{NetState}
use Rattle.abt_step.specs.declared.possible.Possible.{Possible}
use Rattle.abt_step.specs.declared.shown.Shown.{Shown}

-- the events that have happened then: at the beginning these are those of the opening
abbrev pub events_past : (opening events : List Event) → Asked → List Event
events_past opening events Nothing = events
events_past opening events (Happen event) = events ++ event ∷ []
events_past opening events Reset = opening
events_past opening events (Tell query) = events
events_past opening events (Wrong fault) = events

-- the state behind an answer, if it is wanted, and what can happen next then
abbrev pub wanted_state : (wanted : Bool) → Topology → List Event → Option NetState
wanted_state wanted net events = if wanted then Some (state_after net (facts_after net events)) else None

abbrev pub wanted_possible : (wanted : Bool) → Topology → List Event → Option Possible
wanted_possible wanted net events = if wanted then Some (possible_after net (facts_after net events)) else None

abbrev pub shown_after : AnswerForm → Topology → List Event → Shown
shown_after form net events =
    record { state = wanted_state form.state net events; possible = wanted_possible form.possible net events }

abbrev pub query_lines : Topology → List Event → Query → Text
query_lines net events State = state_line (state_after net (facts_after net events))
query_lines net events Report = report_lines (state_after net (facts_after net events))
query_lines net events Next = possible_line (possible_after net (facts_after net events))

-- the answer in words to what a line asks for, if these events have happened: the outcome is that of a run of them, with the event's
-- number there
abbrev pub lines_to : AnswerForm → Topology → (opening events : List Event) → Asked → Text
lines_to form net opening events Nothing = []
lines_to form net opening events (Happen event) =
    event_lines (length events + 1) (outcome_of net (facts_after net events) event) (shown_after form net (events ++ event ∷ []))
lines_to form net opening events Reset = reset_lines (shown_after form net opening)
lines_to form net opening events (Tell query) = query_lines net events query
lines_to form net opening events (Wrong fault) = fault_line fault

abbrev pub query_object : Topology → List Event → Query → Text
query_object net events State = state_object (state_after net (facts_after net events))
query_object net events Report = report_object (state_after net (facts_after net events))
query_object net events Next = possible_object (possible_after net (facts_after net events))

-- the same as an object
abbrev pub object_to : AnswerForm → Topology → (opening events : List Event) → Asked → Text
object_to form net opening events Nothing = []
object_to form net opening events (Happen event) =
    event_object (length events + 1) event (grounds_of net (facts_after net events) event) (outcome_of net (facts_after net events) event)
    (shown_after form net (events ++ event ∷ []))
object_to form net opening events Reset = reset_object (shown_after form net opening)
object_to form net opening events (Tell query) = query_object net events query
object_to form net opening events (Wrong fault) = fault_object fault

-- the answer in the form that is wanted
abbrev pub answer_to : AnswerForm → Topology → (opening events : List Event) → Asked → Text
answer_to form net opening events asked =
    if form.json then object_to form net opening events asked else lines_to form net opening events asked

-- what is said behind the last answer
abbrev pub ending : AnswerForm → Bool → Text
ending form safe = if form.json then end_object safe else safe_line safe

-- the answers to some lines, one after the other, and the events that have happened past them
abbrev pub answers_to : AnswerForm → Topology → (opening events : List Event) → List (Option Text) → Text
answers_to form net opening events [] = []
answers_to form net opening events (line ∷ lines) =
    answer_to form net opening events (asked_on line) ⋅ answers_to form net opening (events_past opening events (asked_on line)) lines

abbrev pub events_past_all : (opening events : List Event) → List (Option Text) → List Event
events_past_all opening events [] = events
events_past_all opening events (line ∷ lines) = events_past_all opening (events_past opening events (asked_on line)) lines

-- the answers to all lines, and what is said behind the last
abbrev pub dialogue : AnswerForm → Topology → (opening : List Event) → List (Option Text) → Text
dialogue form net opening lines = answers_to form net opening opening lines ⋅ ending form true
