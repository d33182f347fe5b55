-- The steps of a net that events happen to line by line.
use Rattle.std.specs.Prelude.{◌≡◌, ℕ, true, List, length, Option}
use Rattle.abt_text.specs.Text.{Text}
use Rattle.abt_lines.specs.Runs.{Ends, Runs, Steps}
use Rattle.abt_net.specs.Topology.{Topology}
use Rattle.abt_model.specs.declared.event.Event.{Event}
use Rattle.abt_model.specs.Run.{facts_after}
use Rattle.abt_reason.specs.Sightings.{AreSightings}
use Rattle.abt_world.specs.Headline.{HeadlineHolds}
use Rattle.abt_world.specs.Standing.{StandsFor}
use Rattle.abt_step.specs.Asked.{asked_on}
use Rattle.abt_step.specs.Possible.{asks_of}
use Rattle.abt_step.specs.Stepped.{answer_to, answers_to, ending, events_past, events_past_all}
use Rattle.abt_plans.specs.declared.answer_form.AnswerForm.{AnswerForm}
use Rattle.abt_step.specs.declared.asked.Asked.{Asked}
use Rattle.abt_step.specs.declared.net_at_work.NetAtWork.{NetAtWork}
use Rattle.abt_step.specs.declared.stepped.SteppedLines.{SteppedLines}

-- A net at work stands at some events: its world stands for them, and it knows which requests they asked, and where their messages lie.
pub record WorksAt (net : Topology) (events : List Event) (work : NetAtWork) : Type 0 where
  pub net_is : work.net.now ≡ net
  pub world : StandsFor net events work.world
  pub seen : AreSightings net (facts_after net events) work.sightings
  pub asks : work.asks.items ≡ asks_of (facts_after net events)

-- Lines stand at some events of a net that was opened with some: its work stands at them, and they are counted.
pub record StandsAt (form : AnswerForm) (net : Topology) (opening events : List Event) (lines : SteppedLines) : Type 0 where
  pub form_is : lines.form ≡ form
  pub net_is : lines.net.now ≡ net
  pub opening_is : lines.opening.now ≡ opening
  pub works : WorksAt net events lines.work
  pub count : lines.count ≡ length events

-- What was asked for is done: the answer is the net's, the lines stand at the events then, and the headline holds of them.
pub record IsPast (form : AnswerForm) (net : Topology) (opening events : List Event) (asked : Asked) (said : Text) (new : SteppedLines) : Type 0 where
  pub says : said ≡ answer_to form net opening events asked
  pub stands : StandsAt form net opening (events_past opening events asked) new
  pub headline : HeadlineHolds net (facts_after net (events_past opening events asked))

-- a step: whatever events the lines stand at, what their next one asks for is done
abbrev pub StepsLine : Steps SteppedLines
StepsLine old number line said new =
    (form : AnswerForm) (net : Topology) (opening events : List Event) → StandsAt form net opening events old
    → IsPast form net opening events (asked_on line) said new

-- What is said at the end is that the net is safe, which the headline promises of whatever happened.
abbrev pub EndsStepping : Ends SteppedLines
EndsStepping last number said =
    (form : AnswerForm) (net : Topology) (opening events : List Event) → StandsAt form net opening events last → said ≡ ending form true

-- over lines that stand at some events, a run of steps says the answers to what the lines ask for, and leads to where they then stand
abbrev pub AnswersLines : Type 0
AnswersLines = (form : AnswerForm) (net : Topology) (opening events : List Event) (old new : SteppedLines) (number : ℕ) (lines : List (Option Text))
    (said : Text) → StandsAt form net opening events old → Runs StepsLine old number lines said new
    → (said ≡ answers_to form net opening events lines) × StandsAt form net opening (events_past_all opening events lines) new
