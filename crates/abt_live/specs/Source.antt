-- A live source: an actor over any store (docs/LIVE.md, "A source").
use Rattle.std.specs.Prelude.{◌≡◌, ◌≢◌, ℕ, nat_lt, if◌then◌else◌}
use Rattle.abt_rate.specs.Limits.{start_max}
use Rattle.abt_cell.specs.Channel.{Channel}
use Rattle.abt_keep.specs.Record.{KeptRecord}
use Rattle.abt_keep.specs.declared.plan.StorePlan.{StorePlan}
use Rattle.abt_keep.specs.declared.plan.StorePlan.TheVariants.{Works}
use Rattle.abt_facts.specs.Source.{Down, Idle}
use Rattle.abt_source.specs.Calls.{new_source, started_source}
use Rattle.abt_source.specs.declared.fault.AskFault.TheVariants.{Keep}
use Rattle.abt_source.specs.declared.fault.StartFault.TheVariants.{TimeRange}
use Rattle.abt_model.specs.declared.command.SourceCommand.{SourceCommand}
use Rattle.abt_model.specs.declared.command.SourceCommand.TheVariants.{Start, Ask, Told}
use Rattle.abt_model.specs.declared.outcome.Cause.TheVariants.{Down as IsDown, ClockBack}
use Rattle.abt_model.specs.declared.outcome.Heard.TheVariants.{Ignored}
use Rattle.abt_model.specs.declared.outcome.Outcome.{Outcome}
use Rattle.abt_model.specs.declared.outcome.Outcome.TheVariants.{Started, StartRefused, AskRefused, Told as HasTold, NotEnabled}
use Rattle.abt_actor.specs.Actor.{ActorView, CarriesOut}

-- the source of a connection that is down, after so many cells and up to this moment
abbrev pub new_actor : Channel → KeptRecord → (cells clock : ℕ) → ActorView
new_actor vc kept cells clock = record { source = new_source vc; state = Down; kept = kept; cells = cells; clock = clock }

-- What a source that is down answers to a start, and to anything else.
abbrev pub start_answer : ActorView → (now : ℕ) → Outcome
start_answer actor now =
    if nat_lt now actor.clock then NotEnabled ClockBack
    else (if nat_lt start_max now then StartRefused TimeRange else Started)

abbrev pub down_answer : ActorView → SourceCommand → Outcome
down_answer actor (Start now) = start_answer actor now
down_answer actor (Told answer) = HasTold Ignored
down_answer actor other = NotEnabled IsDown

-- what it is then: if it started, the source that its store's record gives, behind its cells
abbrev pub after_down : ActorView → SourceCommand → Outcome → ActorView
after_down actor (Start now) Started = record actor { source = started_source actor.source actor.kept now; state = Idle; clock = now }
after_down actor command outcome = actor

-- A source that is down goes by what outlives a process, the record in its store, its cells and its clock, whatever it was before.
pub record GoesOn (actor : ActorView) (command : SourceCommand) (outcome : Outcome) (after : ActorView) : Type 0 where
  pub answer : actor.state ≡ Down → outcome ≡ down_answer actor command
  pub becomes : actor.state ≡ Down → after ≡ after_down actor command outcome

-- An ask was carried out under a plan of the store: that it works, unless the store didn't keep the record.
pub record AsksBy (actor : ActorView) (rate : ℕ) (outcome : Outcome) (after : ActorView) : Type 0 where
  pub plan : StorePlan
  pub works : outcome ≢ AskRefused Keep → plan ≡ Works
  pub carries : CarriesOut actor (Ask rate plan) outcome after
  pub down : GoesOn actor (Ask rate plan) outcome after
