-- What a source may be told to do, what leaves it then, and what a kill leaves.
use Rattle.std.specs.Prelude.{◌≡◌, ◌≢◌, ◌⊎◌, ℕ, true, List, [], ◌∷◌, length}
use Rattle.abt_rate.specs.Limits.{number_max}
use Rattle.abt_rate.specs.Rate.{IsRate}
use Rattle.abt_keep.specs.Record.{KeptRecord}
use Rattle.abt_keep.specs.declared.plan.StorePlan.TheVariants.{Works}
use Rattle.abt_facts.specs.Source.{Down}
use Rattle.abt_source.specs.Calls.{has_to_write, record_to_write}
use Rattle.abt_source.specs.declared.fault.AskFault.TheVariants.{Keep}
use Rattle.abt_model.specs.declared.command.SourceCommand.{SourceCommand}
use Rattle.abt_model.specs.declared.command.SourceCommand.TheVariants.{Ask, Crash, Emit, Told}
use Rattle.abt_model.specs.declared.outcome.Outcome.{Outcome}
use Rattle.abt_model.specs.declared.outcome.Outcome.TheVariants.{Asked, AskRefused, Emitted}
use Rattle.abt_journal.specs.declared.next_message.Next.{Next}
use Rattle.abt_journal.specs.declared.next_message.Next.TheVariants.{Tell}
use Rattle.abt_actor.specs.Actor.{ActorView}
use Rattle.abt_processes.specs.Lists.{IsIn}
use Rattle.abt_processes.specs.Processes.{AccessLine, JournalLine, About}

-- A source may be told to do this: it hears only answers that were sent to it, asks for a rate that a code has, and a store that doesn't work
-- shows it. A process crashes by a kill, and not by a command.
abbrev pub MayBeTold : (sent : List Next) → (conn : ℕ) → SourceCommand → Outcome → Type 0
MayBeTold sent conn (Ask rate plan) outcome = IsRate rate × (outcome ≢ AskRefused Keep → plan ≡ Works)
MayBeTold sent conn (Told answer) outcome = IsIn (Tell conn answer) sent
MayBeTold sent conn Crash outcome = ⊥
MayBeTold sent conn other outcome = Unit {0}

-- What left the source is on its access line: a request behind the cells so far, or a cell. A request that is repeated has left before, and what
-- left may come any number of times.
abbrev pub with_left : AccessLine → SourceCommand → Outcome → AccessLine
with_left line (Ask rate plan) (Asked request) = record line { requests = record { request = request; behind = length line.cells } ∷ line.requests }
with_left line (Emit now) (Emitted cell next) = record line { cells = record { cell = cell; moment = now } ∷ line.cells }
with_left line command outcome = line

-- these lines tell of nothing but what is about to be done
abbrev pub AreAbouts : List JournalLine → Type 0
AreAbouts [] = Unit {0}
AreAbouts (About rate ∷ lines) = AreAbouts lines
AreAbouts (line ∷ lines) = ⊥

-- An ask that a kill cuts off: the source is up and has a number left, the ask has to write, and the store has the record from before or the new
-- one.
pub record IsCutOff (actor : ActorView) (rate : ℕ) (stored : KeptRecord) : Type 0 where
  pub rate_is : IsRate rate
  pub up : actor.state ≢ Down
  pub number_left : actor.source.last ≢ number_max
  pub writes : has_to_write actor.source rate ≡ true
  pub stored_is : (stored ≡ actor.kept) ⊎ (stored ≡ record_to_write actor.source rate)
