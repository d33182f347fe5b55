-- The actor that keeps a source, as contracts see it.
use Rattle.std.specs.Prelude.{◌≡◌, ◌≢◌, ℕ, ◌+◌, ◌*◌, ◌≤◌, ◌++◌, Bool, true, false, List, Option, None, Some, IfSome}
use Rattle.abt_rate.specs.Limits.{spacing_min}
use Rattle.abt_cell.specs.Channel.{Channel}
use Rattle.abt_keep.specs.Record.{KeptRecord}
use Rattle.abt_source.specs.SourceView.{SourceView}
use Rattle.abt_source.specs.SourceFacts.{view_of}
use Rattle.abt_facts.specs.declared.fact.Fact.{Fact}
use Rattle.abt_facts.specs.Source.{SourceState, Down, Idle, Asking, state_of, stored_of, clock_of}
use Rattle.abt_facts.specs.Cells.{emitted_of}
use Rattle.abt_model.specs.declared.command.SourceCommand.{SourceCommand}
use Rattle.abt_model.specs.declared.outcome.Outcome.{Outcome}
use Rattle.abt_actor.specs.Commands.{command_answer, command_adds}

-- a source and its state, and what outlives a crash: the record in its store, how many cells were emitted, and the last moment
-- of a start or an emission
pub record ActorView : Type 0 where
  pub source : SourceView
  pub state : SourceState
  pub kept : KeptRecord
  pub cells : ℕ
  pub clock : ℕ

-- the actor that the facts of its connection give
abbrev pub actor_of : Channel → List Fact → ActorView
actor_of vc facts = record {
  source = view_of vc facts;
  state = state_of facts;
  kept = stored_of facts;
  cells = emitted_of facts;
  clock = clock_of facts;
}

-- whether a source waits for an answer
abbrev pub is_asking_in : SourceState → Bool
is_asking_in Down = false
is_asking_in Idle = false
is_asking_in (Asking seq) = true

-- the number whose answer a source waits for, if it waits for one
abbrev pub awaited_in : SourceState → Option ℕ
awaited_in Down = None
awaited_in Idle = None
awaited_in (Asking seq) = Some seq

-- An actor carries out a command: after all facts that give it, it answers what the command does then, and becomes the actor of
-- the facts with those that this adds.
abbrev pub CarriesOut : ActorView → SourceCommand → Outcome → ActorView → Type 0
CarriesOut actor command outcome after =
    (vc : Channel) (facts : List Fact) → actor ≡ actor_of vc facts →
    (outcome ≡ command_answer vc facts command) × (after ≡ actor_of vc (command_adds facts command outcome ++ facts))

-- what holds of each actor: a cell for each 234 picoseconds of its clock at most, none leaves while it is up before so much time
-- went by since the last start or cell, and a source that is down has no rate
pub record IsSound (actor : ActorView) : Type 0 where
  pub apart : spacing_min * actor.cells ≤ actor.clock
  pub due : actor.state ≢ Down → actor.clock + spacing_min ≤ actor.source.next
  pub emitted : IfSome actor.source.emitted (λ moment. moment ≤ actor.clock)
  pub still : actor.state ≡ Down → actor.source.rate ≡ 0
