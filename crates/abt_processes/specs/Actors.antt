-- What the process of a source does with a command.
use Rattle.std.specs.Prelude.{◌≡◌, ◌≢◌, ◌++◌, ℕ, List}
use Rattle.abt_cell.specs.Channel.{Channel}
use Rattle.abt_keep.specs.Record.{KeptRecord}
use Rattle.abt_facts.specs.declared.fact.Fact.{Fact}
use Rattle.abt_facts.specs.Source.{Down}
use Rattle.abt_source.specs.Calls.{new_source}
use Rattle.abt_model.specs.declared.command.SourceCommand.{SourceCommand}
use Rattle.abt_model.specs.declared.outcome.Outcome.{Outcome}
use Rattle.abt_actor.specs.Actor.{ActorView, actor_of}
use Rattle.abt_actor.specs.Commands.{command_answer, command_adds}

-- Two actors are alike: they are of one connection and in one state, with one record in their stores, one count of cells and one clock; and if
-- they are up, they are one source. What a source that is down had before is lost.
pub record IsAlike (one other : ActorView) : Type 0 where
  pub channel : other.source.vc ≡ one.source.vc
  pub state : other.state ≡ one.state
  pub kept : other.kept ≡ one.kept
  pub cells : other.cells ≡ one.cells
  pub clock : other.clock ≡ one.clock
  pub source : one.state ≢ Down → other.source ≡ one.source

-- An actor does what a command asks for: it answers what the event of that name does, by all facts of the connection that make it alike, and is
-- alike after it.
abbrev pub Does : ActorView → SourceCommand → Outcome → ActorView → Type 0
Does actor command outcome after =
    (vc : Channel) (facts : List Fact) → IsAlike (actor_of vc facts) actor →
    (outcome ≡ command_answer vc facts command) × IsAlike (actor_of vc (command_adds facts command outcome ++ facts)) after

-- the actor of a process that has begun: it is down, over its store, behind so many cells, and at this moment
abbrev pub begun : Channel → KeptRecord → (cells clock : ℕ) → ActorView
begun vc stored cells clock = record { source = new_source vc; state = Down; kept = stored; cells = cells; clock = clock }
