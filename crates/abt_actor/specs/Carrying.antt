-- Actors after commands.
use Rattle.std.specs.Prelude.{◌≡◌, ◌++◌, List}
use Rattle.abt_cell.specs.Channel.{Channel}
use Rattle.abt_facts.specs.declared.fact.Fact.{Fact}
use Rattle.abt_model.specs.declared.command.SourceCommand.{SourceCommand}
use Rattle.abt_actor.specs.Actor.{ActorView, actor_of}
use Rattle.abt_actor.specs.Commands.{command_answer, command_adds}
use Rattle.abt_model.specs.declared.outcome.Outcome.{Outcome}

-- a command to the actor that such facts give: its outcome, the facts that it adds, and the actor after it
pub record IsCarried (vc : Channel) (facts : List Fact) (command : SourceCommand) (outcome : Outcome) (added : List Fact) (after : ActorView) : Type 0 where
  pub answer : outcome ≡ command_answer vc facts command
  pub adds : added ≡ command_adds facts command outcome
  pub becomes : after ≡ actor_of vc (added ++ facts)

-- The actor carries the command out so, of all facts that give it.
abbrev pub Carries : ActorView → SourceCommand → Outcome → List Fact → ActorView → Type 0
Carries actor command outcome added after =
    (vc : Channel) (facts : List Fact) → actor ≡ actor_of vc facts → IsCarried vc facts command outcome added after
