use Rattle.std.proofs.Common.{◌≡◌, ℕ, ◌+◌, List, ◌++◌, length, sym, subst}
use Rattle.abt_net.specs.Topology.{Topology}
use Rattle.abt_net.specs.declared.conn.Conn.{Conn}
use Rattle.abt_facts.specs.declared.fact.Fact.{Fact}
use Rattle.abt_actor.specs.Actor.{ActorView, actor_of}
use Rattle.abt_actor.specs.Facts.{facts_in}
use Rattle.abt_model.specs.declared.command.SourceCommand.TheVariants as command
use Rattle.abt_model.specs.Past.{Past}
use Rattle.abt_model.specs.declared.outcome.Outcome.{Outcome}
use Rattle.abt_model.specs.declared.target.SourceEvent.{SourceEvent}
use Rattle.abt_model.specs.Targets.{event_at_source}
use Rattle.abt_world.specs.Looked.{looks_to_take}
use Rattle.abt_world.specs.Steps.{Happens}
use Rattle.abt_world.proofs.Happening.{command_happens}
use Rattle.abt_world.proofs.dispatch.at_source.Goals as goal

-- what an event at a source makes of its actor
abbrev Becomes : Topology → Past → Conn → List Fact → ℕ → ActorView → Outcome → List Fact → SourceEvent → Type 0
Becomes net past conn facts place new outcome added x = Happens net past place (event_at_source place x) outcome added × (new ≡ actor_of conn.vc (added ++ facts))

pub returns-in-Start-clause-outcome : goal.returns-in-Start-clause-outcome
returns-in-Start-clause-outcome c net past facts log at is =
    subst (Becomes net past c.args.conn.now facts c.args.place c.carry_out.new.self c.carry_out.result.0 (facts_in c.carry_out.result.1)) (sym c.in-Start.is)
    (command_happens net past c.args.conn.now facts c.args.place (command.Start c.in-Start.now) c.args.actor.now c.carry_out.new.self c.carry_out.result.0 (facts_in c.carry_out.result.1) tt c.carry_out.ensures at is)

pub returns-in-Ask-clause-outcome : goal.returns-in-Ask-clause-outcome
returns-in-Ask-clause-outcome c net past facts log at is =
    subst (Becomes net past c.args.conn.now facts c.args.place c.carry_out-in-Ask.new.self c.carry_out-in-Ask.result.0 (facts_in c.carry_out-in-Ask.result.1)) (sym c.in-Ask.is)
    (command_happens net past c.args.conn.now facts c.args.place (command.Ask c.in-Ask.rate c.in-Ask.plan) c.args.actor.now c.carry_out-in-Ask.new.self c.carry_out-in-Ask.result.0 (facts_in c.carry_out-in-Ask.result.1) tt c.carry_out-in-Ask.ensures at is)

pub returns-in-Again-clause-outcome : goal.returns-in-Again-clause-outcome
returns-in-Again-clause-outcome c net past facts log at is =
    subst (Becomes net past c.args.conn.now facts c.args.place c.carry_out-in-Again.new.self c.carry_out-in-Again.result.0 (facts_in c.carry_out-in-Again.result.1)) (sym c.in-Again.is)
    (command_happens net past c.args.conn.now facts c.args.place command.Again c.args.actor.now c.carry_out-in-Again.new.self c.carry_out-in-Again.result.0 (facts_in c.carry_out-in-Again.result.1) tt c.carry_out-in-Again.ensures at is)

pub returns-in-Crash-clause-outcome : goal.returns-in-Crash-clause-outcome
returns-in-Crash-clause-outcome c net past facts log at is =
    subst (Becomes net past c.args.conn.now facts c.args.place c.carry_out-in-Crash.new.self c.carry_out-in-Crash.result.0 (facts_in c.carry_out-in-Crash.result.1)) (sym c.in-Crash.is)
    (command_happens net past c.args.conn.now facts c.args.place command.Crash c.args.actor.now c.carry_out-in-Crash.new.self c.carry_out-in-Crash.result.0 (facts_in c.carry_out-in-Crash.result.1) tt c.carry_out-in-Crash.ensures at is)

pub returns-in-Emit-clause-outcome : goal.returns-in-Emit-clause-outcome
returns-in-Emit-clause-outcome c net past facts log at is =
    subst (Becomes net past c.args.conn.now facts c.args.place c.carry_out-in-Emit.new.self c.carry_out-in-Emit.result.0 (facts_in c.carry_out-in-Emit.result.1)) (sym c.in-Emit.is)
    (command_happens net past c.args.conn.now facts c.args.place (command.Emit c.in-Emit.now) c.args.actor.now c.carry_out-in-Emit.new.self c.carry_out-in-Emit.result.0 (facts_in c.carry_out-in-Emit.result.1) tt c.carry_out-in-Emit.ensures at is)

pub returns-in-Told-clause-outcome : goal.returns-in-Told-clause-outcome
returns-in-Told-clause-outcome c net past facts log at is =
    subst (Becomes net past c.args.conn.now facts c.args.place c.told.new.actor c.told.result.0 (facts_in c.told.result.1)) (sym c.in-Told.is)
    (c.told.ensures.outcome net past facts log at is)

pub returns-in-Told-clause-counted : goal.returns-in-Told-clause-counted
returns-in-Told-clause-counted c net past facts log at is room =
    subst (λ (x : SourceEvent). c.told.new.looks ≡ c.args.looks.now + looks_to_take (length c.args.conn.now.path) (event_at_source c.args.place x) c.told.result.0) (sym c.in-Told.is)
    (c.told.ensures.counted net past facts log at is room)
