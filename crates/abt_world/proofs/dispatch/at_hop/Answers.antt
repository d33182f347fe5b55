use Rattle.std.proofs.Common.{◌≡◌, ℕ, ◌+◌, List, length, sym, subst}
use Rattle.abt_net.specs.Topology.{Topology}
use Rattle.abt_node.specs.Table.{Table}
use Rattle.abt_facts.specs.declared.fact.Fact.{Fact}
use Rattle.abt_actor.specs.Facts.{facts_in}
use Rattle.abt_model.specs.Past.{Past}
use Rattle.abt_model.specs.declared.outcome.Outcome.{Outcome}
use Rattle.abt_model.specs.declared.target.HopEvent.{HopEvent}
use Rattle.abt_model.specs.Outcomes.{after_event}
use Rattle.abt_model.specs.Targets.{event_at_hop, hop_met_by}
use Rattle.abt_world.specs.Looked.{looks_to_take}
use Rattle.abt_world.specs.Steps.{ArePorts, Happens, port_at}
use Rattle.abt_world.specs.Touches.{Touches}
use Rattle.abt_world.proofs.dispatch.at_hop.Goals as goal

-- what an event at a hop makes of the ports
abbrev Serves : Topology → Past → ℕ → List Table → Outcome → List Fact → HopEvent → Type 0
Serves net past place after outcome added x = Happens net past place (event_at_hop place x) outcome added × ArePorts net (after_event net past (event_at_hop place x)) after

-- and what it looks up
abbrev Counts : (old new place : ℕ) → List ℕ → Outcome → HopEvent → Type 0
Counts old new place path outcome x = new ≡ old + looks_to_take (length path) (event_at_hop place x) outcome

pub returns-in-Arrive-clause-outcome : goal.returns-in-Arrive-clause-outcome
returns-in-Arrive-clause-outcome c net past facts log at are emitted =
    subst (Serves net past c.args.place c.arrive.new.ports c.arrive.result.0 (facts_in c.arrive.result.1)) (sym c.in-Arrive.is) (c.arrive.ensures.outcome net past facts log at are emitted)

pub returns-in-Arrive-clause-touches : goal.returns-in-Arrive-clause-touches
returns-in-Arrive-clause-touches c =
    subst (λ (x : HopEvent). Touches (port_at c.args.conn.now.path (hop_met_by x)) c.args.conn.now.vc c.args.ports.now c.arrive.new.ports) (sym c.in-Arrive.is) c.arrive.ensures.touches

pub returns-in-Arrive-clause-counted : goal.returns-in-Arrive-clause-counted
returns-in-Arrive-clause-counted c net past facts log at are emitted room =
    subst (Counts c.args.looks.now c.arrive.new.looks c.args.place c.args.conn.now.path c.arrive.result.0) (sym c.in-Arrive.is) (c.arrive.ensures.counted net past facts log at are emitted room)

pub returns-in-Request-clause-outcome : goal.returns-in-Request-clause-outcome
returns-in-Request-clause-outcome c net past facts log at are emitted =
    subst (Serves net past c.args.place c.request.new.ports c.request.result.0 (facts_in c.request.result.1)) (sym c.in-Request.is) (c.request.ensures.outcome net past facts log at are)

pub returns-in-Request-clause-touches : goal.returns-in-Request-clause-touches
returns-in-Request-clause-touches c =
    subst (λ (x : HopEvent). Touches (port_at c.args.conn.now.path (hop_met_by x)) c.args.conn.now.vc c.args.ports.now c.request.new.ports) (sym c.in-Request.is) c.request.ensures.touches

pub returns-in-Request-clause-counted : goal.returns-in-Request-clause-counted
returns-in-Request-clause-counted c net past facts log at are emitted room =
    subst (Counts c.args.looks.now c.request.new.looks c.args.place c.args.conn.now.path c.request.result.0) (sym c.in-Request.is) (c.request.ensures.counted net past facts log at are room)

pub returns-in-Answer-clause-outcome : goal.returns-in-Answer-clause-outcome
returns-in-Answer-clause-outcome c net past facts log at are emitted =
    subst (Serves net past c.args.place c.answer.new.ports c.answer.result.0 (facts_in c.answer.result.1)) (sym c.in-Answer.is) (c.answer.ensures.outcome net past facts log at are)

pub returns-in-Answer-clause-touches : goal.returns-in-Answer-clause-touches
returns-in-Answer-clause-touches c =
    subst (λ (x : HopEvent). Touches (port_at c.args.conn.now.path (hop_met_by x)) c.args.conn.now.vc c.args.ports.now c.answer.new.ports) (sym c.in-Answer.is) c.answer.ensures.touches

pub returns-in-Answer-clause-counted : goal.returns-in-Answer-clause-counted
returns-in-Answer-clause-counted c net past facts log at are emitted room =
    subst (Counts c.args.looks.now c.answer.new.looks c.args.place c.args.conn.now.path c.answer.result.0) (sym c.in-Answer.is) (c.answer.ensures.counted net past facts log at are room)
