use Rattle.std.proofs.Common.{◌≡◌, ℕ, ◌+◌, ◌∙◌, List, refl, sym, subst, ap, arith, length}
use Rattle.std.specs.Prelude.{Some}
use Rattle.abt_net.specs.Topology.{Topology}
use Rattle.abt_net.specs.declared.conn.Conn.{Conn}
use Rattle.abt_facts.specs.declared.fact.Fact.{Fact}
use Rattle.abt_actor.specs.Facts.{facts_in}
use Rattle.abt_model.specs.declared.event.Event.{Event}
use Rattle.abt_model.specs.declared.outcome.Outcome.{Outcome}
use Rattle.abt_model.specs.declared.target.Target.{Target}
use Rattle.abt_model.specs.declared.target.Target.TheVariants.{Source, Hop, End}
use Rattle.abt_model.specs.Outcomes.{conn_of, after_event, facts_added}
use Rattle.abt_model.specs.Past.{Past, facts_of}
use Rattle.abt_model.specs.Targets.{target_of, event_at, conn_in, hop_in}
use Rattle.abt_model.proofs.Targets.{event_is}
use Rattle.abt_world.specs.Looked.{looks_to_take}
use Rattle.abt_world.specs.Steps.{IsConnAt, ArePorts, Happens}
use Rattle.abt_world.specs.Touches.{port_visited, visited, Touches}
use Rattle.abt_world.proofs.Happening.{AreOfHops, tables_kept, actor_left, hop_kind, turn_kind}
use Rattle.abt_world.proofs.Touching.{untouched}
use Rattle.abt_world.proofs.Standings.{some_same}
use Rattle.abt_world.proofs.dispatch.dispatch.Goals as goal

-- the connection is that of the target
same_conn : (c place : ℕ) (e : Event) (t : Target) → target_of e ≡ t → conn_in t ≡ Some place → conn_of e ≡ Some c → c ≡ place
same_conn c place e t is whose own = some_same c place (sym own ∙ ap conn_in is ∙ whose)

at_target : (net : Topology) (past : Past) (c place : ℕ) (conn : Conn) (facts : List Fact) (e : Event) (t : Target) → target_of e ≡ t → conn_in t ≡ Some place → conn_of e ≡ Some c → IsConnAt net past c conn facts →
    IsConnAt net past place conn facts
at_target net past c place conn facts e t is whose own at = subst (λ (d : ℕ). IsConnAt net past d conn facts) (same_conn c place e t is whose own) at

-- what the event of the target does is what the event does
happens_as : (net : Topology) (past : Past) (c place : ℕ) (outcome : Outcome) (added : List Fact) (e : Event) (t : Target) → target_of e ≡ t → conn_in t ≡ Some place → conn_of e ≡ Some c →
    Happens net past place (event_at t) outcome added → Happens net past c e outcome added
happens_as net past c place outcome added e t is whose own done =
    subst (λ (d : ℕ). Happens net past d e outcome added) (sym (same_conn c place e t is whose own))
    (subst (λ (f : Event). Happens net past place f outcome added) (sym (event_is e t is)) done)

pub returns-in-Source-clause-outcome : goal.returns-in-Source-clause-outcome
returns-in-Source-clause-outcome c net past n facts log asks own at are actor_is =
    let e = c.args.event.now in
    let t = Source c.in-Source.place c.in-Source.event in
    let is : target_of e ≡ t = sym c.target.ensures.value ∙ c.in-Source.is in
    let done = c.at_source.ensures.outcome net past facts log (at_target net past n c.in-Source.place c.args.conn.now facts e t is refl own at) actor_is in (
      happens_as net past n c.in-Source.place c.at_source.result.0 (facts_in c.at_source.result.1) e t is refl own done.0,
      tables_kept net past e n c.args.conn.now facts c.args.ports.now asks own at are (ap hop_in is),
      done.1,
    )

pub returns-in-Hop-clause-outcome : goal.returns-in-Hop-clause-outcome
returns-in-Hop-clause-outcome c net past n facts log asks own at are actor_is =
    let e = c.args.event.now in
    let t = Hop c.in-Hop.place c.in-Hop.event in
    let is : target_of e ≡ t = sym c.target.ensures.value ∙ c.in-Hop.is in
    let outcome = c.at_hop.result.0 in
    let served = c.at_hop.ensures.outcome net past facts log (at_target net past n c.in-Hop.place c.args.conn.now facts e t is refl own at) are (c.cells.ensures ∙ ap (λ a. a.cells) actor_is) in
    let done = happens_as net past n c.in-Hop.place outcome (facts_in c.at_hop.result.1) e t is refl own served.0 in
    let kinds = subst (λ (f : Event). AreOfHops (facts_added (facts_of n past) f outcome)) (sym (event_is e t is))
    (hop_kind (facts_of n past) c.in-Hop.place c.in-Hop.event outcome) in (
      done,
      subst (λ (f : Event). ArePorts net (after_event net past f) c.at_hop.new.ports) (sym (event_is e t is)) served.1,
      actor_left net past e n c.args.conn.now facts c.args.actor.now outcome (facts_in c.at_hop.result.1) done kinds actor_is,
    )

pub returns-in-End-clause-outcome : goal.returns-in-End-clause-outcome
returns-in-End-clause-outcome c net past n facts log asks own at are actor_is =
    let e = c.args.event.now in
    let t = End c.in-End.place c.in-End.seq in
    let is : target_of e ≡ t = sym c.target.ensures.value ∙ c.in-End.is in
    let outcome = c.turn.result.0 in
    let done = happens_as net past n c.in-End.place outcome (facts_in c.turn.result.1) e t is refl own (c.turn.ensures.outcome net past facts log (at_target net past n c.in-End.place c.args.conn.now facts e t is refl own at)) in
    let kinds = subst (λ (f : Event). AreOfHops (facts_added (facts_of n past) f outcome)) (sym (event_is e t is))
    (turn_kind (facts_of n past) c.in-End.place c.in-End.seq outcome) in (
      done,
      tables_kept net past e n c.args.conn.now facts c.args.ports.now asks own at are (ap hop_in is),
      actor_left net past e n c.args.conn.now facts c.args.actor.now outcome (facts_in c.turn.result.1) done kinds actor_is,
    )

pub returns-in-Source-clause-touches : goal.returns-in-Source-clause-touches
returns-in-Source-clause-touches c = untouched (visited c.args.conn.now c.args.event.now) c.args.conn.now.vc c.args.ports.now

pub returns-in-End-clause-touches : goal.returns-in-End-clause-touches
returns-in-End-clause-touches c = untouched (visited c.args.conn.now c.args.event.now) c.args.conn.now.vc c.args.ports.now

pub returns-in-Hop-clause-touches : goal.returns-in-Hop-clause-touches
returns-in-Hop-clause-touches c =
    subst (λ (t : Target). Touches (port_visited c.args.conn.now.path t) c.args.conn.now.vc c.args.ports.now c.at_hop.new.ports) (sym (sym c.target.ensures.value ∙ c.in-Hop.is)) c.at_hop.ensures.touches

-- what an event looks up that is taken so
abbrev Counts : (old new : ℕ) → List ℕ → Outcome → Event → Type 0
Counts old new path outcome e = new ≡ old + looks_to_take (length path) e outcome

pub returns-in-Source-clause-counted : goal.returns-in-Source-clause-counted
returns-in-Source-clause-counted c net past n facts log own at are actor_is room =
    let t = Source c.in-Source.place c.in-Source.event in
    let is : target_of c.args.event.now ≡ t = sym c.target.ensures.value ∙ c.in-Source.is in
    subst (Counts c.args.looks.now c.at_source.new.looks c.args.conn.now.path c.at_source.result.0) (sym (event_is c.args.event.now t is))
    (c.at_source.ensures.counted net past facts log (at_target net past n c.in-Source.place c.args.conn.now facts c.args.event.now t is refl own at) actor_is (omega (arith, room)))

pub returns-in-Hop-clause-counted : goal.returns-in-Hop-clause-counted
returns-in-Hop-clause-counted c net past n facts log own at are actor_is room =
    let t = Hop c.in-Hop.place c.in-Hop.event in
    let is : target_of c.args.event.now ≡ t = sym c.target.ensures.value ∙ c.in-Hop.is in
    subst (Counts c.args.looks.now c.at_hop.new.looks c.args.conn.now.path c.at_hop.result.0) (sym (event_is c.args.event.now t is))
    (c.at_hop.ensures.counted net past facts log (at_target net past n c.in-Hop.place c.args.conn.now facts c.args.event.now t is refl own at) are (c.cells.ensures ∙ ap (λ a. a.cells) actor_is) room)

pub returns-in-End-clause-counted : goal.returns-in-End-clause-counted
returns-in-End-clause-counted c net past n facts log own at are actor_is room =
    let t = End c.in-End.place c.in-End.seq in
    let is : target_of c.args.event.now ≡ t = sym c.target.ensures.value ∙ c.in-End.is in
    subst (Counts c.args.looks.now c.turn.new.looks c.args.conn.now.path c.turn.result.0) (sym (event_is c.args.event.now t is))
    (c.turn.ensures.counted (omega (arith, room)))
