-- What one event makes of the ports and of the actor of its connection.
use Rattle.std.proofs.Common.{◌≡◌, ℕ, Bool, true, false, List, [], ◌∷◌, ◌++◌, refl, sym, subst, ap, ◌∙◌, arith, inl, inr}
use Rattle.std.specs.Prelude.{◌==◌, option_map, slice_get, Some}
use Rattle.std.proofs.lemmas.Bool.{cases_Bool, cond-true, cond-false}
use Rattle.abt_cell.specs.Channel.{Channel}
use Rattle.abt_net.specs.declared.conn.Conn.{Conn}
use Rattle.abt_net.specs.Topology.{Topology}
use Rattle.abt_node.specs.Table.{Table}
use Rattle.abt_node.specs.declared.reply.Onward.TheVariants.{Pass, Refuse, Drop}
use Rattle.abt_node.specs.declared.reply.Back.TheVariants.{Pass as PassBack, Drop as DropBack}
use Rattle.abt_source.specs.SourceFacts.{waiting_in}
use Rattle.abt_facts.specs.declared.fact.Fact.{Fact}
use Rattle.abt_facts.specs.declared.fact.Fact.TheVariants.{Delivered, Passed, Shut, Turned as FactTurned, Back, Arrived as FactArrived}
use Rattle.abt_facts.specs.Source.{SourceState, Down, Idle, Asking, state_of}
use Rattle.abt_model.specs.declared.command.SourceCommand.{SourceCommand}
use Rattle.abt_model.specs.declared.command.SourceCommand.TheVariants as command
use Rattle.abt_model.specs.declared.event.Event.{Event}
use Rattle.abt_model.specs.declared.event.Event.TheVariants.{Arrive, Request, Turn, Answer}
use Rattle.abt_model.specs.declared.target.HopEvent.{HopEvent}
use Rattle.abt_model.specs.declared.target.HopEvent.TheVariants as hop
use Rattle.abt_model.specs.declared.outcome.Outcome.{Outcome}
use Rattle.abt_model.specs.declared.outcome.Outcome.TheVariants.{Arrived, Requested, Turned, Answered}
use Rattle.abt_model.specs.Events.{AsksRate}
use Rattle.abt_model.specs.Targets.{event_at_hop}
use Rattle.abt_model.specs.Past.{Past, facts_of}
use Rattle.abt_model.specs.Reserved.{reserved_on, capacity_of}
use Rattle.abt_model.specs.Answers.{answer_by}
use Rattle.abt_model.specs.Outcomes.{conn_of, port_of, after_event, facts_added, delivery}
use Rattle.abt_model.specs.PortTable.{hop_visited, VisitsBy, Visits}
use Rattle.abt_model.proofs.Tables.{tables_stay}
use Rattle.abt_actor.specs.Actor.{ActorView, actor_of}
use Rattle.abt_actor.specs.Carrying.{Carries}
use Rattle.abt_actor.specs.Commands.{event_of, command_answer, command_adds}
use Rattle.abt_world.specs.Steps.{IsConnAt, ArePorts, Happens}
use Rattle.abt_world.proofs.Sendings.{happens, all_lawful}

-- an event that comes to no port
pub tables_kept :
    (net : Topology) (past : Past) (e : Event) (c : ℕ) (conn : Conn) (facts : List Fact) (ports : List Table) → AsksRate e →
    conn_of e ≡ Some c → IsConnAt net past c conn facts → ArePorts net past ports → hop_visited e ≡ 0 → ArePorts net (after_event net past e) ports
tables_kept net past e c conn facts ports asks own at are nowhere q =
    let nobody : Visits net e q → ⊥ = λ visited_by. (let visits = subst (VisitsBy net e q) own visited_by in let low = visits.2 in omega arith) in
    are q ∙ ap (λ t. option_map (λ (_ : ℕ). t) (slice_get net.capacities q)) (sym (tables_stay net past at.rules (all_lawful net past c conn facts at) e q asks nobody))

-- facts of hops and cells, which say nothing of the source
abbrev pub IsOfHops : Fact → Type 0
IsOfHops (Delivered s) = Unit {0}
IsOfHops (Passed s j) = Unit {0}
IsOfHops (Shut s j) = Unit {0}
IsOfHops (FactTurned s) = Unit {0}
IsOfHops (Back s j) = Unit {0}
IsOfHops (FactArrived n a r v) = Unit {0}
IsOfHops other = ⊥

abbrev pub AreOfHops : List Fact → Type 0
AreOfHops [] = Unit {0}
AreOfHops (f ∷ fs) = IsOfHops f × AreOfHops fs

waiting_same : (vc : Channel) (f : Fact) (facts : List Fact) (state : SourceState) → IsOfHops f → waiting_in vc (f ∷ facts) state ≡ waiting_in vc facts state
waiting_same vc f facts Down h = refl
waiting_same vc f facts Idle h = refl
waiting_same vc (Delivered s) facts (Asking seq) h = refl
waiting_same vc (Passed s j) facts (Asking seq) h = refl
waiting_same vc (Shut s j) facts (Asking seq) h = refl
waiting_same vc (FactTurned s) facts (Asking seq) h = refl
waiting_same vc (Back s j) facts (Asking seq) h = refl
waiting_same vc (FactArrived n a r v) facts (Asking seq) h = refl
waiting_same vc other facts (Asking seq) h = absurd h

actor_same : (vc : Channel) (f : Fact) (facts : List Fact) → IsOfHops f → actor_of vc (f ∷ facts) ≡ actor_of vc facts
actor_same vc (Delivered s) facts h = let e = waiting_same vc (Delivered s) facts (state_of facts) h in cc
actor_same vc (Passed s j) facts h = let e = waiting_same vc (Passed s j) facts (state_of facts) h in cc
actor_same vc (Shut s j) facts h = let e = waiting_same vc (Shut s j) facts (state_of facts) h in cc
actor_same vc (FactTurned s) facts h = let e = waiting_same vc (FactTurned s) facts (state_of facts) h in cc
actor_same vc (Back s j) facts h = let e = waiting_same vc (Back s j) facts (state_of facts) h in cc
actor_same vc (FactArrived n a r v) facts h = let e = waiting_same vc (FactArrived n a r v) facts (state_of facts) h in cc
actor_same vc other facts h = absurd h

pub actor_kept : (vc : Channel) (added facts : List Fact) → AreOfHops added → actor_of vc (added ++ facts) ≡ actor_of vc facts
actor_kept vc [] facts h = refl
actor_kept vc (f ∷ added) facts h = actor_same vc f (added ++ facts) h.0 ∙ actor_kept vc added facts h.1

delivery_kind : (hop seq : ℕ) → AreOfHops (delivery hop seq)
delivery_kind hop seq = elim (cases_Bool (hop == 1)) [
  | inl first ↦ subst AreOfHops (sym (cond-true _ _ _ first)) (tt, tt)
  | inr later ↦ subst AreOfHops (sym (cond-false _ _ _ later)) tt
]

request_kind : (fs : List Fact) (c hop seq : ℕ) (o : Outcome) → AreOfHops (facts_added fs (Request c hop seq) o)
request_kind fs c hop seq (Requested Pass) = (tt, delivery_kind hop seq)
request_kind fs c hop seq (Requested (Refuse answer)) = (tt, delivery_kind hop seq)
request_kind fs c hop seq (Requested (Drop cause)) = delivery_kind hop seq
request_kind fs c hop seq other = tt

answer_kind : (fs : List Fact) (c hop seq : ℕ) (granted : Bool) (o : Outcome) → AreOfHops (facts_added fs (Answer c hop seq granted) o)
answer_kind fs c hop seq true (Answered PassBack) = (tt, tt)
answer_kind fs c hop seq false (Answered PassBack) = (tt, tt)
answer_kind fs c hop seq granted (Answered (DropBack cause)) = tt
answer_kind fs c hop seq granted other = tt

pub turn_kind : (fs : List Fact) (c seq : ℕ) (o : Outcome) → AreOfHops (facts_added fs (Turn c seq) o)
turn_kind fs c seq Turned = (tt, tt)
turn_kind fs c seq other = tt

arrive_kind : (fs : List Fact) (c cell at : ℕ) (o : Outcome) → AreOfHops (facts_added fs (Arrive c cell at) o)
arrive_kind fs c cell at (Arrived verdict) = (tt, tt)
arrive_kind fs c cell at other = tt

pub hop_kind : (fs : List Fact) (c : ℕ) (x : HopEvent) (o : Outcome) → AreOfHops (facts_added fs (event_at_hop c x) o)
hop_kind fs c (hop.Arrive cell at) o = arrive_kind fs c cell at o
hop_kind fs c (hop.Request j seq) o = request_kind fs c j seq o
hop_kind fs c (hop.Answer j seq granted) o = answer_kind fs c j seq granted o

-- an event whose facts say nothing of the source leaves the actor
pub actor_left :
    (net : Topology) (past : Past) (e : Event) (c : ℕ) (conn : Conn) (facts : List Fact) (actor : ActorView) (outcome : Outcome) (added : List Fact) →
    Happens net past c e outcome added → AreOfHops (facts_added (facts_of c past) e outcome) → actor ≡ actor_of conn.vc facts →
    actor ≡ actor_of conn.vc (added ++ facts)
actor_left net past e c conn facts actor outcome added h kinds is = is ∙ sym (actor_kept conn.vc added facts (subst AreOfHops (sym h.adds) kinds))

-- commands to a source, but for the answers that it is told
abbrev pub IsOwn : SourceCommand → Type 0
IsOwn (command.Told answer) = ⊥
IsOwn other = Unit {0}

own_answer : (conn : Conn) (reserved capacity c : ℕ) (facts : List Fact) (own : SourceCommand) → IsOwn own → command_answer conn.vc facts own ≡ answer_by conn reserved capacity facts (event_of c own)
own_answer conn reserved capacity c facts (command.Start now) is = refl
own_answer conn reserved capacity c facts (command.Ask rate plan) is = refl
own_answer conn reserved capacity c facts command.Again is = refl
own_answer conn reserved capacity c facts command.Crash is = refl
own_answer conn reserved capacity c facts (command.Emit now) is = refl
own_answer conn reserved capacity c facts (command.Told answer) is = absurd is

own_adds : (facts : List Fact) (c : ℕ) (own : SourceCommand) (outcome : Outcome) → IsOwn own → command_adds facts own outcome ≡ facts_added facts (event_of c own) outcome
own_adds facts c (command.Start now) outcome is = refl
own_adds facts c (command.Ask rate plan) outcome is = refl
own_adds facts c command.Again outcome is = refl
own_adds facts c command.Crash outcome is = refl
own_adds facts c (command.Emit now) outcome is = refl
own_adds facts c (command.Told answer) outcome is = absurd is

own_conn : (c : ℕ) (own : SourceCommand) → IsOwn own → conn_of (event_of c own) ≡ Some c
own_conn c (command.Told answer) is = absurd is
own_conn c other is = refl

pub command_happens :
    (net : Topology) (past : Past) (conn : Conn) (facts : List Fact) (c : ℕ) (own : SourceCommand) (actor new : ActorView) (outcome : Outcome) (added : List Fact) →
    IsOwn own → Carries actor own outcome added new → IsConnAt net past c conn facts → actor ≡ actor_of conn.vc facts →
    Happens net past c (event_of c own) outcome added × (new ≡ actor_of conn.vc (added ++ facts))
command_happens net past conn facts c own actor new outcome added is_own carries at is =
    let e = event_of c own in
    let carried = carries conn.vc facts is in (
      happens net past e c conn facts (own_conn c own is_own) at outcome added
          (carried.answer ∙ own_answer conn (reserved_on net past (port_of conn.path e)) (capacity_of net past (port_of conn.path e)) c facts own is_own)
          (carried.adds ∙ own_adds facts c own outcome is_own),
      carried.becomes,
    )
