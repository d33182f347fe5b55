-- Events of a connection that is known, and messages that were sent.
use Rattle.std.proofs.Common.{◌≡◌, ℕ, ◌+◌, ◌-◌, ◌≤◌, Bool, true, false, List, inl, inr, refl, sym, subst, ap, ◌∙◌, arith, length}
use Rattle.std.specs.Prelude.{◌==◌, ◌&&◌, if◌then◌else◌, Some}
use Rattle.std.proofs.lemmas.Bool.{cond-true, cond-false, cases_Bool, eq-eqb, eqb-true, and_parts}
use Rattle.abt_cell.specs.Channel.{Channel}
use Rattle.abt_cell.proofs.ChannelLemmas.{same_channel-refl}
use Rattle.abt_source.specs.Calls.{same_terms}
use Rattle.abt_net.specs.declared.conn.Conn.{Conn}
use Rattle.abt_net.specs.Topology.{Topology}
use Rattle.abt_facts.specs.declared.fact.Fact.{Fact}
use Rattle.abt_facts.specs.Requests.{was_asked, floor_of, ask_of}
use Rattle.abt_facts.specs.Source.{SourceState, Down, Idle, Asking}
use Rattle.abt_facts.specs.Sent.{request_is_at, answer_is_at, answer_is_home}
use Rattle.abt_model.specs.Past.{Past}
use Rattle.abt_model.specs.declared.event.Event.{Event}
use Rattle.abt_model.specs.declared.outcome.Outcome.{Outcome}
use Rattle.abt_model.specs.declared.outcome.Heard.TheVariants.{Ignored}
use Rattle.abt_cell.specs.Message.{answer_to}
use Rattle.abt_source.specs.SourceFacts.{request_of}
use Rattle.abt_model.specs.Answers.{answer_by, told_answer, hearing}
use Rattle.abt_model.specs.Outcomes.{conn_of, port_of, outcome_of, facts_added}
use Rattle.abt_model.specs.Reserved.{reserved_on, capacity_of}
use Rattle.abt_model.proofs.Lawful.{Route, route_of, IsLawful}
use Rattle.abt_model.proofs.Worlds.{outcome_of-known, AllLawful, lawful_at}
use Rattle.abt_model.proofs.Sums.{facts_after_lawful}
use Rattle.abt_model.proofs.Served.{conn_within}
use Rattle.abt_model.proofs.Chain.{at_asked, shut_at, passed_asked, turned_passed, back_turned, asked_last, floor_low}
use Rattle.abt_actor.specs.Commands.{heard_by}
use Rattle.abt_world.specs.Steps.{IsConnAt, Happens}

-- what an event of the connection answers, by its facts
pub answers :
    (net : Topology) (past : Past) (e : Event) (c : ℕ) (conn : Conn) (facts : List Fact) → conn_of e ≡ Some c → IsConnAt net past c conn facts →
    outcome_of net past e ≡ answer_by conn (reserved_on net past (port_of conn.path e)) (capacity_of net past (port_of conn.path e)) facts e
answers net past e c conn facts own at =
    outcome_of-known net past e c conn own at.known
    ∙ ap (λ fs. answer_by conn (reserved_on net past (port_of conn.path e)) (capacity_of net past (port_of conn.path e)) fs e) (sym at.facts_are)

-- the event that answers and adds so
pub happens :
    (net : Topology) (past : Past) (e : Event) (c : ℕ) (conn : Conn) (facts : List Fact) → conn_of e ≡ Some c → IsConnAt net past c conn facts →
    (outcome : Outcome) (added : List Fact) →
    outcome ≡ answer_by conn (reserved_on net past (port_of conn.path e)) (capacity_of net past (port_of conn.path e)) facts e →
    added ≡ facts_added facts e outcome → Happens net past c e outcome added
happens net past e c conn facts own at outcome added answered adds = record {
  answer = answered ∙ sym (answers net past e c conn facts own at);
  adds = adds ∙ ap (λ fs. facts_added fs e outcome) at.facts_are;
}

pub all_lawful : (net : Topology) (past : Past) (c : ℕ) (conn : Conn) (facts : List Fact) → IsConnAt net past c conn facts → AllLawful net past
all_lawful net past c conn facts at = subst (AllLawful net) (sym at.led) (facts_after_lawful net at.events at.rates).0

pub conn_lawful : (net : Topology) (past : Past) (c : ℕ) (conn : Conn) (facts : List Fact) → IsConnAt net past c conn facts → IsLawful (route_of conn) facts
conn_lawful net past c conn facts at = subst (IsLawful (route_of conn)) (sym at.facts_are) (lawful_at net past (all_lawful net past c conn facts at) c conn at.known)

-- a path of a net has 16 hops at most
pub few_hops : (net : Topology) (past : Past) (c : ℕ) (conn : Conn) (facts : List Fact) → IsConnAt net past c conn facts → length conn.path ≤ 16
few_hops net past c conn facts at = (conn_within net at.rules c conn at.known).hops

-- what was sent was asked
pub home_asked : (l : Route) (facts : List Fact) → IsLawful l facts → (seq : ℕ) (granted : Bool) → answer_is_home facts seq granted ≡ true → was_asked facts seq ≡ true
home_asked l facts lawful seq true back =
    passed_asked l facts lawful seq l.hops (turned_passed l facts lawful seq (back_turned l facts lawful seq 1 l.hops (omega arith) back))
home_asked l facts lawful seq false shut = at_asked l facts lawful seq 1 (shut_at l facts lawful seq 1 shut).0

pub request_asked : (l : Route) (facts : List Fact) → IsLawful l facts → (seq hop : ℕ) → request_is_at facts seq hop ≡ true → was_asked facts seq ≡ true
request_asked l facts lawful seq hop there = elim (cases_Bool (hop == 1)) [
  | inl first ↦ sym (cond-true _ _ _ first) ∙ there
  | inr later ↦ passed_asked l facts lawful seq (hop - 1) (sym (cond-false _ _ _ later) ∙ there)
]

pub answer_asked : (l : Route) (facts : List Fact) → IsLawful l facts → (hops seq hop : ℕ) (granted : Bool) → answer_is_at hops facts seq hop granted ≡ true → was_asked facts seq ≡ true
answer_asked l facts lawful hops seq hop true there = elim (cases_Bool (hop == hops)) [
  | inl last ↦ passed_asked l facts lawful seq l.hops (turned_passed l facts lawful seq (sym (cond-true _ _ _ last) ∙ there))
  | inr before ↦ passed_asked l facts lawful seq l.hops (turned_passed l facts lawful seq (back_turned l facts lawful seq (hop + 1) l.hops (omega arith) (sym (cond-false _ _ _ before) ∙ there)))
]
answer_asked l facts lawful hops seq hop false there =
    let both = and_parts _ _ there in
    at_asked l facts lawful seq (hop + 1) (shut_at l facts lawful seq (hop + 1) both.1).0

-- what was asked is a request
pub record IsRequest (facts : List Fact) (seq : ℕ) : Type 0 where
  pub asked : was_asked facts seq ≡ true
  pub positive : 1 ≤ seq
  pub order : floor_of facts seq ≤ ask_of facts seq

pub is_request : (l : Route) (facts : List Fact) → IsLawful l facts → (seq : ℕ) → was_asked facts seq ≡ true → IsRequest facts seq
is_request l facts lawful seq asked = record {
  asked = asked;
  positive = ((asked_last l facts lawful).1 seq asked).0;
  order = floor_low l facts lawful seq;
}

-- requests of one number are the same, and those of two aren't
same_number : (vc : Channel) (facts : List Fact) (a b : ℕ) → same_terms (request_of vc facts a) (request_of vc facts b) ≡ (a == b)
same_number vc facts a b = elim (cases_Bool (a == b)) [
  | inl same ↦ (
      let is : a ≡ b = eqb-true a b same in
      subst (λ n. same_terms (request_of vc facts a) (request_of vc facts n) ≡ (a == n)) is
      (ap (λ x. x && (a == a) && (floor_of facts a == floor_of facts a) && (ask_of facts a == ask_of facts a)) (same_channel-refl vc)
      ∙ ap (λ x. true && x && (floor_of facts a == floor_of facts a) && (ask_of facts a == ask_of facts a)) (eq-eqb a a refl)
      ∙ ap (λ x. true && true && x && (ask_of facts a == ask_of facts a)) (eq-eqb (floor_of facts a) (floor_of facts a) refl)
      ∙ ap (λ x. true && true && true && x) (eq-eqb (ask_of facts a) (ask_of facts a) refl)
      ∙ sym (eq-eqb a a refl)))
  | inr other ↦
      ap (λ x. x && (a == b) && (floor_of facts a == floor_of facts b) && (ask_of facts a == ask_of facts b)) (same_channel-refl vc)
      ∙ ap (λ x. true && x && (floor_of facts a == floor_of facts b) && (ask_of facts a == ask_of facts b)) other
      ∙ sym other
]

-- in a net a source hears the answer to the number that it waits for
pub heard_same : (vc : Channel) (facts : List Fact) (state : SourceState) (seq : ℕ) (granted : Bool) →
    heard_by vc facts state (answer_to (request_of vc facts seq) granted) ≡ told_answer state seq granted
heard_same vc facts Down seq granted = refl
heard_same vc facts Idle seq granted = refl
heard_same vc facts (Asking newest) seq granted = ap (λ b. if b then hearing granted else Ignored) (same_number vc facts newest seq)
