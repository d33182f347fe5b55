-- What comes to a port.
use Rattle.std.proofs.Common.{◌≡◌, ℕ, ◌-◌, ◌⊎◌, inl, inr, refl, ap, Bool, true, false, List, length, reverse, ◌∙◌, sym, subst, Option, None, Some}
use Rattle.std.specs.Prelude.{◌==◌, ◌&&◌, not, nat_lt, if◌then◌else◌, Ok, slice_index, option_map}
use Rattle.abt_model.specs.declared.target.Target.{Target}
use Rattle.abt_model.specs.declared.target.Target.TheVariants.{Source, Hop, End, Port}
use Rattle.abt_model.specs.Targets.{target_of, event_at}
use Rattle.abt_model.proofs.Targets.{event_there}
use Rattle.std.proofs.lemmas.Bool.{false≢true, cond-false, cond-true, cases_eq, ne_eqb}
use Rattle.abt_cell.specs.Channel.{Channel}
use Rattle.abt_cell.specs.Message.{answer_to}
use Rattle.abt_net.specs.declared.conn.Conn.{Conn}
use Rattle.abt_net.specs.Topology.{Topology, conn_at}
use Rattle.abt_facts.specs.declared.fact.Fact.{Fact}
use Rattle.abt_facts.specs.Requests.{ask_of}
use Rattle.abt_facts.specs.Sent.{request_is_at, answer_is_at}
use Rattle.abt_model.specs.declared.event.Event.{Event}
use Rattle.abt_model.specs.declared.event.Event.TheVariants.{Arrive, Request, Answer, Capacity}
use Rattle.abt_gcra.specs.declared.verdict.Verdict.{Verdict}
use Rattle.abt_facts.specs.Cells.{emitted_of, fence_of, is_in_time, last_arrival_of, verdict_at}
use Rattle.abt_facts.specs.Hop.{held_of}
use Rattle.abt_model.specs.declared.outcome.Cause.TheVariants.{NotSent, Unknown, Fenced, Delay, ClockBack}
use Rattle.abt_model.specs.declared.outcome.Outcome.{Outcome}
use Rattle.abt_model.specs.declared.outcome.Outcome.TheVariants.{Requested, Answered, Arrived, NotEnabled}
use Rattle.abt_model.specs.Answers.{is_hop, answer_by, arrive_answer}
use Rattle.abt_model.specs.Decision.{request_decision, answer_decision}
use Rattle.abt_model.specs.Outcomes.{conn_of, port_of, outcome_of}
use Rattle.abt_source.specs.SourceFacts.{request_of}
use Rattle.abt_model.specs.Past.{Past, facts_of}
use Rattle.abt_model.specs.Reserved.{reserved_on, capacity_of}
use Rattle.abt_model.proofs.Worlds.{outcome_of-known}
use Rattle.abt_model.specs.PortTable.{hop_visited}
use Rattle.abt_journal.specs.declared.input.PortInput.{PortInput}
use Rattle.abt_journal.specs.declared.input.PortInput.TheVariants.{Request as RequestIn, Answer as AnswerIn, Arrive as ArriveIn, Capacity as CapacityIn}
use Rattle.abt_journal.specs.declared.input.PortReply.{PortReply}
use Rattle.abt_journal.specs.declared.input.PortReply.TheVariants.{Arrived as ArrivedOut}
use Rattle.abt_model.specs.declared.entry.SourceEntry.{SourceEntry}
use Rattle.abt_model.specs.declared.entry.SourceEntry.TheVariants.{Sent, Arrived as ArrivedAt}
use Rattle.abt_weave.specs.Asked.{floor_in}
use Rattle.abt_weave.specs.Projections.{Visit, reply_of, is_enabled, input_of, visit_by, visit_alone, visit_of, visit, entry_of, first_port, place_at_first, past_of, entry_made, steps_on, entries_on}
use Rattle.abt_weave.specs.Stuck.{RunJournals, next_step, step_next, next_entry, Fits}
use Rattle.abt_weave.proofs.AskedRates.{floor_told, ask_told}
use Rattle.abt_weave.specs.Comes.{input_told, entry_beside, Comes}

-- what the facts bring to a port is what the source's projection does
pub told_same : (net : Topology) (earlier : List Event) (vc : Channel) (c : ℕ) (event : Event) →
    input_of vc (facts_of c (past_of net earlier)) event ≡ input_told vc (reverse (entries_on net c earlier)) event
told_same net earlier vc c (Request d hop seq) =
    ap (λ (n : ℕ). Some (RequestIn (record { vc = vc; seq = seq; floor = n; ask = ask_of (facts_of c (past_of net earlier)) seq }))) (floor_told net c seq earlier)
    ∙ ap (λ (n : ℕ). Some (RequestIn (record { vc = vc; seq = seq; floor = floor_in (reverse (entries_on net c earlier)) seq; ask = n }))) (ask_told net c seq earlier)
told_same net earlier vc c (Answer d hop seq granted) =
    ap (λ (n : ℕ). Some (AnswerIn (record { terms = record { vc = vc; seq = seq; floor = n; ask = ask_of (facts_of c (past_of net earlier)) seq }; granted = granted }))) (floor_told net c seq earlier)
    ∙ ap (λ (n : ℕ). Some (AnswerIn (record { terms = record { vc = vc; seq = seq; floor = floor_in (reverse (entries_on net c earlier)) seq; ask = n }; granted = granted }))) (ask_told net c seq earlier)
told_same net earlier vc c other = refl

-- A visit of an event of a connection is at the port of its hop.
pub record IsVisit (net : Topology) (past : Past) (event : Event) (v : Visit) : Type 0 where
  pub c : ℕ
  pub whose : conn_of event ≡ Some c
  pub conn : Conn
  pub known : conn_at net c ≡ Some conn
  pub port : slice_index conn.path (hop_visited event - 1) ≡ v.port
  pub input : input_of conn.vc (facts_of c past) event ≡ Some v.input
  pub reply : reply_of (outcome_of net past event) ≡ Some v.reply

-- A visit of an event of a port alone brings it a capacity.
pub record IsVisitAlone (net : Topology) (past : Past) (event : Event) (v : Visit) : Type 0 where
  pub capacity : ℕ
  pub event_is : event ≡ Capacity v.port capacity
  pub input : v.input ≡ CapacityIn capacity
  pub reply : reply_of (outcome_of net past event) ≡ Some v.reply

pub some_same : {A : Type 0} → {x y : A} → Some x ≡ Some y → x ≡ y
some_same h = cc

mapped : {A B : Type 0} → (f : A → B) (o : Option A) (y : B) → option_map f o ≡ Some y → (x : A) × (o ≡ Some x) × (y ≡ f x)
mapped f None y h = absurd (cc)
mapped f (Some x) y h = (x, refl, cc)

visit_parts : (net : Topology) (past : Past) (event : Event) (v : Visit) (r : Option PortReply) (c : ℕ) (o : Option Conn) → reply_of (outcome_of net past event) ≡ r → conn_of event ≡ Some c → conn_at net c ≡ o →
    visit_by event r (facts_of c past) o ≡ Some v → IsVisit net past event v
visit_parts net past event v r c None re whose known h = absurd (cc)
visit_parts net past event v None c (Some conn) re whose known h = absurd (cc)
visit_parts net past event v (Some reply) c (Some conn) re whose known h =
    let f = λ (input : PortInput). (let made : Visit = record { port = slice_index conn.path (hop_visited event - 1); input = input; reply = reply } in made) in
    let parts = mapped f (input_of conn.vc (facts_of c past) event) v h in
    record {
      c = c;
      whose = whose;
      conn = conn;
      known = known;
      port = sym (ap (λ (w : Visit). w.port) parts.2);
      input = parts.1 ∙ ap (λ (w : Visit). Some w.input) (sym parts.2);
      reply = re ∙ ap (λ (w : Visit). Some w.reply) (sym parts.2);
    }

alone_parts : (net : Topology) (past : Past) (event : Event) (v : Visit) (r : Option PortReply) (t : Target) → reply_of (outcome_of net past event) ≡ r → event ≡ event_at t →
    visit_alone t r ≡ Some v → IsVisitAlone net past event v
alone_parts net past event v None t re is h = absurd (cc)
alone_parts net past event v (Some reply) (Port p u) re is h =
    let made : (let w : Visit = record { port = p; input = CapacityIn u; reply = reply } in w) ≡ v = some_same h in
    record {
      capacity = u;
      event_is = is ∙ ap (λ (w : Visit). Capacity w.port u) made;
      input = sym (ap (λ (w : Visit). w.input) made);
      reply = re ∙ ap (λ (w : Visit). Some w.reply) made;
    }
alone_parts net past event v (Some reply) (Source c x) re is h = absurd (cc)
alone_parts net past event v (Some reply) (Hop c x) re is h = absurd (cc)
alone_parts net past event v (Some reply) (End c s) re is h = absurd (cc)

visit_owner : (net : Topology) (past : Past) (event : Event) (v : Visit) (r : Option PortReply) (own : Option ℕ) → reply_of (outcome_of net past event) ≡ r → conn_of event ≡ own →
    visit_of net past event r own ≡ Some v → IsVisit net past event v ⊎ IsVisitAlone net past event v
visit_owner net past event v r None re whose h = inr (alone_parts net past event v r (target_of event) re (sym (event_there event)) h)
visit_owner net past event v r (Some c) re whose h = inl (visit_parts net past event v r c (conn_at net c) re whose refl h)

-- a visit is one of these two
pub visit_cases : (net : Topology) (past : Past) (event : Event) (v : Visit) → visit net past event ≡ Some v → IsVisit net past event v ⊎ IsVisitAlone net past event v
visit_cases net past event v h = visit_owner net past event v (reply_of (outcome_of net past event)) (conn_of event) refl refl h

-- that of an event of a connection
pub visit_is : (net : Topology) (past : Past) (event : Event) (v : Visit) (c : ℕ) → conn_of event ≡ Some c → visit net past event ≡ Some v → IsVisit net past event v
visit_is net past event v c whose h = elim (visit_cases net past event v h) [
  | inl parts ↦ parts
  | inr alone ↦ (let clash : None ≡ Some c = sym (ap conn_of alone.event_is) ∙ whose in absurd (cc))
]

-- an input is no capacity
abbrev pub IsNoCapacity : PortInput → Type 0
IsNoCapacity input = (capacity : ℕ) → input ≡ CapacityIn capacity → ⊥

-- that of what is no capacity
pub visit_by_input : (net : Topology) (past : Past) (event : Event) (v : Visit) → IsNoCapacity v.input → visit net past event ≡ Some v → IsVisit net past event v
visit_by_input net past event v none h = elim (visit_cases net past event v h) [ inl parts ↦ parts | inr alone ↦ absurd (none alone.capacity alone.input) ]

-- what a connection brings is no capacity
pub brings_none : (vc : Channel) (placed : List SourceEntry) (event : Event) (input : PortInput) → input_told vc placed event ≡ Some input → IsNoCapacity input
brings_none vc placed (Request d hop seq) input h u e = (let clash : Some (RequestIn _) ≡ Some (CapacityIn u) = h ∙ ap (λ (i : PortInput). Some i) e in cc)
brings_none vc placed (Answer d hop seq granted) input h u e = (let clash : Some (AnswerIn _) ≡ Some (CapacityIn u) = h ∙ ap (λ (i : PortInput). Some i) e in cc)
brings_none vc placed (Arrive d cell at) input h u e = (let clash : Some (ArriveIn vc at) ≡ Some (CapacityIn u) = h ∙ ap (λ (i : PortInput). Some i) e in cc)
brings_none vc placed other input h u e = absurd (cc)

-- the connection of a visit is that of its event
pub known_at : (net : Topology) (past : Past) (c : ℕ) (event : Event) (v : Visit) → (parts : IsVisit net past event v) → conn_of event ≡ Some c → conn_at net c ≡ Some parts.conn
known_at net past c event v parts own = ap (conn_at net) (some_same (sym own ∙ parts.whose)) ∙ parts.known

pub input_at : (net : Topology) (past : Past) (c : ℕ) (event : Event) (v : Visit) → (parts : IsVisit net past event v) → conn_of event ≡ Some c → input_of parts.conn.vc (facts_of c past) event ≡ Some v.input
input_at net past c event v parts own = ap (λ d. input_of parts.conn.vc (facts_of d past) event) (some_same (sym own ∙ parts.whose)) ∙ parts.input

-- and the other way round
pub visit_made : (net : Topology) (past : Past) (event : Event) (c : ℕ) (conn : Conn) (input : PortInput) (reply : PortReply) → conn_of event ≡ Some c → conn_at net c ≡ Some conn →
    input_of conn.vc (facts_of c past) event ≡ Some input → reply_of (outcome_of net past event) ≡ Some reply →
    visit net past event ≡ Some (record { port = slice_index conn.path (hop_visited event - 1); input = input; reply = reply })
visit_made net past event c conn input reply whose known brings re =
    ap (λ (r : Option PortReply). visit_of net past event r (conn_of event)) re
    ∙ ap (visit_of net past event (Some reply)) whose
    ∙ ap (λ (o : Option Conn). visit_by event (Some reply) (facts_of c past) o) known
    ∙ ap (option_map (λ (input : PortInput). (let made : Visit = record { port = slice_index conn.path (hop_visited event - 1); input = input; reply = reply } in made))) brings

pub reply_enabled : (outcome : Outcome) (reply : PortReply) → reply_of outcome ≡ Some reply → is_enabled outcome ≡ true
reply_enabled (NotEnabled cause) reply h = absurd (cc)
reply_enabled other reply h = refl

-- an event that happens and comes to a port has a hop of the path, and a reply
pub record HasReply (conn : Conn) (outcome : Outcome) (event : Event) : Type 0 where
  pub within : is_hop (length conn.path) (hop_visited event) ≡ true
  pub reply : PortReply
  pub is : reply_of outcome ≡ Some reply

request_reply : (conn : Conn) (r u : ℕ) (facts : List Fact) (c hop seq : ℕ) (a b : Bool) → is_hop (length conn.path) hop ≡ a → request_is_at facts seq hop ≡ b →
    is_enabled (if not a then NotEnabled Unknown else (if not b then NotEnabled NotSent else Requested (request_decision facts r u hop (request_of conn.vc facts seq)))) ≡ true →
    HasReply conn (if not a then NotEnabled Unknown else (if not b then NotEnabled NotSent else Requested (request_decision facts r u hop (request_of conn.vc facts seq)))) (Request c hop seq)
request_reply conn r u facts c hop seq false b within sent h = absurd (false≢true h)
request_reply conn r u facts c hop seq true false within sent h = absurd (false≢true h)
request_reply conn r u facts c hop seq true true within sent h = record { within = within; reply = _; is = refl }

answer_reply : (conn : Conn) (facts : List Fact) (c hop seq : ℕ) (granted a b : Bool) → is_hop (length conn.path) hop ≡ a → answer_is_at (length conn.path) facts seq hop granted ≡ b →
    is_enabled (if not a then NotEnabled Unknown else (if not b then NotEnabled NotSent else Answered (answer_decision facts hop (answer_to (request_of conn.vc facts seq) granted)))) ≡ true →
    HasReply conn (if not a then NotEnabled Unknown else (if not b then NotEnabled NotSent else Answered (answer_decision facts hop (answer_to (request_of conn.vc facts seq) granted)))) (Answer c hop seq granted)
answer_reply conn facts c hop seq granted false b within sent h = absurd (false≢true h)
answer_reply conn facts c hop seq granted true false within sent h = absurd (false≢true h)
answer_reply conn facts c hop seq granted true true within sent h = record { within = within; reply = _; is = refl }

arrive_reply : (a b d e : Bool) (v : Verdict) → is_enabled (if not a then NotEnabled NotSent else (if b then NotEnabled Fenced else (if not d then NotEnabled Delay else (if e then NotEnabled ClockBack else Arrived v)))) ≡ true →
    (reply : PortReply) × (reply_of (if not a then NotEnabled NotSent else (if b then NotEnabled Fenced else (if not d then NotEnabled Delay else (if e then NotEnabled ClockBack else Arrived v)))) ≡ Some reply)
arrive_reply false b d e v h = absurd (false≢true h)
arrive_reply true true d e v h = absurd (false≢true h)
arrive_reply true false false e v h = absurd (false≢true h)
arrive_reply true false true true v h = absurd (false≢true h)
arrive_reply true false true false v h = (ArrivedOut (Ok v), refl)

arrived_reply : (conn : Conn) (facts : List Fact) (c cell at : ℕ) → is_hop (length conn.path) 1 ≡ true → is_enabled (arrive_answer conn facts cell at) ≡ true → HasReply conn (arrive_answer conn facts cell at) (Arrive c cell at)
arrived_reply conn facts c cell at one h =
    let found = arrive_reply (nat_lt cell (emitted_of facts)) (nat_lt cell (fence_of facts)) (is_in_time conn.delay conn.tau facts cell at) (nat_lt at (last_arrival_of facts)) (verdict_at conn.tau facts at (held_of facts 1)) h in
    record { within = one; reply = found.0; is = found.1 }

by_reply : (conn : Conn) (r u : ℕ) (facts : List Fact) (event : Event) (input : PortInput) → is_hop (length conn.path) 1 ≡ true → input_of conn.vc facts event ≡ Some input → is_enabled (answer_by conn r u facts event) ≡ true → HasReply conn (answer_by conn r u facts event) event
by_reply conn r u facts (Request c hop seq) input one brings h = request_reply conn r u facts c hop seq (is_hop (length conn.path) hop) (request_is_at facts seq hop) refl refl h
by_reply conn r u facts (Answer c hop seq granted) input one brings h = answer_reply conn facts c hop seq granted (is_hop (length conn.path) hop) (answer_is_at (length conn.path) facts seq hop granted) refl refl h
by_reply conn r u facts (Arrive c cell at) input one brings h = arrived_reply conn facts c cell at one h
by_reply conn r u facts other input one brings h = absurd (cc)

pub has_reply : (net : Topology) (past : Past) (event : Event) (c : ℕ) (conn : Conn) (input : PortInput) → conn_of event ≡ Some c → conn_at net c ≡ Some conn → is_hop (length conn.path) 1 ≡ true →
    input_of conn.vc (facts_of c past) event ≡ Some input → is_enabled (outcome_of net past event) ≡ true → HasReply conn (outcome_of net past event) event
has_reply net past event c conn input whose known one brings h =
    let is = outcome_of-known net past event c conn whose known in
    subst (λ o. HasReply conn o event) (sym is)
    (by_reply conn (reserved_on net past (port_of conn.path event)) (capacity_of net past (port_of conn.path event)) (facts_of c past) event input one brings (ap is_enabled (sym is) ∙ h))

-- what an event that happens and comes to a port is to its source
beside_request : (net : Topology) (earlier : List Event) (c hop seq p place : ℕ) (conn : Conn) (outcome : Outcome) → conn_at net c ≡ Some conn → slice_index conn.path (hop - 1) ≡ p → place ≡ length (steps_on net p earlier) →
    is_enabled outcome ≡ true → entry_of (place_at_first net earlier (Request c hop seq)) (Request c hop seq) outcome ≡ entry_beside place (Request c hop seq)
beside_request net earlier c hop seq p place conn outcome known port at h =
    let first = place_at_first net earlier (Request c hop seq) in
    ap (λ (b : Bool). if b && hop == 1 then Some (Sent first) else None) h
    ∙ elim (cases_eq hop 1) as (λ _. (if hop == 1 then Some (Sent first) else None) ≡ (if hop == 1 then Some (Sent place) else None)) [
      | inl one ↦ (
          let here : first ≡ place =
          ap (λ (o : Option Conn). length (steps_on net (first_port o) earlier)) known
          ∙ ap (λ (j : ℕ). length (steps_on net (slice_index conn.path (j - 1)) earlier)) (sym one)
          ∙ ap (λ (q : ℕ). length (steps_on net q earlier)) port ∙ sym at in
          ap (λ (n : ℕ). if hop == 1 then Some (Sent n) else None) here)
      | inr other ↦ cond-false _ _ _ (ne_eqb hop 1 other) ∙ sym (cond-false _ _ _ (ne_eqb hop 1 other))
    ]

beside_arrival : (net : Topology) (earlier : List Event) (c cell a p place : ℕ) (conn : Conn) (outcome : Outcome) → conn_at net c ≡ Some conn → slice_index conn.path (1 - 1) ≡ p → place ≡ length (steps_on net p earlier) →
    is_enabled outcome ≡ true → entry_of (place_at_first net earlier (Arrive c cell a)) (Arrive c cell a) outcome ≡ Some (ArrivedAt cell place)
beside_arrival net earlier c cell a p place conn outcome known port at h =
    let first = place_at_first net earlier (Arrive c cell a) in
    let here : first ≡ place =
    ap (λ (o : Option Conn). length (steps_on net (first_port o) earlier)) known ∙ ap (λ (q : ℕ). length (steps_on net q earlier)) port ∙ sym at in
    cond-true _ _ _ h ∙ ap (λ (n : ℕ). Some (ArrivedAt cell n)) here

pub made_beside : (net : Topology) (earlier : List Event) (event : Event) (p place c : ℕ) (conn : Conn) (outcome : Outcome) (input : PortInput) (facts : List Fact) → conn_of event ≡ Some c → conn_at net c ≡ Some conn → slice_index conn.path (hop_visited event - 1) ≡ p →
    place ≡ length (steps_on net p earlier) → input_of conn.vc facts event ≡ Some input → is_enabled outcome ≡ true → entry_of (place_at_first net earlier event) event outcome ≡ entry_beside place event
made_beside net earlier (Request d hop seq) p place c conn outcome input facts whose known port at brings h = beside_request net earlier d hop seq p place conn outcome (ap (conn_at net) (some_same whose) ∙ known) port at h
made_beside net earlier (Arrive d cell a) p place c conn outcome input facts whose known port at brings h = beside_arrival net earlier d cell a p place conn outcome (ap (conn_at net) (some_same whose) ∙ known) port at h
made_beside net earlier (Answer d hop seq granted) p place c conn outcome input facts whose known port at brings h = refl
made_beside net earlier other p place c conn outcome input facts whose known port at brings h = absurd (cc)

-- a visit of what is no capacity is of an event that comes
pub visit_comes : (net : Topology) (journals : RunJournals) (earlier : List Event) (event : Event) (v : Visit) (p place : ℕ) (input : PortInput) →
    ((c : ℕ) (conn : Conn) → conn_at net c ≡ Some conn → is_hop (length conn.path) 1 ≡ true) → IsNoCapacity input → visit net (past_of net earlier) event ≡ Some v → v.port ≡ p →
    place ≡ length (steps_on net p earlier) → input ≡ v.input → ((c : ℕ) (x : SourceEntry) → conn_of event ≡ Some c → entry_made net earlier event ≡ Some x → next_entry net journals earlier c ≡ Some x) →
    Comes net journals earlier p place input event
visit_comes net journals earlier event v p place input one none is here at same beside =
    let past = past_of net earlier in
    let parts = visit_by_input net past event v (λ u e. none u (same ∙ e)) is in
    let enabled = reply_enabled (outcome_of net past event) v.reply parts.reply in
    let reply = has_reply net past event parts.c parts.conn v.input parts.whose parts.known (one parts.c parts.conn parts.known) parts.input enabled in
    record {
      c = parts.c;
      whose = parts.whose;
      conn = parts.conn;
      known = parts.known;
      within = reply.within;
      port = parts.port ∙ here;
      brings = sym (told_same net earlier parts.conn.vc parts.c event) ∙ parts.input ∙ ap (λ (i : PortInput). Some i) (sym same);
      at = at;
      beside = λ x e. beside parts.c x parts.whose (made_beside net earlier event p place parts.c parts.conn (outcome_of net past event) v.input (facts_of parts.c past) parts.whose parts.known (parts.port ∙ here) at parts.input enabled ∙ e);
    }

-- what comes with the reply of the next step fits
pub comes_fits : (net : Topology) (journals : RunJournals) (earlier : List Event) (event : Event) (p place : ℕ) (input : PortInput) (reply : PortReply) → Comes net journals earlier p place input event →
    reply_of (outcome_of net (past_of net earlier) event) ≡ Some reply → next_step net journals earlier p ≡ Some (record { place = place; input = input; reply = reply }) → Fits net journals earlier event
comes_fits net journals earlier event p place input reply comes replies next =
    let past = past_of net earlier in
    let brings = told_same net earlier comes.conn.vc comes.c event ∙ comes.brings in
    let is = visit_made net past event comes.c comes.conn input reply comes.whose comes.known brings replies in
    let enabled = reply_enabled (outcome_of net past event) reply replies in
    record {
      falls = inl (λ none. (let clash = sym none ∙ is in cc));
      step = λ v same.
          (let made : Some (let w : Visit = record { port = slice_index comes.conn.path (hop_visited event - 1); input = input; reply = reply } in w) ≡ Some v = sym is ∙ same in
          let here : (record { port = slice_index comes.conn.path (hop_visited event - 1); input = input; reply = reply }) ≡ v = some_same made in
          subst (λ (w : Visit). next_step net journals earlier w.port ≡ Some (step_next net earlier w)) here
          (subst (λ q. next_step net journals earlier q ≡ Some (record { place = length (steps_on net q earlier); input = input; reply = reply })) (sym comes.port)
          (next ∙ ap (λ n. Some (record { place = n; input = input; reply = reply })) comes.at)));
      entry = λ d x own same.
          ap (next_entry net journals earlier) (some_same (sym own ∙ comes.whose))
          ∙ comes.beside x (sym (made_beside net earlier event p place comes.c comes.conn (outcome_of net past event) input (facts_of comes.c past) comes.whose comes.known comes.port comes.at brings enabled) ∙ same);
    }
