-- A port that serves what an event brings keeps all tables those of the facts.
use Rattle.std.proofs.Common.{◌≡◌, ◌≢◌, ℕ, zero, suc, ◌+◌, ◌-◌, ◌≤◌, ◌<◌, Bool, true, false, List, [], ◌∷◌, inl, inr, refl, sym, subst, ap, ◌∙◌, arith, length}
use Rattle.std.specs.Prelude.{Some, None, option_map, slice_get, slice_set, slice_index, if◌then◌else◌, not}
use Rattle.std.proofs.lemmas.Bool.{cond-true, cond-false, cases_Bool, cases_eq}
use Rattle.std.proofs.lemmas.Option.{slice_get_within, slice_get-get_or}
use Rattle.abt_net.specs.declared.conn.Conn.{Conn}
use Rattle.abt_net.specs.Topology.{Topology, conn_at}
use Rattle.abt_node.specs.Table.{Table}
use Rattle.abt_facts.specs.declared.fact.Fact.{Fact}
use Rattle.abt_model.specs.declared.event.Event.{Event}
use Rattle.abt_net.specs.Paths.{hop_of}
use Rattle.abt_model.specs.Outcomes.{after_event}
use Rattle.abt_model.specs.PortTable.{port_table}
use Rattle.abt_cell.specs.Message.{Terms, Reply, answer_to}
use Rattle.abt_node.specs.Table.{reply_to, table_after, answer_to as port_answer, table_after_answer}
use Rattle.abt_node.specs.declared.reply.Onward.{Onward}
use Rattle.abt_node.specs.declared.reply.Back.{Back}
use Rattle.abt_facts.specs.Sent.{request_is_at, answer_is_at}
use Rattle.abt_model.specs.declared.event.Event.TheVariants.{Request, Answer}
use Rattle.abt_model.specs.declared.outcome.Cause.TheVariants.{NotSent, Unknown}
use Rattle.abt_model.specs.declared.outcome.Outcome.TheVariants.{Requested, Answered, NotEnabled}
use Rattle.abt_model.specs.Past.{Past, facts_of, with_facts}
use Rattle.abt_model.specs.Reserved.{reserved_on, capacity_of}
use Rattle.abt_model.specs.Decision.{request_decision, answer_decision}
use Rattle.abt_source.specs.SourceFacts.{request_of}
use Rattle.abt_model.specs.Answers.{is_hop}
use Rattle.abt_model.specs.Outcomes.{conn_of, port_of, outcome_of, facts_added, request_adds, answer_adds}
use Rattle.abt_model.specs.PortTable.{hop_visited, VisitsBy, Visits}
use Rattle.abt_model.proofs.Worlds.{cases_option}
use Rattle.abt_model.proofs.Steps.{is_hop_tells}
use Rattle.abt_net.proofs.PathLemmas.{hop_of-port, hop_at}
use Rattle.abt_model.proofs.Tables.{tables_stay}
use Rattle.abt_model.proofs.Serving.{requests_served, answers_served}
use Rattle.abt_model.proofs.Served.{conn_within}
use Rattle.abt_world.specs.Steps.{IsConnAt, ArePorts, Happens, port_at}
use Rattle.abt_world.proofs.Sendings.{answers, all_lawful}

-- an element that was set, and the others
pub set_here : {A : Type 0} (xs : List A) (i : ℕ) (y : A) → i < length xs → slice_get (slice_set xs i y) i ≡ Some y
set_here [] i y low = absurd (omega arith)
set_here (x ∷ xs) zero y low = refl
set_here (x ∷ xs) (suc i) y low = set_here xs i y (omega arith)

pub set_other : {A : Type 0} (xs : List A) (i j : ℕ) (y : A) → i ≢ j → slice_get (slice_set xs i y) j ≡ slice_get xs j
set_other [] i j y differ = refl
set_other (x ∷ xs) zero zero y differ = absurd (differ refl)
set_other (x ∷ xs) zero (suc j) y differ = refl
set_other (x ∷ xs) (suc i) zero y differ = refl
set_other (x ∷ xs) (suc i) (suc j) y differ = set_other xs i j y (λ same. differ (ap suc same))

-- a port of the net
pub port_has : (net : Topology) (past : Past) (ports : List Table) (p : ℕ) → ArePorts net past ports → p < length ports →
    slice_get ports p ≡ Some (port_table net past p)
port_has net past ports p are low = elim (cases_option (slice_get net.capacities p)) [
  | inl none ↦ absurd (
      let gone : slice_get ports p ≡ None = are p ∙ ap (option_map (λ (_ : ℕ). port_table net past p)) none in
      elim (cases_option (slice_get ports p)) [
        | inl nothing ↦ (let past_end = slice_get_none ports p nothing in omega arith)
        | inr some ↦ (let e = sym gone ∙ some.1 in cc)
      ])
  | inr some ↦ are p ∙ ap (option_map (λ (_ : ℕ). port_table net past p)) some.1
]
  where
    slice_get_none : {A : Type 0} (xs : List A) (i : ℕ) → slice_get xs i ≡ None → length xs ≤ i
    slice_get_none [] i none = omega arith
    slice_get_none (x ∷ xs) zero none = absurd (cc)
    slice_get_none (x ∷ xs) (suc i) none = (let rest = slice_get_none xs i none in omega arith)

-- the tables after a port took a step
pub ports_after :
    (net : Topology) (past after : Past) (ports : List Table) (p : ℕ) (table : Table) → ArePorts net past ports → p < length ports →
    table ≡ port_table net after p → ((q : ℕ) → p ≢ q → port_table net after q ≡ port_table net past q) →
    ArePorts net after (slice_set ports p table)
ports_after net past after ports p table are low is same q = elim (cases_eq p q) [
  | inl here ↦ subst (λ n. slice_get (slice_set ports p table) n ≡ option_map (λ (_ : ℕ). port_table net after n) (slice_get net.capacities n)) here
      (set_here ports p table low ∙ ap Some is ∙ elim (cases_option (slice_get net.capacities p)) [
        | inl none ↦ absurd (let e = sym (port_has net past ports p are low) ∙ are p ∙ ap (option_map (λ (_ : ℕ). port_table net past p)) none in cc)
        | inr some ↦ sym (ap (option_map (λ (_ : ℕ). port_table net after p)) some.1)
      ])
  | inr other ↦ set_other ports p q table other ∙ are q ∙ ap (λ t. option_map (λ (_ : ℕ). t) (slice_get net.capacities q)) (sym (same q other))
]

-- what the port at a hop tells
pub port_tells : (path : List ℕ) (hop port : ℕ) → port_at path hop ≡ Some port → (is_hop (length path) hop ≡ true) × (port ≡ slice_index path (hop - 1))
port_tells path hop port has = elim (cases_Bool (is_hop (length path) hop)) [
  | inl is ↦ (is, (let e = sym (cond-true _ _ _ is) ∙ has in cc))
  | inr not_one ↦ absurd (let e = sym (cond-false _ _ _ not_one) ∙ has in cc)
]

-- no other port is visited
pub away :
    (net : Topology) (e : Event) (c : ℕ) (conn : Conn) (hop port q : ℕ) → conn_of e ≡ Some c → conn_at net c ≡ Some conn → hop_visited e ≡ hop →
    port ≡ slice_index conn.path (hop - 1) → port ≢ q → Visits net e q → ⊥
away net e c conn hop port q own known visited is other visited_by =
    let visits = subst (VisitsBy net e q) own visited_by in
    let same : visits.0 ≡ conn = (let e = sym visits.1 ∙ known in cc) in
    let at : hop_of conn.path q ≡ hop = subst (λ (x : Conn). hop_of x.path q ≡ hop) same (visits.3 ∙ visited) in
    let low = visits.2 in
    let some : hop_of conn.path q ≢ 0 = λ none. omega arith in
    other (is ∙ ap (λ h. slice_index conn.path (h - 1)) (sym at) ∙ hop_of-port conn.path q some)

-- the hop of the port at a hop
pub at_its_hop :
    (net : Topology) (past : Past) (c : ℕ) (conn : Conn) (facts : List Fact) (hop port : ℕ) → IsConnAt net past c conn facts →
    is_hop (length conn.path) hop ≡ true → port ≡ slice_index conn.path (hop - 1) → hop_of conn.path port ≡ hop
at_its_hop net past c conn facts hop port at is port_is =
    let bounds = is_hop_tells (length conn.path) hop is in
    let within = conn_within net at.rules c conn at.known in
    let low = bounds.0 in
    let high = bounds.1 in
    let back : (hop - 1) + 1 ≡ hop = omega arith in
    ap (hop_of conn.path) port_is ∙ hop_at conn.path (hop - 1) within.visits_once (omega arith) ∙ back

-- a request that a port serves
pub request_served :
    (net : Topology) (past : Past) (c : ℕ) (conn : Conn) (facts : List Fact) (hop seq port : ℕ) (ports : List Table) →
    IsConnAt net past c conn facts → ArePorts net past ports → port_at conn.path hop ≡ Some port → request_is_at facts seq hop ≡ true → port < length ports →
    (table after : Table) (request : Terms) (onward : Onward) (added : List Fact) → slice_get ports port ≡ Some table → request ≡ request_of conn.vc facts seq →
    onward ≡ reply_to table request → after ≡ table_after table request → added ≡ request_adds hop seq onward →
    Happens net past c (Request c hop seq) (Requested onward) added × ArePorts net (after_event net past (Request c hop seq)) (slice_set ports port after)
request_served net past c conn facts hop seq port ports at are has there low table after request onward added table_at request_is onward_is after_is added_is =
    let e = Request c hop seq in
    let tells = port_tells conn.path hop port has in
    let lawful = all_lawful net past c conn facts at in
    let at_hop = at_its_hop net past c conn facts hop port at tells.0 tells.1 in
    let decided = request_decision facts (reserved_on net past (port_of conn.path e)) (capacity_of net past (port_of conn.path e)) hop (request_of conn.vc facts seq) in
    let said : outcome_of net past e ≡ Requested decided =
    answers net past e c conn facts refl at
    ∙ ap (λ b. if not b then NotEnabled Unknown else (if not (request_is_at facts seq hop) then NotEnabled NotSent else Requested decided)) tells.0
    ∙ ap (λ b. if not b then NotEnabled NotSent else Requested decided) there in
    let law = requests_served net past at.rules lawful c hop seq port conn decided at.known at_hop said in
    let table_is : table ≡ port_table net past port = (let e = sym table_at ∙ port_has net past ports port are low in cc) in
    let is_request : request ≡ request_of conn.vc (facts_of c past) seq = request_is ∙ ap (λ fs. request_of conn.vc fs seq) at.facts_are in
    let is : onward ≡ decided = onward_is ∙ ap (λ t. reply_to t request) table_is ∙ ap (reply_to (port_table net past port)) is_request ∙ law.0 in
    let becomes : after ≡ port_table net (after_event net past e) port = after_is ∙ ap (λ t. table_after t request) table_is ∙ ap (table_after (port_table net past port)) is_request ∙ law.1 in (
      record { answer = ap Requested is ∙ sym said; adds = added_is },
      ports_after net past (after_event net past e) ports port after are low becomes
          (λ q other. tables_stay net past at.rules lawful e q tt (away net e c conn hop port q refl at.known refl tells.1 other)),
    )

-- an answer that a port serves
pub answer_served :
    (net : Topology) (past : Past) (c : ℕ) (conn : Conn) (facts : List Fact) (hop seq port : ℕ) (granted : Bool) (ports : List Table) →
    IsConnAt net past c conn facts → ArePorts net past ports → port_at conn.path hop ≡ Some port → answer_is_at (length conn.path) facts seq hop granted ≡ true → port < length ports →
    (table after : Table) (reply : Reply) (back : Back) (added : List Fact) → slice_get ports port ≡ Some table → reply ≡ answer_to (request_of conn.vc facts seq) granted →
    back ≡ port_answer table reply → after ≡ table_after_answer table reply → added ≡ answer_adds hop seq granted back →
    Happens net past c (Answer c hop seq granted) (Answered back) added × ArePorts net (after_event net past (Answer c hop seq granted)) (slice_set ports port after)
answer_served net past c conn facts hop seq port granted ports at are has there low table after reply back added table_at reply_is back_is after_is added_is =
    let e = Answer c hop seq granted in
    let tells = port_tells conn.path hop port has in
    let lawful = all_lawful net past c conn facts at in
    let at_hop = at_its_hop net past c conn facts hop port at tells.0 tells.1 in
    let decided = answer_decision facts hop (answer_to (request_of conn.vc facts seq) granted) in
    let said : outcome_of net past e ≡ Answered decided =
    answers net past e c conn facts refl at
    ∙ ap (λ b. if not b then NotEnabled Unknown else (if not (answer_is_at (length conn.path) facts seq hop granted) then NotEnabled NotSent else Answered decided)) tells.0
    ∙ ap (λ b. if not b then NotEnabled NotSent else Answered decided) there in
    let law = answers_served net past at.rules lawful c hop seq port granted conn decided at.known at_hop said in
    let table_is : table ≡ port_table net past port = (let e = sym table_at ∙ port_has net past ports port are low in cc) in
    let is_reply : reply ≡ answer_to (request_of conn.vc (facts_of c past) seq) granted = reply_is ∙ ap (λ fs. answer_to (request_of conn.vc fs seq) granted) at.facts_are in
    let is : back ≡ decided = back_is ∙ ap (λ t. port_answer t reply) table_is ∙ ap (port_answer (port_table net past port)) is_reply ∙ law.0 in
    let becomes : after ≡ port_table net (after_event net past e) port = after_is ∙ ap (λ t. table_after_answer t reply) table_is ∙ ap (table_after_answer (port_table net past port)) is_reply ∙ law.1 in (
      record { answer = ap Answered is ∙ sym said; adds = added_is },
      ports_after net past (after_event net past e) ports port after are low becomes
          (λ q other. tables_stay net past at.rules lawful e q tt (away net e c conn hop port q refl at.known refl tells.1 other)),
    )

-- an event that can't happen leaves the tables
pub nothing_served :
    (net : Topology) (past after : Past) (ports : List Table) → ArePorts net past ports → after ≡ past → ArePorts net after ports
nothing_served net past after ports are same = subst (λ l. ArePorts net l ports) (sym same) are

-- the ports that a path names are there
pub port_within :
    (net : Topology) (past : Past) (c : ℕ) (conn : Conn) (facts : List Fact) (hop port : ℕ) (ports : List Table) →
    IsConnAt net past c conn facts → ArePorts net past ports → port_at conn.path hop ≡ Some port → port < length ports
port_within net past c conn facts hop port ports at are has =
    let tells = port_tells conn.path hop port has in
    let bounds = is_hop_tells (length conn.path) hop tells.0 in
    let within = conn_within net at.rules c conn at.known in
    let low = bounds.0 in
    let high = bounds.1 in
    let in_net : slice_index conn.path (hop - 1) < length net.capacities = within.in_net (hop - 1) 0 (omega arith) in
    let named : port < length net.capacities = subst (λ n. n < length net.capacities) (sym tells.1) in_net in
    elim (cases_option (slice_get net.capacities port)) [
      | inl none ↦ absurd (let e = sym (slice_get-get_or net.capacities port 0 named) ∙ none in cc)
      | inr some ↦ slice_get_within ports port (port_table net past port) (are port ∙ ap (option_map (λ (_ : ℕ). port_table net past port)) some.1)
    ]

-- an answer that doesn't lie at the hop
pub answer_absent :
    (net : Topology) (past : Past) (c : ℕ) (conn : Conn) (facts : List Fact) (hop seq : ℕ) (granted : Bool) (ports : List Table) →
    IsConnAt net past c conn facts → ArePorts net past ports → is_hop (length conn.path) hop ≡ true → answer_is_at (length conn.path) facts seq hop granted ≡ false →
    Happens net past c (Answer c hop seq granted) (NotEnabled NotSent) [] × ArePorts net (after_event net past (Answer c hop seq granted)) ports
answer_absent net past c conn facts hop seq granted ports at are is absent =
    let e = Answer c hop seq granted in
    let decided = answer_decision facts hop (answer_to (request_of conn.vc facts seq) granted) in
    let said : outcome_of net past e ≡ NotEnabled NotSent =
    answers net past e c conn facts refl at
    ∙ ap (λ b. if not b then NotEnabled Unknown else (if not (answer_is_at (length conn.path) facts seq hop granted) then NotEnabled NotSent else Answered decided)) is
    ∙ ap (λ b. if not b then NotEnabled NotSent else Answered decided) absent in
    (record { answer = sym said; adds = refl }, nothing_served net past (after_event net past e) ports are (ap (λ o. with_facts c (facts_added (facts_of c past) e o) past) said))
