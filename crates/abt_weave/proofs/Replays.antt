-- The table that a port has after events is the one that its projection makes of its first table.
use Rattle.std.proofs.Common.{◌≡◌, ◌≢◌, ℕ, ◌+◌, ◌-◌, ◌≤◌, inl, inr, refl, ap, Bool, true, false, List, [], ◌∷◌, length, ◌∙◌, sym, subst, Option, None, Some, arith, map}
use Rattle.std.specs.Prelude.{◌==◌, not, nat_lt, if◌then◌else◌, slice_index, fold, All}
use Rattle.std.proofs.lemmas.Bool.{cond-false, cond-true, cases_eq, eq-eqb, ne_eqb}
use Rattle.std.proofs.lemmas.List.Sums.{fold-append}
use Rattle.abt_cell.specs.Channel.{Channel}
use Rattle.abt_gcra.specs.declared.verdict.Verdict.{Verdict}
use Rattle.abt_node.specs.declared.reply.Onward.{Onward}
use Rattle.abt_node.specs.declared.reply.Back.{Back}
use Rattle.abt_node.specs.Table.{Table}
use Rattle.abt_net.specs.declared.conn.Conn.{Conn}
use Rattle.abt_net.specs.Topology.{Topology, IsWithinRules, conn_at}
use Rattle.abt_facts.specs.declared.fact.Fact.{Fact}
use Rattle.abt_facts.specs.Sent.{request_is_at, answer_is_at}
use Rattle.abt_facts.specs.Cells.{emitted_of, fence_of, is_in_time, last_arrival_of, verdict_at}
use Rattle.abt_facts.specs.Hop.{held_of}
use Rattle.abt_model.specs.declared.event.Event.{Event}
use Rattle.abt_model.specs.declared.event.Event.TheVariants.{Arrive, Request, Answer, Capacity}
use Rattle.abt_model.specs.declared.outcome.Cause.TheVariants.{Unknown, NotSent, Fenced, Delay, ClockBack}
use Rattle.abt_model.specs.declared.outcome.Outcome.{Outcome}
use Rattle.abt_model.specs.declared.outcome.Outcome.TheVariants.{Requested, Answered, Arrived, NotEnabled}
use Rattle.abt_model.specs.Answers.{is_hop}
use Rattle.abt_model.specs.Decision.{request_decision, answer_decision}
use Rattle.abt_cell.specs.Message.{answer_to}
use Rattle.abt_source.specs.SourceFacts.{request_of}
use Rattle.abt_model.specs.Events.{AsksRate}
use Rattle.abt_model.specs.Outcomes.{past_by, conn_of, port_of, outcome_of, facts_added, after_event}
use Rattle.abt_model.specs.Past.{Past, facts_of, with_facts}
use Rattle.abt_model.specs.PortTable.{VisitsBy, port_table, hop_visited, Visits}
use Rattle.abt_model.specs.Reserved.{reserved_on, capacity_of}
use Rattle.abt_net.specs.Paths.{hop_of}
use Rattle.abt_model.proofs.Served.{conn_within}
use Rattle.abt_model.proofs.Serving.{requests_served, answers_served, arrivals_served}
use Rattle.abt_model.proofs.Setting.{capacities_served}
use Rattle.abt_model.proofs.Steps.{is_hop_tells}
use Rattle.abt_net.proofs.PathLemmas.{hop_of-port, hop_at}
use Rattle.abt_model.proofs.Tables.{tables_stay}
use Rattle.abt_model.proofs.Worlds.{AllLawful, nothing_lawful, after_event_lawful, after_event-unknown, outcome_of-known, cases_option, first_asks, others_ask}
use Rattle.abt_journal.specs.declared.entry.Entry.{Entry}
use Rattle.abt_journal.specs.declared.input.PortInput.{PortInput}
use Rattle.abt_journal.specs.declared.input.PortReply.{PortReply}
use Rattle.abt_journal.specs.declared.input.PortReply.TheVariants.{Requested as RequestedOut, Answered as AnsweredOut, Arrived as ArrivedOut, Capped as CappedOut}
use Rattle.abt_journal.specs.declared.input.PortInput.TheVariants.{Capacity as CapacityIn}
use Rattle.abt_journal.specs.Replay.{reply_by, table_after, replay}
use Rattle.abt_weave.specs.Projections.{Step, step_of, Visit, reply_of, input_of, visit, past_of, step_at, steps_on}
use Rattle.abt_weave.proofs.Alone.{answer_told, capped_by, capacity_visits, capacity_silent}
use Rattle.abt_weave.proofs.OwnEvents.{unvisited_by}
use Rattle.abt_weave.proofs.PortEvents.{IsVisit, known_at, input_at, visit_cases, visit_is, visit_made, has_reply, reply_enabled, some_same}
use Rattle.abt_weave.proofs.PortLooks.{first_hop}

-- the table that steps make of one
abbrev pub replayed : Table → List Step → Table
replayed opening steps = fold (λ t step. table_after t step.input) opening steps

pub replay-steps : (opening : Table) (entries : List Entry) → replay opening entries ≡ replayed opening (map step_of entries)
replay-steps opening [] = refl
replay-steps opening (entry ∷ entries) = replay-steps (table_after opening entry.input) entries

-- the past of events is lawful
pub past_lawful : (net : Topology) (earlier : List Event) → All AsksRate earlier → AllLawful net (past_of net earlier)
past_lawful net [] rates = nothing_lawful net
past_lawful net (event ∷ earlier) rates = after_event_lawful net (past_of net earlier) (past_lawful net earlier (others_ask event earlier rates)) event (first_asks event earlier rates)

-- an event of a connection that brings nothing comes to no port
pub no_visit : (net : Topology) (past : Past) (event : Event) (c : ℕ) → conn_of event ≡ Some c → ((vc : Channel) (facts : List Fact) → input_of vc facts event ≡ None) → visit net past event ≡ None
no_visit net past event c whose none = unvisited_by net past event c whose (λ conn facts. none conn.vc facts)

-- the hop of the port that an event comes to
pub hop_here : (net : Topology) (past : Past) → IsWithinRules net → (event : Event) (v : Visit) → (parts : IsVisit net past event v) → hop_of parts.conn.path v.port ≡ hop_visited event
hop_here net past rules event v parts =
    let enabled = reply_enabled (outcome_of net past event) v.reply parts.reply in
    let reply = has_reply net past event parts.c parts.conn v.input parts.whose parts.known (first_hop net rules parts.c parts.conn parts.known) parts.input enabled in
    let hop = is_hop_tells (length parts.conn.path) (hop_visited event) reply.within in
    let at = hop_at parts.conn.path (hop_visited event - 1) (conn_within net rules parts.c parts.conn parts.known).visits_once (omega (arith, hop.0, hop.1)) in
    let back : (hop_visited event - 1) + 1 ≡ hop_visited event = omega (arith, hop.0) in
    subst (λ q. hop_of parts.conn.path q ≡ hop_visited event) parts.port (at ∙ back)

requested_by : (a b : Bool) (onward : Onward) (reply : PortReply) → reply_of (if not a then NotEnabled Unknown else (if not b then NotEnabled NotSent else Requested onward)) ≡ Some reply →
    (if not a then NotEnabled Unknown else (if not b then NotEnabled NotSent else Requested onward)) ≡ Requested onward
requested_by false b onward reply h = absurd (cc)
requested_by true false onward reply h = absurd (cc)
requested_by true true onward reply h = refl

answered_by : (a b : Bool) (back : Back) (reply : PortReply) → reply_of (if not a then NotEnabled Unknown else (if not b then NotEnabled NotSent else Answered back)) ≡ Some reply →
    (if not a then NotEnabled Unknown else (if not b then NotEnabled NotSent else Answered back)) ≡ Answered back
answered_by false b back reply h = absurd (cc)
answered_by true false back reply h = absurd (cc)
answered_by true true back reply h = refl

arrived_by : (a b d e : Bool) (v : Verdict) (reply : PortReply) →
    reply_of (if not a then NotEnabled NotSent else (if b then NotEnabled Fenced else (if not d then NotEnabled Delay else (if e then NotEnabled ClockBack else Arrived v)))) ≡ Some reply →
    (if not a then NotEnabled NotSent else (if b then NotEnabled Fenced else (if not d then NotEnabled Delay else (if e then NotEnabled ClockBack else Arrived v)))) ≡ Arrived v
arrived_by false b d e v reply h = absurd (cc)
arrived_by true true d e v reply h = absurd (cc)
arrived_by true false false e v reply h = absurd (cc)
arrived_by true false true true v reply h = absurd (cc)
arrived_by true false true false v reply h = refl

-- what comes to a port answers as its kind does
pub request_said : (net : Topology) (past : Past) (c hop seq : ℕ) (v : Visit) → visit net past (Request c hop seq) ≡ Some v → (onward : Onward) × (outcome_of net past (Request c hop seq) ≡ Requested onward)
request_said net past c hop seq v is =
    let event = Request c hop seq in
    let parts = visit_is net past event v c refl is in
    let conn = parts.conn in
    let facts = facts_of parts.c past in
    let known = outcome_of-known net past event parts.c conn parts.whose parts.known in
    let onward = request_decision facts (reserved_on net past (port_of conn.path event)) (capacity_of net past (port_of conn.path event)) hop (request_of conn.vc facts seq) in
    (onward, known ∙ requested_by (is_hop (length conn.path) hop) (request_is_at facts seq hop) onward v.reply (ap reply_of (sym known) ∙ parts.reply))

pub answer_said : (net : Topology) (past : Past) (c hop seq : ℕ) (granted : Bool) (v : Visit) → visit net past (Answer c hop seq granted) ≡ Some v → (back : Back) × (outcome_of net past (Answer c hop seq granted) ≡ Answered back)
answer_said net past c hop seq granted v is =
    let event = Answer c hop seq granted in
    let parts = visit_is net past event v c refl is in
    let conn = parts.conn in
    let facts = facts_of parts.c past in
    let known = outcome_of-known net past event parts.c conn parts.whose parts.known in
    let back = answer_decision facts hop (answer_to (request_of conn.vc facts seq) granted) in
    (back, known ∙ answered_by (is_hop (length conn.path) hop) (answer_is_at (length conn.path) facts seq hop granted) back v.reply (ap reply_of (sym known) ∙ parts.reply))

pub arrival_said : (net : Topology) (past : Past) (c cell at : ℕ) (v : Visit) → visit net past (Arrive c cell at) ≡ Some v → (verdict : Verdict) × (outcome_of net past (Arrive c cell at) ≡ Arrived verdict)
arrival_said net past c cell at v is =
    let event = Arrive c cell at in
    let parts = visit_is net past event v c refl is in
    let conn = parts.conn in
    let facts = facts_of parts.c past in
    let known = outcome_of-known net past event parts.c conn parts.whose parts.known in
    let verdict = verdict_at conn.tau facts at (held_of facts 1) in
    (verdict, known ∙ arrived_by (nat_lt cell (emitted_of facts)) (nat_lt cell (fence_of facts)) (is_in_time conn.delay conn.tau facts cell at) (nat_lt at (last_arrival_of facts)) verdict v.reply (ap reply_of (sym known) ∙ parts.reply))

-- What comes to a port is replied to by its table, and makes of it what its input does.
abbrev pub IsServed : Topology → Past → Event → Visit → Type 0
IsServed net past event v = (v.reply ≡ reply_by (port_table net past v.port) v.input) × (port_table net (after_event net past event) v.port ≡ table_after (port_table net past v.port) v.input)

request_made : (net : Topology) (past : Past) → IsWithinRules net → AllLawful net past → (c hop seq : ℕ) (v : Visit) → visit net past (Request c hop seq) ≡ Some v → IsServed net past (Request c hop seq) v
request_made net past rules lawful c hop seq v is =
    let event = Request c hop seq in
    let parts = visit_is net past event v c refl is in
    let said = request_said net past c hop seq v is in
    let served = requests_served net past rules lawful c hop seq v.port parts.conn said.0 (known_at net past c event v parts refl) (hop_here net past rules event v parts) said.1 in
    let table = port_table net past v.port in
    let input = some_same (input_at net past c event v parts refl) in (
      some_same (sym parts.reply ∙ ap reply_of said.1) ∙ ap (λ (o : Onward). RequestedOut o) (sym served.0) ∙ ap (reply_by table) input,
      sym served.1 ∙ ap (table_after table) input,
    )

answer_made : (net : Topology) (past : Past) → IsWithinRules net → AllLawful net past → (c hop seq : ℕ) (granted : Bool) (v : Visit) → visit net past (Answer c hop seq granted) ≡ Some v → IsServed net past (Answer c hop seq granted) v
answer_made net past rules lawful c hop seq granted v is =
    let event = Answer c hop seq granted in
    let parts = visit_is net past event v c refl is in
    let said = answer_said net past c hop seq granted v is in
    let served = answers_served net past rules lawful c hop seq v.port granted parts.conn said.0 (known_at net past c event v parts refl) (hop_here net past rules event v parts) said.1 in
    let table = port_table net past v.port in
    let input = some_same (input_at net past c event v parts refl) in (
      some_same (sym parts.reply ∙ ap reply_of said.1) ∙ ap (λ (b : Back). AnsweredOut b) (sym served.0) ∙ ap (reply_by table) input,
      sym served.1 ∙ ap (table_after table) input,
    )

arrival_made : (net : Topology) (past : Past) → IsWithinRules net → AllLawful net past → (c cell at : ℕ) (v : Visit) → visit net past (Arrive c cell at) ≡ Some v → IsServed net past (Arrive c cell at) v
arrival_made net past rules lawful c cell at v is =
    let event = Arrive c cell at in
    let parts = visit_is net past event v c refl is in
    let said = arrival_said net past c cell at v is in
    let served = arrivals_served net past rules lawful c cell at v.port parts.conn said.0 (known_at net past c event v parts refl) (hop_here net past rules event v parts) said.1 in
    let table = port_table net past v.port in
    let input = some_same (input_at net past c event v parts refl) in (
      some_same (sym parts.reply ∙ ap reply_of said.1) ∙ ap ArrivedOut (sym served.0) ∙ ap (reply_by table) input,
      sym served.1 ∙ ap (table_after table) input,
    )

capacity_made : (net : Topology) (past : Past) → IsWithinRules net → AllLawful net past → (p u : ℕ) (v : Visit) → visit net past (Capacity p u) ≡ Some v → IsServed net past (Capacity p u) v
capacity_made net past rules lawful p u v is =
    let parts = capacity_visits net past p u v is in
    let said = capped_by net past p u v.reply parts.2 in
    let served = capacities_served net past rules lawful p u (answer_told net past p u) said.1 in
    let after = after_event net past (Capacity p u) in
    subst (λ q. (v.reply ≡ reply_by (port_table net past q) v.input) × (port_table net after q ≡ table_after (port_table net past q) v.input)) parts.0
    (subst (λ i. (v.reply ≡ reply_by (port_table net past p) i) × (port_table net after p ≡ table_after (port_table net past p) i)) (sym parts.1)
    (said.2 ∙ ap CappedOut (sym served.0), sym served.1))

pub event_made : (net : Topology) (past : Past) → IsWithinRules net → AllLawful net past → (event : Event) (v : Visit) → visit net past event ≡ Some v → IsServed net past event v
event_made net past rules lawful (Request c hop seq) v is = request_made net past rules lawful c hop seq v is
event_made net past rules lawful (Answer c hop seq granted) v is = answer_made net past rules lawful c hop seq granted v is
event_made net past rules lawful (Arrive c cell at) v is = arrival_made net past rules lawful c cell at v is
event_made net past rules lawful (Capacity p u) v is = capacity_made net past rules lawful p u v is
event_made net past rules lawful other v is = (let none = no_visit net past other _ refl (λ vc facts. refl) in absurd (cc))

-- what comes to another port leaves a table
elsewhere_of : (net : Topology) (past : Past) (event : Event) (v : Visit) (p : ℕ) → IsVisit net past event v → v.port ≢ p → ¬ Visits net event p
elsewhere_of net past event v p parts differ visited =
    let visits = subst (VisitsBy net event p) parts.whose visited in
    let same : visits.0 ≡ parts.conn = some_same (sym visits.1 ∙ parts.known) in
    let hop : hop_of parts.conn.path p ≡ hop_visited event = subst (λ (conn : Conn). hop_of conn.path p ≡ hop_visited event) same visits.3 in
    let low : 1 ≤ hop_visited event = visits.2 in
    let port = hop_of-port parts.conn.path p (λ zero. (let e = sym hop ∙ zero in omega (arith, e, low))) in
    differ (sym parts.port ∙ ap (λ n. slice_index parts.conn.path (n - 1)) (sym hop) ∙ port)

elsewhere : (net : Topology) (past : Past) (event : Event) (v : Visit) (p : ℕ) → visit net past event ≡ Some v → v.port ≢ p → ¬ Visits net event p
elsewhere net past event v p is differ visited = elim (visit_cases net past event v is) [
  | inl parts ↦ elsewhere_of net past event v p parts differ visited
  | inr alone ↦ (let visits = subst (λ e. Visits net e p) alone.event_is visited in differ visits.0)
]

-- an event that comes to no port leaves the tables
no_reply : (facts : List Fact) (vc : Channel) (event : Event) (outcome : Outcome) (input : PortInput) → input_of vc facts event ≡ Some input → reply_of outcome ≡ None → facts_added facts event outcome ≡ []
no_reply facts vc (Request c hop seq) (Requested onward) input h none = absurd (cc)
no_reply facts vc (Request c hop seq) other input h none = refl
no_reply facts vc (Answer c hop seq granted) (Answered back) input h none = absurd (cc)
no_reply facts vc (Answer c hop seq granted) other input h none = refl
no_reply facts vc (Arrive c cell at) (Arrived verdict) input h none = absurd (cc)
no_reply facts vc (Arrive c cell at) other input h none = refl
no_reply facts vc other outcome input h none = absurd (cc)

nothing_past : (net : Topology) (past : Past) (event : Event) (c : ℕ) → conn_of event ≡ Some c → ((vc : Channel) (facts : List Fact) → (input : PortInput) × (input_of vc facts event ≡ Some input)) → visit net past event ≡ None → after_event net past event ≡ past
nothing_past net past event c own brings none = elim (cases_option (conn_at net c)) [
  | inl unknown ↦ after_event-unknown net past event c own unknown
  | inr known ↦ (
      let facts = facts_of c past in
      let input = brings known.0.vc facts in
      elim (cases_option (reply_of (outcome_of net past event))) [
        | inl silent ↦ ap (past_by past event (outcome_of net past event)) own ∙ ap (λ (added : List Fact). with_facts c added past) (no_reply facts known.0.vc event (outcome_of net past event) input.0 input.1 silent)
        | inr reply ↦ (let made = visit_made net past event c known.0 input.0 reply.0 own known.1 input.1 reply.1 in absurd (cc))
      ])
]

-- an event of a source, or a Turn, comes to no port
stays : (net : Topology) (past : Past) → IsWithinRules net → AllLawful net past → (event : Event) → AsksRate event → (c : ℕ) → conn_of event ≡ Some c → hop_visited event ≡ 0 → (p : ℕ) →
    port_table net (after_event net past event) p ≡ port_table net past p
stays net past rules lawful event rate c own zero p = tables_stay net past rules lawful event p rate (λ visited. (let visits = subst (VisitsBy net event p) own visited in let low = visits.2 in omega (arith, low, zero)))

unvisited : (net : Topology) (past : Past) → IsWithinRules net → AllLawful net past → (event : Event) → AsksRate event → (p : ℕ) → visit net past event ≡ None →
    port_table net (after_event net past event) p ≡ port_table net past p
unvisited net past rules lawful (Request c hop seq) rate p none = ap (λ (w : Past). port_table net w p) (nothing_past net past (Request c hop seq) c refl (λ vc facts. (_, refl)) none)
unvisited net past rules lawful (Answer c hop seq granted) rate p none = ap (λ (w : Past). port_table net w p) (nothing_past net past (Answer c hop seq granted) c refl (λ vc facts. (_, refl)) none)
unvisited net past rules lawful (Arrive c cell at) rate p none = ap (λ (w : Past). port_table net w p) (nothing_past net past (Arrive c cell at) c refl (λ vc facts. (_, refl)) none)
unvisited net past rules lawful (Capacity q u) rate p none = ap (λ (w : Past). port_table net w p) (capacity_silent net past q u none)
unvisited net past rules lawful other rate p none = stays net past rules lawful other rate _ refl refl p

-- what one event makes of a table is what its step there does
pub one_step : (net : Topology) (past : Past) → IsWithinRules net → AllLawful net past → (event : Event) → AsksRate event → (p place : ℕ) →
    port_table net (after_event net past event) p ≡ replayed (port_table net past p) (step_at p place (visit net past event))
one_step net past rules lawful event rate p place = elim (cases_option (visit net past event)) [
  | inl none ↦ unvisited net past rules lawful event rate p none ∙ ap (λ (o : Option Visit). replayed (port_table net past p) (step_at p place o)) (sym none)
  | inr some ↦ (
      let v = some.0 in
      let made : Step = record { place = place; input = v.input; reply = v.reply } in
      elim (cases_eq v.port p) [
        | inl same ↦ subst (λ q. port_table net (after_event net past event) q ≡ table_after (port_table net past q) v.input) same (event_made net past rules lawful event v some.1).1
            ∙ ap (replayed (port_table net past p)) (sym (cond-true (v.port == p) (made ∷ []) [] (eq-eqb v.port p same)))
            ∙ ap (λ (o : Option Visit). replayed (port_table net past p) (step_at p place o)) (sym some.1)
        | inr differ ↦ tables_stay net past rules lawful event p rate (elsewhere net past event v p some.1 differ)
            ∙ ap (replayed (port_table net past p)) (sym (cond-false (v.port == p) (made ∷ []) [] (ne_eqb v.port p differ)))
            ∙ ap (λ (o : Option Visit). replayed (port_table net past p) (step_at p place o)) (sym some.1)
      ])
]

-- the table of a port is the one that its projection makes of its first table
pub tables_replayed : (net : Topology) → IsWithinRules net → (earlier : List Event) → All AsksRate earlier → (p : ℕ) →
    port_table net (past_of net earlier) p ≡ replayed (port_table net [] p) (steps_on net p earlier)
tables_replayed net rules [] rates p = refl
tables_replayed net rules (event ∷ earlier) rates p =
    let before = others_ask event earlier rates in
    let past = past_of net earlier in
    let place = length (steps_on net p earlier) in
    one_step net past rules (past_lawful net earlier before) event (first_asks event earlier rates) p place
    ∙ ap (λ (t : Table). replayed t (step_at p place (visit net past event))) (tables_replayed net rules earlier before p)
    ∙ sym (fold-append (λ (t : Table) (s : Step). table_after t s.input) (port_table net [] p) (steps_on net p earlier) (step_at p place (visit net past event)))
