-- What came to a port where the journals stood so comes there again, and is replied to the same.
use Rattle.std.proofs.Common.{◌≡◌, ℕ, ◌+◌, ◌-◌, ◌<◌, ◌≤◌, inl, inr, refl, ap, Bool, true, false, List, [], length, ◌∙◌, sym, subst, Some, arith}
use Rattle.std.specs.Prelude.{◌&&◌, not, nat_lt, nat_le, if◌then◌else◌, slice_index, max, All}
use Rattle.std.proofs.lemmas.Bool.{false≢true, cond-true, cond-false, cases_eq, eq-eqb, ne_eqb}
use Rattle.std.proofs.lemmas.Option.{slice_get_within}
use Rattle.abt_cell.specs.Channel.{Channel}
use Rattle.abt_cell.specs.Message.{Terms, answer_to}
use Rattle.abt_gcra.specs.declared.verdict.Verdict.{Verdict}
use Rattle.abt_net.specs.declared.conn.Conn.{Conn}
use Rattle.abt_net.specs.Topology.{Topology, IsWithinRules, conn_at}
use Rattle.abt_node.specs.declared.reply.Onward.{Onward}
use Rattle.abt_node.specs.Table.{Table}
use Rattle.abt_facts.specs.declared.fact.Fact.{Fact}
use Rattle.abt_facts.specs.Requests.{was_asked, floor_of, ask_of}
use Rattle.abt_facts.specs.Sent.{request_is_at, answer_is_at, was_passed}
use Rattle.abt_facts.specs.Cells.{emitted_of, moment_of, after_last_of, delivered_mark_of, last_arrival_of, fence_of, is_in_time, verdict_at}
use Rattle.abt_facts.specs.Hop.{held_of}
use Rattle.abt_model.specs.declared.event.Event.{Event}
use Rattle.abt_model.specs.declared.event.Event.TheVariants.{Arrive, Request, Answer, Capacity}
use Rattle.abt_model.specs.declared.outcome.Cause.TheVariants.{ClockBack, NotSent, Unknown, Fenced, Delay}
use Rattle.abt_model.specs.declared.outcome.Outcome.{Outcome}
use Rattle.abt_model.specs.declared.outcome.Outcome.TheVariants.{Requested, Arrived, NotEnabled}
use Rattle.abt_model.specs.Answers.{arrive_answer, is_hop}
use Rattle.abt_source.specs.SourceFacts.{request_of}
use Rattle.abt_model.specs.Events.{AsksRate}
use Rattle.abt_model.specs.Outcomes.{conn_of, outcome_of}
use Rattle.abt_model.specs.Past.{facts_of}
use Rattle.abt_model.specs.PortTable.{hop_visited, port_table}
use Rattle.abt_model.proofs.Chain.{at_asked, passed_asked}
use Rattle.abt_model.proofs.Drops.{answer_passed}
use Rattle.abt_model.proofs.Lawful.{route_of}
use Rattle.abt_model.proofs.Steps.{is_hop_tells, request_at_tells}
use Rattle.abt_model.proofs.Worlds.{outcome_of-known, lawful_at}
use Rattle.abt_journal.specs.declared.input.PortInput.{PortInput}
use Rattle.abt_journal.specs.declared.input.PortInput.TheVariants.{Request as RequestIn, Answer as AnswerIn, Capacity as CapacityIn}
use Rattle.abt_journal.specs.declared.input.PortReply.TheVariants.{Capped as CappedOut}
use Rattle.abt_journal.specs.declared.input.PortReply.{PortReply}
use Rattle.abt_journal.specs.Replay.{reply_by}
use Rattle.abt_weave.specs.Projections.{Visit, is_enabled, input_of, past_of, visit, steps_on, entry_made, entries_on}
use Rattle.abt_weave.specs.Stuck.{IsBeginning}
use Rattle.abt_weave.specs.Waking.{AreNear}
use Rattle.abt_weave.proofs.Alike.{AreRuns, tables_alike}
use Rattle.abt_weave.proofs.Asks.{AreTerms, asked_below, terms_below}
use Rattle.abt_weave.proofs.LineFacts.{line, emitted_of-line, moment_of-line, after_last_of-line, last_arrival_of-line, delivered_mark_of-line}
use Rattle.abt_weave.proofs.LineReplays.{lined, line_replayed}
use Rattle.abt_weave.proofs.Alone.{answer_told, capped_by, capped_at, capacity_visit, capacity_visits}
use Rattle.abt_weave.proofs.PortEvents.{known_at, input_at, IsVisit, visit_is, visit_made, has_reply, reply_enabled, made_beside, some_same}
use Rattle.abt_weave.proofs.PortLooks.{first_hop}
use Rattle.abt_weave.proofs.Replays.{past_lawful, event_made}
use Rattle.abt_weave.proofs.SentBelow.{IsBelow, IsHopOf, AreBegunAt, begun_at, passed_below}

-- What can send to a hop of a connection has done no more in one list of events than in another: the ports of that hop and of those beside it, and at the
-- first hop the source. Under a number that was asked for in both the same was asked.
pub record IsSentBelow (net : Topology) (less more : List Event) (c hop : ℕ) : Type 0 where
  pub ports : (conn : Conn) (j : ℕ) → IsHopOf net c conn j → AreNear hop j → AreBegunAt net conn j less more
  pub source : hop ≡ 1 → IsBeginning (entries_on net c less) (entries_on net c more)
  pub terms : (s : ℕ) → was_asked (facts_of c (past_of net less)) s ≡ true → was_asked (facts_of c (past_of net more)) s ≡ true → AreTerms (facts_of c (past_of net more)) (facts_of c (past_of net less)) s

conn_low : (net : Topology) (c : ℕ) (conn : Conn) → conn_at net c ≡ Some conn → c < length net.conns
conn_low net c conn known = slice_get_within net.conns c conn known

pub below_sent : (net : Topology) (less more : List Event) → AreRuns net less more → IsBelow net less more → (c hop : ℕ) (conn : Conn) → conn_at net c ≡ Some conn → IsSentBelow net less more c hop
below_sent net less more runs below c hop conn known =
    let begins = below.conns c (conn_low net c conn known) in
    record {
      ports = λ k j its near. begun_at net c k j its less more below;
      source = λ first. begins;
      terms = λ s was also. terms_below net c s conn less more (lawful_at net (past_of net more) (past_lawful net more runs.second) c conn known) begins was;
    }

-- the event comes again, as it came
pub record ComesAgain (net : Topology) (less more : List Event) (event : Event) (v : Visit) : Type 0 where
  pub visits : visit net (past_of net more) event ≡ Some v
  pub beside : entry_made net more event ≡ entry_made net less event

visit_made_of : (port other : ℕ) (input also : PortInput) (reply back : PortReply) → port ≡ other → input ≡ also → reply ≡ back →
    (let w : Visit = record { port = port; input = input; reply = reply } in w) ≡ (record { port = other; input = also; reply = back })
visit_made_of port other input also reply back ports inputs replies =
    ap (λ n. (let w : Visit = record { port = n; input = input; reply = reply } in w)) ports
    ∙ ap (λ i. (let w : Visit = record { port = other; input = i; reply = reply } in w)) inputs
    ∙ ap (λ r. (let w : Visit = record { port = other; input = also; reply = r } in w)) replies

-- where an event happens again and brings the same, it comes again
comes_again : (net : Topology) (less more : List Event) → AreRuns net less more → (event : Event) (v : Visit) → (parts : IsVisit net (past_of net less) event v) → (c : ℕ) → conn_of event ≡ Some c → visit net (past_of net less) event ≡ Some v →
    steps_on net v.port less ≡ steps_on net v.port more → input_of parts.conn.vc (facts_of c (past_of net more)) event ≡ Some v.input → is_enabled (outcome_of net (past_of net more) event) ≡ true → ComesAgain net less more event v
comes_again net less more runs event v parts c whose is same brings on =
    let before = past_of net less in
    let past = past_of net more in
    let conn = parts.conn in
    let known = known_at net before c event v parts whose in
    let found = has_reply net past event c conn v.input whose known (first_hop net runs.rules c conn known) brings on in
    let made = visit_made net past event c conn v.input found.reply whose known brings found.is in
    let one = (event_made net before runs.rules (past_lawful net less runs.first) event v is).0 in
    let other = (event_made net past runs.rules (past_lawful net more runs.second) event (record { port = slice_index conn.path (hop_visited event - 1); input = v.input; reply = found.reply }) made).0 in
    let reply : found.reply ≡ v.reply =
    other ∙ ap (λ p. reply_by (port_table net past p) v.input) parts.port ∙ ap (λ (t : Table). reply_by t v.input) (sym (tables_alike net less more runs v.port same)) ∙ sym one in
    let n = length (steps_on net v.port less) in
    let enabled = reply_enabled (outcome_of net before event) v.reply parts.reply in
    record {
      visits = made ∙ ap (λ (w : Visit). Some w) (visit_made_of (slice_index conn.path (hop_visited event - 1)) v.port v.input v.input found.reply v.reply parts.port refl reply);
      beside = made_beside net more event v.port n c conn (outcome_of net past event) v.input (facts_of c past) whose known parts.port (ap (λ l. length l) same) brings on
          ∙ sym (made_beside net less event v.port n c conn (outcome_of net before event) v.input (facts_of c before) whose known parts.port refl (input_at net before c event v parts whose) enabled);
    }

-- so does a capacity
pub capacity_again : (net : Topology) (less more : List Event) → AreRuns net less more → (p u : ℕ) (v : Visit) → visit net (past_of net less) (Capacity p u) ≡ Some v → steps_on net v.port less ≡ steps_on net v.port more →
    ComesAgain net less more (Capacity p u) v
capacity_again net less more runs p u v is same =
    let before = past_of net less in
    let past = past_of net more in
    let parts = capacity_visits net before p u v is in
    let low = (capped_by net before p u v.reply parts.2).0 in
    let reply = CappedOut (answer_told net past p u) in
    let made = capacity_visit net past p u reply (capped_at net past p u low) in
    let one = (event_made net before runs.rules (past_lawful net less runs.first) (Capacity p u) v is).0 in
    let other = (event_made net past runs.rules (past_lawful net more runs.second) (Capacity p u) (record { port = p; input = CapacityIn u; reply = reply }) made).0 in
    let replies : reply ≡ v.reply =
    other ∙ ap (λ q. reply_by (port_table net past q) (CapacityIn u)) parts.0 ∙ ap (λ (t : Table). reply_by t (CapacityIn u)) (sym (tables_alike net less more runs v.port same))
    ∙ ap (reply_by (port_table net before v.port)) (sym parts.1) ∙ sym one in
    record {
      visits = made ∙ ap (λ (w : Visit). Some w) (visit_made_of p v.port (CapacityIn u) v.input reply v.reply parts.0 (sym parts.1) replies);
      beside = refl;
    }

-- a request that was sent
sent_below : (net : Topology) (less more : List Event) → IsWithinRules net → (c : ℕ) (conn : Conn) (seq hop : ℕ) → IsSentBelow net less more c hop → conn_at net c ≡ Some conn → (1 ≤ hop) × (hop ≤ length conn.path) →
    request_is_at (facts_of c (past_of net less)) seq hop ≡ true → request_is_at (facts_of c (past_of net more)) seq hop ≡ true
sent_below net less more rules c conn seq hop below known within h = elim (cases_eq hop 1) [
  | inl one ↦ (
      let asked : was_asked (facts_of c (past_of net less)) seq ≡ true = sym (cond-true _ _ _ (eq-eqb hop 1 one)) ∙ h in
      cond-true _ _ _ (eq-eqb hop 1 one) ∙ asked_below net c seq less more (below.source one) asked)
  | inr later ↦ (
      let passed : was_passed (facts_of c (past_of net less)) seq (hop - 1) ≡ true = sym (cond-false _ _ _ (ne_eqb hop 1 later)) ∙ h in
      let before : IsHopOf net c conn (hop - 1) = record { rules = rules; known = known; low = omega (arith, within.0, later); high = omega (arith, within.1) } in
      cond-false _ _ _ (ne_eqb hop 1 later) ∙ passed_below net c conn seq (hop - 1) before less more (below.ports conn (hop - 1) before (omega (arith, within.0), omega arith)) passed)
]

sent_of : (a b : Bool) (onward : Onward) → is_enabled (if not a then NotEnabled Unknown else (if not b then NotEnabled NotSent else Requested onward)) ≡ true → (a ≡ true) × (b ≡ true)
sent_of true true onward h = (refl, refl)
sent_of true false onward h = absurd (false≢true h)
sent_of false b onward h = absurd (false≢true h)

sent_on : (a b : Bool) (onward : Onward) → a ≡ true → b ≡ true → is_enabled (if not a then NotEnabled Unknown else (if not b then NotEnabled NotSent else Requested onward)) ≡ true
sent_on true true onward one other = refl
sent_on true false onward one other = absurd (false≢true other)
sent_on false b onward one other = absurd (false≢true one)

terms_same : (vc : Channel) (facts others : List Fact) (seq : ℕ) → AreTerms others facts seq → request_of vc others seq ≡ request_of vc facts seq
terms_same vc facts others seq terms =
    ap (λ (n : ℕ). (let made : Terms = record { vc = vc; seq = seq; floor = n; ask = ask_of others seq } in made)) terms.0
    ∙ ap (λ (n : ℕ). (let made : Terms = record { vc = vc; seq = seq; floor = floor_of facts seq; ask = n } in made)) terms.1

pub request_again : (net : Topology) (less more : List Event) → AreRuns net less more → (c hop seq : ℕ) (v : Visit) → IsSentBelow net less more c hop → visit net (past_of net less) (Request c hop seq) ≡ Some v → steps_on net v.port less ≡ steps_on net v.port more →
    ComesAgain net less more (Request c hop seq) v
request_again net less more runs c hop seq v below is same =
    let event = Request c hop seq in
    let before = past_of net less in
    let past = past_of net more in
    let parts = visit_is net before event v c refl is in
    let conn = parts.conn in
    let there = known_at net before c event v parts refl in
    let facts = facts_of c before in
    let others = facts_of c past in
    let known = outcome_of-known net before event c conn refl there in
    let now = outcome_of-known net past event c conn refl there in
    let enabled = reply_enabled (outcome_of net before event) v.reply parts.reply in
    let sent = sent_of (is_hop (length conn.path) hop) (request_is_at facts seq hop) _ (sym (ap is_enabled known) ∙ enabled) in
    let within = is_hop_tells (length conn.path) hop sent.0 in
    let still = sent_below net less more runs.rules c conn seq hop below there within sent.1 in
    let asked = at_asked (route_of conn) facts (lawful_at net before (past_lawful net less runs.first) c conn there) seq hop (request_at_tells facts seq hop within.0 sent.1) in
    let also = at_asked (route_of conn) others (lawful_at net past (past_lawful net more runs.second) c conn there) seq hop (request_at_tells others seq hop within.0 still) in
    let terms = below.terms seq asked also in
    comes_again net less more runs event v parts c refl is same
    (ap (λ (t : Terms). Some (RequestIn t)) (terms_same conn.vc facts others seq terms) ∙ input_at net before c event v parts refl)
    (ap is_enabled now ∙ sent_on (is_hop (length conn.path) hop) (request_is_at others seq hop) _ sent.0 still)

told_of : (a b : Bool) (o : Outcome) → is_enabled (if not a then NotEnabled Unknown else (if not b then NotEnabled NotSent else o)) ≡ true → (a ≡ true) × (b ≡ true)
told_of true true o h = (refl, refl)
told_of true false o h = absurd (false≢true h)
told_of false b o h = absurd (false≢true h)

told_on : (a b : Bool) (o : Outcome) → is_enabled o ≡ true → a ≡ true → b ≡ true → is_enabled (if not a then NotEnabled Unknown else (if not b then NotEnabled NotSent else o)) ≡ true
told_on true true o on one other = on
told_on true false o on one other = absurd (false≢true other)
told_on false b o on one other = absurd (false≢true one)

-- an answer that came, by what it needs
pub record CameBack (net : Topology) (less : List Event) (c hop seq : ℕ) (granted : Bool) : Type 0 where
  pub conn : Conn
  pub known : conn_at net c ≡ Some conn
  pub within : is_hop (length conn.path) hop ≡ true
  pub sent : answer_is_at (length conn.path) (facts_of c (past_of net less)) seq hop granted ≡ true

pub came_back : (net : Topology) (less : List Event) (c hop seq : ℕ) (granted : Bool) (v : Visit) → visit net (past_of net less) (Answer c hop seq granted) ≡ Some v → CameBack net less c hop seq granted
came_back net less c hop seq granted v is =
    let event = Answer c hop seq granted in
    let past = past_of net less in
    let parts = visit_is net past event v c refl is in
    let there = known_at net past c event v parts refl in
    let known = outcome_of-known net past event c parts.conn refl there in
    let enabled = reply_enabled (outcome_of net past event) v.reply parts.reply in
    let sent = told_of (is_hop (length parts.conn.path) hop) (answer_is_at (length parts.conn.path) (facts_of c past) seq hop granted) _ (sym (ap is_enabled known) ∙ enabled) in
    record { conn = parts.conn; known = there; within = sent.0; sent = sent.1 }

-- whose number was asked for
pub answered_asked : (net : Topology) (earlier : List Event) → IsWithinRules net → All AsksRate earlier → (c : ℕ) (conn : Conn) (hop seq : ℕ) (granted : Bool) → conn_at net c ≡ Some conn → is_hop (length conn.path) hop ≡ true →
    answer_is_at (length conn.path) (facts_of c (past_of net earlier)) seq hop granted ≡ true → was_asked (facts_of c (past_of net earlier)) seq ≡ true
answered_asked net earlier rules rates c conn hop seq granted known within sent =
    let facts = facts_of c (past_of net earlier) in
    let lawful = lawful_at net (past_of net earlier) (past_lawful net earlier rates) c conn known in
    passed_asked (route_of conn) facts lawful seq hop (answer_passed (route_of conn) facts lawful seq hop granted (is_hop_tells (length conn.path) hop within) sent).0

pub answer_again : (net : Topology) (less more : List Event) → AreRuns net less more → (c hop seq : ℕ) (granted : Bool) (v : Visit) → IsSentBelow net less more c hop → visit net (past_of net less) (Answer c hop seq granted) ≡ Some v →
    steps_on net v.port less ≡ steps_on net v.port more → ((conn : Conn) → conn_at net c ≡ Some conn → answer_is_at (length conn.path) (facts_of c (past_of net more)) seq hop granted ≡ true) → ComesAgain net less more (Answer c hop seq granted) v
answer_again net less more runs c hop seq granted v below is same sent =
    let event = Answer c hop seq granted in
    let before = past_of net less in
    let past = past_of net more in
    let parts = visit_is net before event v c refl is in
    let conn = parts.conn in
    let there = known_at net before c event v parts refl in
    let facts = facts_of c before in
    let others = facts_of c past in
    let now = outcome_of-known net past event c conn refl there in
    let back = came_back net less c hop seq granted v is in
    let its : back.conn ≡ conn = some_same (sym back.known ∙ there) in
    let within : is_hop (length conn.path) hop ≡ true = subst (λ (k : Conn). is_hop (length k.path) hop ≡ true) its back.within in
    let was : answer_is_at (length conn.path) facts seq hop granted ≡ true = subst (λ (k : Conn). answer_is_at (length k.path) facts seq hop granted ≡ true) its back.sent in
    let asked = answered_asked net less runs.rules runs.first c conn hop seq granted there within was in
    let also = answered_asked net more runs.rules runs.second c conn hop seq granted there within (sent conn there) in
    comes_again net less more runs event v parts c refl is same
    (ap (λ (t : Terms). Some (AnswerIn (answer_to t granted))) (terms_same conn.vc facts others seq (below.terms seq asked also)) ∙ input_at net before c event v parts refl)
    (ap is_enabled now ∙ told_on (is_hop (length conn.path) hop) (answer_is_at (length conn.path) others seq hop granted) _ refl within (sent conn there))

-- whether a cell can arrive, by the four causes against it
abbrev may_arrive : Bool → Bool → Bool → Bool → Bool
may_arrive a b d e = a && (not b && (d && not e))

arrives_if : (a b d e : Bool) (v : Verdict) →
    is_enabled (if not a then NotEnabled NotSent else (if b then NotEnabled Fenced else (if not d then NotEnabled Delay else (if e then NotEnabled ClockBack else Arrived v)))) ≡ may_arrive a b d e
arrives_if false b d e v = refl
arrives_if true true d e v = refl
arrives_if true false false e v = refl
arrives_if true false true true v = refl
arrives_if true false true false v = refl

abbrev arrives_by : Conn → (cell at emitted after mark moment last : ℕ) → Bool
arrives_by conn cell at emitted after mark moment last =
    may_arrive (nat_lt cell emitted) (nat_lt cell (max after mark)) (nat_le (moment + conn.delay) at && nat_le at (moment + conn.delay + conn.tau)) (nat_lt at last)

-- the facts of the line say whether a cell can arrive
line_says : (conn : Conn) (facts : List Fact) (cell at : ℕ) → arrives_by conn cell at (emitted_of (line facts)) (after_last_of (line facts)) (delivered_mark_of (line facts)) (moment_of (line facts) cell) (last_arrival_of (line facts))
    ≡ arrives_by conn cell at (emitted_of facts) (after_last_of facts) (delivered_mark_of facts) (moment_of facts cell) (last_arrival_of facts)
line_says conn facts cell at =
    let l = line facts in
    ap (λ n. arrives_by conn cell at n (after_last_of l) (delivered_mark_of l) (moment_of l cell) (last_arrival_of l)) (emitted_of-line facts)
    ∙ ap (λ n. arrives_by conn cell at (emitted_of facts) n (delivered_mark_of l) (moment_of l cell) (last_arrival_of l)) (after_last_of-line facts)
    ∙ ap (λ n. arrives_by conn cell at (emitted_of facts) (after_last_of facts) n (moment_of l cell) (last_arrival_of l)) (delivered_mark_of-line facts)
    ∙ ap (λ n. arrives_by conn cell at (emitted_of facts) (after_last_of facts) (delivered_mark_of facts) n (last_arrival_of l)) (moment_of-line facts cell)
    ∙ ap (λ n. arrives_by conn cell at (emitted_of facts) (after_last_of facts) (delivered_mark_of facts) (moment_of facts cell) n) (last_arrival_of-line facts)

pub arrives_alike : (conn : Conn) (facts others : List Fact) (cell at : ℕ) → line facts ≡ line others → is_enabled (arrive_answer conn facts cell at) ≡ is_enabled (arrive_answer conn others cell at)
arrives_alike conn facts others cell at same =
    let by : (l : List Fact) → is_enabled (arrive_answer conn l cell at) ≡ arrives_by conn cell at (emitted_of l) (after_last_of l) (delivered_mark_of l) (moment_of l cell) (last_arrival_of l)
    = λ l. arrives_if (nat_lt cell (emitted_of l)) (nat_lt cell (fence_of l)) (is_in_time conn.delay conn.tau l cell at) (nat_lt at (last_arrival_of l)) (verdict_at conn.tau l at (held_of l 1)) in
    by facts ∙ sym (line_says conn facts cell at)
    ∙ ap (λ (l : List Fact). arrives_by conn cell at (emitted_of l) (after_last_of l) (delivered_mark_of l) (moment_of l cell) (last_arrival_of l)) same
    ∙ line_says conn others cell at ∙ sym (by others)

pub arrival_again : (net : Topology) (less more : List Event) → AreRuns net less more → (c cell at : ℕ) (v : Visit) → visit net (past_of net less) (Arrive c cell at) ≡ Some v → steps_on net v.port less ≡ steps_on net v.port more →
    entries_on net c less ≡ entries_on net c more → ComesAgain net less more (Arrive c cell at) v
arrival_again net less more runs c cell at v is same entries =
    let event = Arrive c cell at in
    let before = past_of net less in
    let past = past_of net more in
    let parts = visit_is net before event v c refl is in
    let conn = parts.conn in
    let there = known_at net before c event v parts refl in
    let known = outcome_of-known net before event c conn refl there in
    let now = outcome_of-known net past event c conn refl there in
    let enabled = reply_enabled (outcome_of net before event) v.reply parts.reply in
    let steps : steps_on net (slice_index conn.path 0) less ≡ steps_on net (slice_index conn.path 0) more = subst (λ p. steps_on net p less ≡ steps_on net p more) (sym parts.port) same in
    let line_same : line (facts_of c before) ≡ line (facts_of c past) =
    line_replayed net runs.rules c conn there less ∙ ap (λ s. lined s [] (entries_on net c less)) steps ∙ ap (lined (steps_on net (slice_index conn.path 0) more) []) entries ∙ sym (line_replayed net runs.rules c conn there more) in
    comes_again net less more runs event v parts c refl is same (input_at net before c event v parts refl)
    (ap is_enabled now ∙ sym (arrives_alike conn (facts_of c before) (facts_of c past) cell at line_same) ∙ sym (ap is_enabled known) ∙ enabled)
