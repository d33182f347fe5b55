-- What comes to the first port of a path over its access line.
use Rattle.std.proofs.Common.{◌≡◌, ℕ, ◌+◌, Bool, true, false, List, ◌++◌, length, refl, ap, sym, subst, ◌∙◌, arith, Some}
use Rattle.std.specs.Prelude.{not, nat_lt, nat_le, if◌then◌else◌, max, All, Ok}
use Rattle.std.proofs.lemmas.Bool.{false≢true, lt-ltb, le-ltb, le-leb, and_from}
use Rattle.abt_gcra.specs.declared.verdict.Verdict.{Verdict}
use Rattle.abt_node.specs.declared.reply.Onward.{Onward}
use Rattle.abt_node.specs.declared.reply.Onward.TheVariants.{Pass, Refuse, Drop}
use Rattle.abt_net.specs.declared.conn.Conn.{Conn}
use Rattle.abt_net.specs.Topology.{Topology, IsWithinRules, conn_at}
use Rattle.abt_facts.specs.declared.fact.Fact.{Fact}
use Rattle.abt_facts.specs.Requests.{was_asked, mark_of}
use Rattle.abt_facts.specs.Hop.{held_of}
use Rattle.abt_facts.specs.Cells.{after_last_of, delivered_mark_of, emitted_of, fence_of, is_in_time, last_arrival_of, moment_of, verdict_at}
use Rattle.abt_source.specs.SourceFacts.{request_of}
use Rattle.abt_model.specs.declared.event.Event.{Event}
use Rattle.abt_model.specs.declared.event.Event.TheVariants.{Arrive, Request}
use Rattle.abt_model.specs.declared.outcome.Cause.TheVariants.{NotSent, Unknown, Fenced, Delay, ClockBack}
use Rattle.abt_model.specs.declared.outcome.Outcome.{Outcome}
use Rattle.abt_model.specs.declared.outcome.Outcome.TheVariants.{Requested, Arrived, NotEnabled}
use Rattle.abt_model.specs.Answers.{is_hop, arrive_answer}
use Rattle.abt_model.specs.Decision.{request_decision}
use Rattle.abt_model.specs.Events.{AsksRate}
use Rattle.abt_model.specs.Outcomes.{port_of, outcome_of, request_adds}
use Rattle.abt_model.specs.Past.{facts_of}
use Rattle.abt_model.specs.PortTable.{port_table}
use Rattle.abt_model.specs.Reserved.{reserved_on, capacity_of}
use Rattle.abt_model.proofs.Worlds.{outcome_of-known}
use Rattle.abt_journal.specs.declared.input.PortInput.{PortInput}
use Rattle.abt_journal.specs.declared.input.PortInput.TheVariants.{Request as RequestIn, Arrive as ArriveIn}
use Rattle.abt_journal.specs.declared.input.PortReply.{PortReply}
use Rattle.abt_journal.specs.declared.input.PortReply.TheVariants.{Requested as RequestedOut, Arrived as ArrivedOut}
use Rattle.abt_journal.specs.Replay.{reply_by}
use Rattle.abt_weave.specs.Projections.{Visit, reply_of, past_of, visit}
use Rattle.abt_weave.proofs.PortEvents.{visit_made}
use Rattle.abt_weave.proofs.PortLooks.{first_hop}
use Rattle.abt_weave.proofs.Replays.{past_lawful, event_made}
use Rattle.abt_processes.specs.Processes.{AccessLine, LeftCell, LeftRequest}
use Rattle.abt_processes.specs.Ports.{MayArrive, first_port}
use Rattle.abt_processes.proofs.Lasting.{IsRequestLeft}
use Rattle.abt_processes.proofs.Lines.{IsLineOf}

-- a visit, by the table of its port
pub by_table : (net : Topology) → IsWithinRules net → (earlier : List Event) → All AsksRate earlier → (event : Event) (p : ℕ) (input : PortInput) (reply : PortReply) →
    visit net (past_of net earlier) event ≡ Some (record { port = p; input = input; reply = reply }) → visit net (past_of net earlier) event ≡ Some (record { port = p; input = input; reply = reply_by (port_table net (past_of net earlier) p) input })
by_table net rules earlier rates event p input reply is =
    is ∙ ap (λ (r : PortReply). Some (let v : Visit = record { port = p; input = input; reply = r } in v)) (event_made net (past_of net earlier) rules (past_lawful net earlier rates) event _ is).0

come_on : (a b : Bool) (o : Outcome) → a ≡ true → b ≡ true → (if not a then NotEnabled Unknown else (if not b then NotEnabled NotSent else o)) ≡ o
come_on true true o one other = refl
come_on true false o one other = absurd (false≢true other)
come_on false b o one other = absurd (false≢true one)

-- a request that left its source comes to the first port
pub record IsBrought (net : Topology) (earlier : List Event) (c : ℕ) (conn : Conn) (left : LeftRequest) : Type 0 where
  pub onward : Onward
  pub says : outcome_of net (past_of net earlier) (Request c 1 left.request.seq) ≡ Requested onward
  pub visits : visit net (past_of net earlier) (Request c 1 left.request.seq) ≡ Some (record { port = first_port conn; input = RequestIn left.request; reply = reply_by (port_table net (past_of net earlier) (first_port conn)) (RequestIn left.request) })

pub request_brought : (net : Topology) → IsWithinRules net → (earlier : List Event) → All AsksRate earlier → (c : ℕ) (conn : Conn) (left : LeftRequest) → conn_at net c ≡ Some conn → IsRequestLeft conn.vc (facts_of c (past_of net earlier)) left → IsBrought net earlier c conn left
request_brought net rules earlier rates c conn left known is =
    let past = past_of net earlier in
    let facts = facts_of c past in
    let seq = left.request.seq in
    let event = Request c 1 seq in
    let terms = request_of conn.vc facts seq in
    let onward = request_decision facts (reserved_on net past (port_of conn.path event)) (capacity_of net past (port_of conn.path event)) 1 terms in
    let says : outcome_of net past event ≡ Requested onward = outcome_of-known net past event c conn refl known ∙ come_on (is_hop (length conn.path) 1) (was_asked facts seq) (Requested onward) (first_hop net rules c conn known) is.asked in
    let made = by_table net rules earlier rates event (first_port conn) (RequestIn terms) (RequestedOut onward) (visit_made net past event c conn (RequestIn terms) (RequestedOut onward) refl known refl (ap reply_of says)) in
    record {
      onward = onward;
      says = says;
      visits = subst (λ t. visit net past event ≡ Some (record { port = first_port conn; input = RequestIn t; reply = reply_by (port_table net past (first_port conn)) (RequestIn t) })) (sym is.terms) made;
    }

-- what its coming adds to the line
pub request_fence : (seq : ℕ) (onward : Onward) (facts : List Fact) → fence_of (request_adds 1 seq onward ++ facts) ≡ max (after_last_of facts) (max (mark_of facts seq) (delivered_mark_of facts))
request_fence seq Pass facts = refl
request_fence seq (Refuse answer) facts = refl
request_fence seq (Drop cause) facts = refl

pub request_count : (seq : ℕ) (onward : Onward) (facts : List Fact) → emitted_of (request_adds 1 seq onward ++ facts) ≡ emitted_of facts
request_count seq Pass facts = refl
request_count seq (Refuse answer) facts = refl
request_count seq (Drop cause) facts = refl

pub request_arrival : (seq : ℕ) (onward : Onward) (facts : List Fact) → last_arrival_of (request_adds 1 seq onward ++ facts) ≡ last_arrival_of facts
request_arrival seq Pass facts = refl
request_arrival seq (Refuse answer) facts = refl
request_arrival seq (Drop cause) facts = refl

arrived_on : (a b d e : Bool) (v : Verdict) → a ≡ true → b ≡ false → d ≡ true → e ≡ false →
    (if not a then NotEnabled NotSent else (if b then NotEnabled Fenced else (if not d then NotEnabled Delay else (if e then NotEnabled ClockBack else Arrived v)))) ≡ Arrived v
arrived_on true false true false v one two three four = refl
arrived_on false b d e v one two three four = absurd (cc)
arrived_on true true d e v one two three four = absurd (cc)
arrived_on true false false e v one two three four = absurd (cc)
arrived_on true false true true v one two three four = absurd (cc)

-- a cell that may arrive does
cell_answers : (conn : Conn) (facts : List Fact) (line : AccessLine) (left : LeftCell) (at : ℕ) → IsLineOf conn.vc facts line → MayArrive conn line left at →
    arrive_answer conn facts left.cell at ≡ Arrived (verdict_at conn.tau facts at (held_of facts 1))
cell_answers conn facts line left at is may =
    let cell = is.cells left may.has_left in
    let fence = is.first in
    let order = may.in_order in
    let back = may.not_back in
    let last = is.last in
    let moment = cell.moment in
    let sooner = may.not_sooner in
    let later = may.not_later in
    let there : nat_lt left.cell (emitted_of facts) ≡ true = lt-ltb left.cell (emitted_of facts) cell.low in
    let free : nat_lt left.cell (fence_of facts) ≡ false = le-ltb left.cell (fence_of facts) (omega (arith, fence, order)) in
    let after : nat_le (moment_of facts left.cell + conn.delay) at ≡ true = le-leb (moment_of facts left.cell + conn.delay) at (omega (arith, moment, sooner)) in
    let before : nat_le at (moment_of facts left.cell + conn.delay + conn.tau) ≡ true = le-leb at (moment_of facts left.cell + conn.delay + conn.tau) (omega (arith, moment, later)) in
    let timely : is_in_time conn.delay conn.tau facts left.cell at ≡ true = and_from _ _ after before in
    let onward : nat_lt at (last_arrival_of facts) ≡ false = le-ltb at (last_arrival_of facts) (omega (arith, last, back)) in
    arrived_on (nat_lt left.cell (emitted_of facts)) (nat_lt left.cell (fence_of facts)) (is_in_time conn.delay conn.tau facts left.cell at) (nat_lt at (last_arrival_of facts)) (verdict_at conn.tau facts at (held_of facts 1)) there free timely onward

pub record HasArrived (net : Topology) (earlier : List Event) (c : ℕ) (conn : Conn) (left : LeftCell) (at : ℕ) : Type 0 where
  pub verdict : Verdict
  pub says : outcome_of net (past_of net earlier) (Arrive c left.cell at) ≡ Arrived verdict
  pub visits : visit net (past_of net earlier) (Arrive c left.cell at) ≡ Some (record { port = first_port conn; input = ArriveIn conn.vc at; reply = reply_by (port_table net (past_of net earlier) (first_port conn)) (ArriveIn conn.vc at) })
  pub reply : reply_by (port_table net (past_of net earlier) (first_port conn)) (ArriveIn conn.vc at) ≡ ArrivedOut (Ok verdict)

pub cell_arrives : (net : Topology) → IsWithinRules net → (earlier : List Event) → All AsksRate earlier → (c : ℕ) (conn : Conn) (line : AccessLine) (left : LeftCell) (at : ℕ) → conn_at net c ≡ Some conn →
    IsLineOf conn.vc (facts_of c (past_of net earlier)) line → MayArrive conn line left at → HasArrived net earlier c conn left at
cell_arrives net rules earlier rates c conn line left at known is may =
    let past = past_of net earlier in
    let facts = facts_of c past in
    let event = Arrive c left.cell at in
    let verdict = verdict_at conn.tau facts at (held_of facts 1) in
    let says : outcome_of net past event ≡ Arrived verdict = outcome_of-known net past event c conn refl known ∙ cell_answers conn facts line left at is may in
    let plain = visit_made net past event c conn (ArriveIn conn.vc at) (ArrivedOut (Ok verdict)) refl known refl (ap reply_of says) in
    record {
      verdict = verdict;
      says = says;
      visits = by_table net rules earlier rates event (first_port conn) (ArriveIn conn.vc at) (ArrivedOut (Ok verdict)) plain;
      reply = sym (event_made net past rules (past_lawful net earlier rates) event _ plain).0;
    }
