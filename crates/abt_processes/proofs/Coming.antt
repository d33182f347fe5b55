-- Live processes after something came to a port.
use Rattle.std.proofs.Common.{◌≡◌, ◌≢◌, ◌⊎◌, inl, inr, ℕ, ◌+◌, ◌-◌, List, [], ◌∷◌, ◌++◌, length, reverse, refl, ap, sym, subst, ◌∙◌, arith, Some}
use Rattle.std.specs.Prelude.{max, All, Ok}
use Rattle.std.proofs.lemmas.Bool.{cases_eq}
use Rattle.std.proofs.lemmas.List.{append-nil, reverse-reverse}
use Rattle.std.proofs.lemmas.List.Elements.{All-cons}
use Rattle.abt_cell.specs.declared.message.Rm.{Rm}
use Rattle.abt_cell.specs.declared.message.Rm.TheVariants as rm
use Rattle.abt_cell.specs.Message.{Terms, Reply}
use Rattle.abt_gcra.specs.declared.verdict.Verdict.{Verdict}
use Rattle.abt_net.specs.declared.conn.Conn.{Conn}
use Rattle.abt_net.specs.Topology.{Topology, IsWithinRules, conn_at}
use Rattle.abt_net.specs.Paths.{hop_of}
use Rattle.abt_net.proofs.PathLemmas.{hop_at}
use Rattle.abt_facts.specs.declared.fact.Fact.{Fact}
use Rattle.abt_facts.specs.declared.fact.Fact.TheVariants.{Arrived as FactArrived}
use Rattle.abt_facts.specs.Cells.{after_last_of, delivered_mark_of, emitted_of, fence_of, last_arrival_of}
use Rattle.abt_facts.specs.Hop.{held_of}
use Rattle.abt_facts.specs.Requests.{mark_of}
use Rattle.abt_model.specs.declared.event.Event.{Event}
use Rattle.abt_model.specs.declared.event.Event.TheVariants.{Arrive, Request, Turn}
use Rattle.abt_model.specs.declared.entry.SourceEntry.{SourceEntry}
use Rattle.abt_model.specs.declared.entry.SourceEntry.TheVariants.{Did, Sent, Arrived as ArrivedAt}
use Rattle.abt_model.specs.Events.{AsksRate}
use Rattle.abt_model.specs.Outcomes.{conn_of, facts_added, request_adds}
use Rattle.abt_model.specs.Past.{facts_of}
use Rattle.abt_model.specs.PortTable.{port_table}
use Rattle.abt_model.proofs.Served.{conn_within}
use Rattle.abt_model.proofs.Steps.{is_hop_tells}
use Rattle.abt_model.proofs.Worlds.{facts_of-own, facts_of-other, other_conn}
use Rattle.abt_node.specs.Table.{Table}
use Rattle.abt_journal.specs.declared.entry.Entry.{Entry}
use Rattle.abt_journal.specs.declared.input.PortInput.{PortInput}
use Rattle.abt_journal.specs.declared.input.PortInput.TheVariants.{Request as RequestIn, Arrive as ArriveIn, Capacity as CapacityIn}
use Rattle.abt_journal.specs.declared.input.PortReply.{PortReply}
use Rattle.abt_journal.specs.declared.input.PortReply.TheVariants.{Arrived as ArrivedOut}
use Rattle.abt_journal.specs.declared.next_message.Next.{Next}
use Rattle.abt_journal.specs.declared.next_message.Next.TheVariants.{Send}
use Rattle.abt_journal.specs.Following.{channel_of, sent_after}
use Rattle.abt_journal.specs.Replay.{reply_by}
use Rattle.abt_weave.specs.Leaving.{facts_done}
use Rattle.abt_weave.specs.Projections.{entries_on, entry_made, entry_of, past_of, place_at_first, visit}
use Rattle.abt_weave.specs.Stuck.{AreTurns, IsTurn}
use Rattle.abt_weave.proofs.Growth.{entries_other, steps_none}
use Rattle.abt_weave.proofs.Places.{entries_made}
use Rattle.abt_weave.proofs.OwnEvents.{unvisited_by}
use Rattle.abt_weave.proofs.LineFacts.{line}
use Rattle.abt_weave.proofs.Leavings.{all_reversed}
use Rattle.abt_weave.proofs.Pasts.{past-is}
use Rattle.abt_weave.proofs.PortEvents.{some_same}
use Rattle.abt_weave.proofs.PortLooks.{first_hop}
use Rattle.abt_world.specs.Headline.{HeadlineHolds}
use Rattle.abt_world.proofs.Standings.{headline_holds}
use Rattle.abt_serving.specs.Followed.{IsLeft}
use Rattle.abt_serving.specs.Messages.{IsStopOf, Lies, ComesNow, input_of}
use Rattle.abt_serving.proofs.Capacities.{capacity_comes}
use Rattle.abt_serving.proofs.Following.{replies_lead}
use Rattle.abt_serving.proofs.Messages.{message_comes}
use Rattle.abt_processes.specs.Lists.{IsIn, Stay, OnlyAt}
use Rattle.abt_processes.specs.Processes.{AccessLine, PortProcess, Processes, SourceProcess}
use Rattle.abt_processes.specs.Journals.{line_of, lines_of}
use Rattle.abt_processes.specs.Ports.{Serves, Replies, behind_cell, behind_request, first_port, served}
use Rattle.abt_processes.specs.Moves.{MessageComes, RequestComes, CellComes, CapacityComes}
use Rattle.abt_processes.specs.Events.{IsSourceAfter}
use Rattle.abt_processes.specs.Safe.{IsFoundConforming}
use Rattle.abt_processes.proofs.Members.{in_or_last, all_but_one, all_stay}
use Rattle.abt_processes.proofs.Lasting.{left_lasts}
use Rattle.abt_processes.proofs.Lines.{IsLineOf, line_lasts, line_still}
use Rattle.abt_processes.proofs.Invariant.{Stands}
use Rattle.abt_processes.proofs.Quiet.{far_made, line_quiet, source_quiet, source_same}
use Rattle.abt_processes.proofs.Ports.{IsVisited, port_same, ports_served}
use Rattle.abt_processes.proofs.Visits.{cell_arrives, request_arrival, request_brought, request_count, request_fence}

cons_all : {A : Type 0} (P : A → Type 0) (x : A) (xs : List A) → P x → All P xs → All P (x ∷ xs)
cons_all P x xs one rest = All-cons P x xs one rest

-- A Turn changes nothing of processes.
turn_stands : (net : Topology) → IsWithinRules net → (earlier : List Event) (event : Event) (w : Processes) → IsTurn net earlier event → Stands net earlier w → Stands net (event ∷ earlier) w
turn_stands net rules earlier event w turn is =
    subst (λ e. Stands net (e ∷ earlier) w) (sym turn.is) (by turn.conn turn.seq)
  where
    by : (c seq : ℕ) → Stands net (Turn c seq ∷ earlier) w
    by c seq =
        let e = Turn c seq in
        let rates = cons_all AsksRate e earlier tt is.events.rates in
        let none = unvisited_by net (past_of net earlier) e c refl (λ conn facts. refl) in
        record {
          events = record {
            rates = rates;
            ports = λ p. port_same net earlier (e ∷ earlier) p (w.ports p) rules is.events.rates rates (steps_none net earlier e p none) (is.events.ports p);
            sources = λ d. source_quiet net earlier e d (w.sources d) refl (is.events.sources d);
          };
          lines = λ d conn known. line_still net (e ∷ []) earlier d conn (w.lines d) known rates (is.lines d conn known) (line_quiet net earlier e d refl);
          sent = λ n there. left_lasts net (e ∷ []) earlier rates n (is.sent n there);
          judged = is.judged;
        }

turns_stand : (net : Topology) → IsWithinRules net → (earlier turns : List Event) (w : Processes) → AreTurns net earlier turns → Stands net earlier w → Stands net (turns ++ earlier) w
turns_stand net rules earlier [] w all is = is
turns_stand net rules earlier (event ∷ turns) w all is = turn_stands net rules (turns ++ earlier) event w all.0 (turns_stand net rules earlier turns w all.1 is)

-- what is new once a port has served this
pub record Serving (net : Topology) (earlier : List Event) (event : Event) (old new : Processes) (p : ℕ) (input : PortInput) : Type 0 where
  pub serves : Serves old new p input
  pub visited : IsVisited net earlier event p input
  pub sources : (c : ℕ) → IsSourceAfter net (event ∷ earlier) c (old.sources c)
  pub lines : (c : ℕ) (conn : Conn) → conn_at net c ≡ Some conn → IsLineOf conn.vc (facts_of c (past_of net (event ∷ earlier))) (new.lines c)
  pub sent : (n : Next) → IsIn n new.sent → IsLeft net (past_of net (event ∷ earlier)) n
  pub judged : IsFoundConforming input (reply_by (old.ports p).table input)

judged_on : (input : PortInput) (port : PortProcess) → ((entry : Entry) → IsIn entry port.journal → IsFoundConforming entry.input entry.reply) → IsFoundConforming input (reply_by port.table input) →
    (entry : Entry) → IsIn entry (served port input).journal → IsFoundConforming entry.input entry.reply
judged_on input port all one entry there = elim (in_or_last entry _ port.journal there) [
  | inl old ↦ all entry old
  | inr same ↦ subst (λ (e : Entry). IsFoundConforming e.input e.reply) (sym same) one
]

pub serving_stands : (net : Topology) → IsWithinRules net → (earlier : List Event) (event : Event) (old new : Processes) (p : ℕ) (input : PortInput) → Stands net earlier old → Serving net earlier event old new p input → Stands net (event ∷ earlier) new
serving_stands net rules earlier event old new p input is its = record {
  events = record {
    rates = its.visited.rates;
    ports = ports_served net earlier event p input old.ports new.ports rules its.visited its.serves.ports is.events.ports;
    sources = all_stay (λ c source. IsSourceAfter net (event ∷ earlier) c source) old.sources new.sources its.serves.sources its.sources;
  };
  lines = its.lines;
  sent = its.sent;
  judged = all_but_one (λ q port. (entry : Entry) → IsIn entry port.journal → IsFoundConforming entry.input entry.reply) p old.ports new.ports (served (old.ports p) input) its.serves.ports
      (judged_on input (old.ports p) (is.judged p) its.judged) (λ q differ. is.judged q);
}

-- the port of a stop stands on its path
on_path : (net : Topology) → IsWithinRules net → (c hop port : ℕ) (conn : Conn) → IsStopOf net c conn hop port → hop_of conn.path port ≢ 0
on_path net rules c hop port conn stop zero =
    let low = is_hop_tells (length conn.path) hop stop.within in
    let at = hop_at conn.path (hop - 1) (conn_within net rules c conn stop.known).visits_once (omega (arith, low.0, low.1)) in
    let here : hop_of conn.path port ≡ (hop - 1) + 1 = ap (hop_of conn.path) (sym stop.port_is) ∙ at in
    omega (arith, here, zero)

-- what a message is about, and where it lies
record IsOnPath (net : Topology) (port : ℕ) (message : Rm) : Type 0 where
  c : ℕ
  conn : Conn
  known : conn_at net c ≡ Some conn
  channel : conn.vc ≡ channel_of message
  there : hop_of conn.path port ≢ 0

lies_there : (net : Topology) → IsWithinRules net → (earlier : List Event) (port : ℕ) (message : Rm) → Lies net (past_of net earlier) port message → IsOnPath net port message
lies_there net rules earlier port (rm.Request request) lies = record {
  c = lies.c;
  conn = lies.conn;
  known = lies.stop.known;
  channel = sym (ap (λ (t : Terms). t.vc) lies.is);
  there = on_path net rules lies.c lies.hop port lies.conn lies.stop;
}
lies_there net rules earlier port (rm.Answer answer) lies = record {
  c = lies.c;
  conn = lies.conn;
  known = lies.stop.known;
  channel = sym (ap (λ (a : Reply). a.terms.vc) lies.is);
  there = on_path net rules lies.c lies.hop port lies.conn lies.stop;
}

-- what was sent, and what follows now
sent_on : (net : Topology) (earlier : List Event) (event : Event) (old new : List Next) (next : Next) → All AsksRate (event ∷ earlier) → new ≡ next ∷ old → ((n : Next) → IsIn n old → IsLeft net (past_of net earlier) n) →
    IsLeft net (past_of net (event ∷ earlier)) next → (n : Next) → IsIn n new → IsLeft net (past_of net (event ∷ earlier)) n
sent_on net earlier event old new next rates is all one n there = by (subst (IsIn n) is there)
  where
    by : (n ≡ next) ⊎ IsIn n old → IsLeft net (past_of net (event ∷ earlier)) n
    by (inl same) = subst (IsLeft net (past_of net (event ∷ earlier))) (sym same) one
    by (inr before) = left_lasts net (event ∷ []) earlier rates n (all n before)

not_judged : (message : Rm) (reply : PortReply) → IsFoundConforming (input_of message) reply
not_judged (rm.Request request) reply = tt
not_judged (rm.Answer answer) reply = tt

-- what follows the reply of a port to a message lies where it is for
follows_on : (net : Topology) → IsWithinRules net → (earlier : List Event) (event : Event) (old new : Processes) (port : ℕ) (message : Rm) → Stands net earlier old → IsVisited net earlier event port (input_of message) → IsOnPath net port message →
    (replies : Replies net old new port message) → IsLeft net (past_of net (event ∷ earlier)) replies.next
follows_on net rules earlier event old new port message is visited on replies =
    let after = past_of net (event ∷ earlier) in
    let leads = replies_lead net earlier rules is.events.rates event port message _ visited.visits on.c on.conn on.known on.channel in
    let follows = replies.follows on.c on.conn on.known on.channel on.there in
    let reply : reply_by (old.ports port).table (input_of message) ≡ reply_by (port_table net (past_of net earlier) port) (input_of message) = ap (λ (t : Table). reply_by t (input_of message)) (is.events.ports port).table in
    subst (IsLeft net after) (sym (follows ∙ ap (λ r. sent_of on r) reply)) leads
  where
    sent_of : IsOnPath net port message → PortReply → Next
    sent_of on r = sent_after on.conn.path on.c (hop_of on.conn.path port) message r

-- A message or a capacity comes to a port, behind Turns: it leaves the sources.
quiet_comes : (net : Topology) → IsWithinRules net → (earlier : List Event) (old new : Processes) (port : ℕ) (input : PortInput) → Stands net earlier old → ComesNow net earlier port input → Serves old new port input → Stay old.lines new.lines →
    ((turns : List Event) (event : Event) → Stands net (turns ++ earlier) old → IsVisited net (turns ++ earlier) event port input → (n : Next) → IsIn n new.sent → IsLeft net (past_of net (event ∷ (turns ++ earlier))) n) →
    IsFoundConforming input (reply_by (old.ports port).table input) → (later : List Event) × Stands net later new
quiet_comes net rules earlier old new port input is comes serves lines sent judged =
    let before = comes.turns ++ earlier in
    let event = comes.event in
    let behind = turns_stand net rules earlier comes.turns old comes.all is in
    let rates = cons_all AsksRate event before comes.asks behind.events.rates in
    let table : port_table net (past_of net earlier) port ≡ port_table net (past_of net before) port = sym (is.events.ports port).table ∙ (behind.events.ports port).table in
    let visited : IsVisited net before event port input = record {
      rates = rates;
      before = behind.events.rates;
      visits = subst (λ (t : Table). visit net (past_of net before) event ≡ Some (record { port = port; input = input; reply = reply_by t input })) table comes.comes;
    } in
    let none = far_made net before event _ comes.far comes.comes in (
      event ∷ before,
      serving_stands net rules before event old new port input behind (record {
        serves = serves;
        visited = visited;
        sources = λ c. source_quiet net before event c (old.sources c) none (behind.events.sources c);
        lines = λ c conn known. subst (IsLineOf conn.vc (facts_of c (past_of net (event ∷ before)))) (sym (lines c))
            (line_still net (event ∷ []) before c conn (old.lines c) known rates (behind.lines c conn known) (line_quiet net before event c none));
        sent = sent comes.turns event behind visited;
        judged = judged;
      }),
    )

pub message_moves : (net : Topology) → IsWithinRules net → (earlier : List Event) (old new : Processes) → Stands net earlier old → MessageComes net old new → (later : List Event) × Stands net later new
message_moves net rules earlier old new is move =
    let lies = is.sent (Send move.port move.message) move.was_sent in
    let on = lies_there net rules earlier move.port move.message lies in
    quiet_comes net rules earlier old new move.port (input_of move.message) is (message_comes net earlier move.port move.message rules is.events.rates lies) move.replies.serves move.lines
    (λ turns event behind visited. sent_on net (turns ++ earlier) event old.sent new.sent move.replies.next visited.rates move.replies.sent behind.sent
    (follows_on net rules (turns ++ earlier) event old new move.port move.message behind visited on move.replies))
    (not_judged move.message (reply_by (old.ports move.port).table (input_of move.message)))

pub capacity_moves : (net : Topology) → IsWithinRules net → (earlier : List Event) (old new : Processes) → Stands net earlier old → CapacityComes net old new → (later : List Event) × Stands net later new
capacity_moves net rules earlier old new is move =
    quiet_comes net rules earlier old new move.port (CapacityIn move.units) is (capacity_comes net earlier move.port move.units rules is.events.rates move.low) move.serves move.lines
    (λ turns event behind visited n there. left_lasts net (event ∷ []) (turns ++ earlier) visited.rates n (behind.sent n (subst (IsIn n) move.sent there))) tt

-- a source, once something came to its first port from it, and the others
beside_sources : (net : Topology) (earlier : List Event) (event : Event) (c : ℕ) (x : SourceEntry) (sources : ℕ → SourceProcess) → conn_of event ≡ Some c → entry_made net earlier event ≡ Some x → ((facts : List Fact) → facts_done facts (x ∷ []) ≡ facts) →
    ((entries : List SourceEntry) → lines_of (entries ++ x ∷ []) ≡ lines_of entries) → ((d : ℕ) → IsSourceAfter net earlier d (sources d)) → (d : ℕ) → IsSourceAfter net (event ∷ earlier) d (sources d)
beside_sources net earlier event c x sources whose made silent lines are d = elim (cases_eq c d) [
  | inl same ↦ subst (λ n. IsSourceAfter net (event ∷ earlier) n (sources n)) same
      (source_same net c earlier (event ∷ earlier) (x ∷ []) (sources c) (entries_made net earlier event c x made whose) silent (lines (entries_on net c earlier)) (are c))
  | inr differ ↦ source_same net d earlier (event ∷ earlier) [] (sources d)
      (entries_other net earlier event d (λ e. other_conn c d differ (sym whose ∙ e)) ∙ sym (append-nil (entries_on net d earlier)))
      (λ facts. refl) (ap lines_of (append-nil (entries_on net d earlier))) (are d)
]

lines_sent : (place : ℕ) (entries : List SourceEntry) → lines_of (entries ++ Sent place ∷ []) ≡ lines_of entries
lines_sent place [] = refl
lines_sent place (Did event outcome ∷ entries) = ap (λ l. line_of event outcome ∷ l) (lines_sent place entries)
lines_sent place (Sent other ∷ entries) = lines_sent place entries
lines_sent place (ArrivedAt cell other ∷ entries) = lines_sent place entries

lines_arrived : (cell place : ℕ) (entries : List SourceEntry) → lines_of (entries ++ ArrivedAt cell place ∷ []) ≡ lines_of entries
lines_arrived cell place [] = refl
lines_arrived cell place (Did event outcome ∷ entries) = ap (λ l. line_of event outcome ∷ l) (lines_arrived cell place entries)
lines_arrived cell place (Sent other ∷ entries) = lines_arrived cell place entries
lines_arrived cell place (ArrivedAt number other ∷ entries) = lines_arrived cell place entries

-- the access lines, of which one changed
beside_lines : (net : Topology) (earlier : List Event) (event : Event) (c : ℕ) (old new : ℕ → AccessLine) (value : AccessLine) → All AsksRate (event ∷ earlier) → conn_of event ≡ Some c → OnlyAt c old new value →
    ((conn : Conn) → conn_at net c ≡ Some conn → IsLineOf conn.vc (facts_of c (past_of net (event ∷ earlier))) value) →
    ((d : ℕ) (conn : Conn) → conn_at net d ≡ Some conn → IsLineOf conn.vc (facts_of d (past_of net earlier)) (old d)) →
    (d : ℕ) (conn : Conn) → conn_at net d ≡ Some conn → IsLineOf conn.vc (facts_of d (past_of net (event ∷ earlier))) (new d)
beside_lines net earlier event c old new value rates whose only one are =
    all_but_one (λ d l. (conn : Conn) → conn_at net d ≡ Some conn → IsLineOf conn.vc (facts_of d (past_of net (event ∷ earlier))) l) c old new value only one
    (λ d differ conn known. line_still net (event ∷ []) earlier d conn (old d) known rates (are d conn known)
    (ap line (facts_of-other net (past_of net earlier) event d (λ e. other_conn c d (λ same. differ (sym same)) (sym whose ∙ e)))))

pub request_moves : (net : Topology) → IsWithinRules net → (earlier : List Event) (old new : Processes) → Stands net earlier old → RequestComes net old new → (later : List Event) × Stands net later new
request_moves net rules earlier old new is move =
    let c = move.c in
    let conn = move.conn in
    let left = move.left in
    let seq = left.request.seq in
    let event = Request c 1 seq in
    let past = past_of net earlier in
    let facts = facts_of c past in
    let rates = cons_all AsksRate event earlier tt is.events.rates in
    let its = is.lines c conn move.known in
    let asked = its.requests left move.has_left in
    let brought = request_brought net rules earlier is.events.rates c conn left move.known asked in
    let visited : IsVisited net earlier event (first_port conn) (RequestIn left.request) = record { rates = rates; before = is.events.rates; visits = brought.visits } in
    let now : facts_of c (past_of net (event ∷ earlier)) ≡ request_adds 1 seq brought.onward ++ facts = facts_of-own net past event c refl ∙ ap (λ o. facts_added facts event o ++ facts) brought.says in
    let made : entry_made net earlier event ≡ Some (Sent (place_at_first net earlier event)) = ap (λ o. entry_of (place_at_first net earlier event) event o) brought.says in
    let fence : fence_of (facts_of c (past_of net (event ∷ earlier))) ≡ max (after_last_of facts) (max (mark_of facts seq) (delivered_mark_of facts)) = ap fence_of now ∙ request_fence seq brought.onward facts in
    let mark = asked.mark in
    let first = its.first in
    let first_hop_on : IsOnPath net (first_port conn) (rm.Request left.request) = record {
      c = c;
      conn = conn;
      known = move.known;
      channel = sym (ap (λ (t : Terms). t.vc) asked.terms);
      there = on_path net rules c 1 (first_port conn) conn (record { known = move.known; within = first_hop net rules c conn move.known; port_is = refl });
    } in
    let changed = line_lasts net (event ∷ []) earlier c conn (old.lines c) (max (old.lines c).first left.behind) (old.lines c).last move.known rates its
    (ap emitted_of now ∙ request_count seq brought.onward facts) (omega (arith, fence, mark, first)) (ap last_arrival_of now ∙ request_arrival seq brought.onward facts ∙ its.last) in (
      event ∷ earlier,
      serving_stands net rules earlier event old new (first_port conn) (RequestIn left.request) is (record {
        serves = move.replies.serves;
        visited = visited;
        sources = beside_sources net earlier event c (Sent (place_at_first net earlier event)) old.sources refl made (λ f. refl) (lines_sent (place_at_first net earlier event)) is.events.sources;
        lines = beside_lines net earlier event c old.lines new.lines (behind_request (old.lines c) left) rates refl move.lines
            (λ other known. subst (λ (k : Conn). IsLineOf k.vc (facts_of c (past_of net (event ∷ earlier))) (behind_request (old.lines c) left)) (some_same (sym move.known ∙ known)) changed) is.lines;
        sent = sent_on net earlier event old.sent new.sent move.replies.next rates move.replies.sent is.sent
            (follows_on net rules earlier event old new (first_port conn) (rm.Request left.request) is visited first_hop_on move.replies);
        judged = tt;
      }),
    )

-- the headline holds of events, the newest of which is listed first
pub headline_of : (net : Topology) → IsWithinRules net → (earlier : List Event) → All AsksRate earlier → HeadlineHolds net (past_of net earlier)
headline_of net rules earlier rates =
    subst (HeadlineHolds net) (past-is net (reverse earlier) ∙ ap (past_of net) (reverse-reverse earlier)) (headline_holds net (reverse earlier) rules (all_reversed AsksRate earlier rates))

pub cell_moves : (net : Topology) → IsWithinRules net → (earlier : List Event) (old new : Processes) → Stands net earlier old → CellComes net old new → (later : List Event) × Stands net later new
cell_moves net rules earlier old new is move =
    let c = move.c in
    let conn = move.conn in
    let left = move.left in
    let at = move.at in
    let event = Arrive c left.cell at in
    let past = past_of net earlier in
    let facts = facts_of c past in
    let rates = cons_all AsksRate event earlier tt is.events.rates in
    let its = is.lines c conn move.known in
    let arrived = cell_arrives net rules earlier is.events.rates c conn (old.lines c) left at move.known its move.may in
    let visited : IsVisited net earlier event (first_port conn) (ArriveIn conn.vc at) = record { rates = rates; before = is.events.rates; visits = arrived.visits } in
    let now : facts_of c (past_of net (event ∷ earlier)) ≡ FactArrived left.cell at (held_of facts 1) arrived.verdict ∷ facts = facts_of-own net past event c refl ∙ ap (λ o. facts_added facts event o ++ facts) arrived.says in
    let made : entry_made net earlier event ≡ Some (ArrivedAt left.cell (place_at_first net earlier event)) = ap (λ o. entry_of (place_at_first net earlier event) event o) arrived.says in
    let fence : fence_of (facts_of c (past_of net (event ∷ earlier))) ≡ max (left.cell + 1) (delivered_mark_of facts) = ap fence_of now in
    let first = its.first in
    let order = move.may.in_order in
    let fits = (headline_of net rules earlier is.events.rates).verdicts c left.cell at conn arrived.verdict move.known arrived.says in
    let table = (is.events.ports (first_port conn)).table in
    let changed = line_lasts net (event ∷ []) earlier c conn (old.lines c) (left.cell + 1) at move.known rates its (ap emitted_of now) (omega (arith, fence, first, order)) (ap last_arrival_of now) in (
      event ∷ earlier,
      serving_stands net rules earlier event old new (first_port conn) (ArriveIn conn.vc at) is (record {
        serves = move.serves;
        visited = visited;
        sources = beside_sources net earlier event c (ArrivedAt left.cell (place_at_first net earlier event)) old.sources refl made (λ f. refl) (lines_arrived left.cell (place_at_first net earlier event)) is.events.sources;
        lines = beside_lines net earlier event c old.lines new.lines (behind_cell (old.lines c) left.cell at) rates refl move.lines
            (λ other known. subst (λ (k : Conn). IsLineOf k.vc (facts_of c (past_of net (event ∷ earlier))) (behind_cell (old.lines c) left.cell at)) (some_same (sym move.known ∙ known)) changed) is.lines;
        sent = λ n there. left_lasts net (event ∷ []) earlier rates n (is.sent n (subst (IsIn n) move.sent there));
        judged = ap (λ (t : Table). reply_by t (ArriveIn conn.vc at)) table ∙ arrived.reply ∙ ap (λ (v : Verdict). ArrivedOut (Ok v)) fits.0;
      }),
    )
