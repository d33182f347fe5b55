-- A source goes to its first port, and the port serves what it brings: both journals have it.
use Rattle.std.proofs.Common.{◌≡◌, ℕ, ◌<◌, true, false, List, [], ◌∷◌, ◌++◌, length, reverse, map, refl, ap, sym, subst, ◌∙◌, arith, Option, Some}
use Rattle.std.specs.Prelude.{◌&&◌, not, slice_index}
use Rattle.std.proofs.lemmas.Bool.{cond-true, cond-false, eq-eqb}
use mathlib.Core.List.{IsPrefix}
use Rattle.abt_net.specs.declared.conn.Conn.{Conn}
use Rattle.abt_net.specs.Topology.{Topology, IsWithinRules, conn_at}
use Rattle.abt_model.specs.declared.event.Event.{Event}
use Rattle.abt_model.specs.Outcomes.{conn_of, outcome_of}
use Rattle.abt_model.specs.Past.{facts_of}
use Rattle.abt_model.specs.PortTable.{port_table}
use Rattle.abt_model.specs.declared.entry.SourceEntry.{SourceEntry}
use Rattle.abt_journal.specs.Replay.{reply_by}
use Rattle.abt_weave.specs.Comes.{entry_beside}
use Rattle.abt_weave.specs.Projections.{Step, Visit, past_of, visit, steps_on, entry_made, entry_at, entries_on}
use Rattle.abt_weave.specs.Stuck.{AreTurns}
use Rattle.abt_weave.proofs.PortEvents.{visit_is, known_at, input_at, made_beside, reply_enabled}
use Rattle.abt_weave.proofs.Turns.{steps_turns}
use Rattle.abt_cell.specs.Channel.{Channel}
use Rattle.abt_node.specs.declared.reply.Onward.{Onward}
use Rattle.abt_node.specs.declared.reply.Onward.TheVariants.{Pass, Refuse, Drop}
use Rattle.abt_facts.specs.declared.fact.Fact.{Fact}
use Rattle.abt_facts.specs.Cells.{last_arrival_of}
use Rattle.abt_model.specs.declared.event.Event.TheVariants as event
use Rattle.abt_model.specs.declared.outcome.Outcome.{Outcome}
use Rattle.abt_model.specs.Outcomes.{facts_added, request_adds}
use Rattle.abt_model.proofs.Worlds.{facts_of-own}
use Rattle.abt_weave.proofs.LineFacts.{last_arrival_of-line}
use Rattle.abt_weave.proofs.Replays.{request_said, arrival_said}
use Rattle.abt_history.specs.declared.brought.Brought.{Brought}
use Rattle.abt_history.specs.declared.brought.Brought.TheVariants.{Request, Cell}
use Rattle.abt_history.specs.Sites.{CanBring, HasBrought, event_brought, input_brought, entry_brought, arrived_with}
use Rattle.abt_history.specs.declared.deed.Deed.{Deed}
use Rattle.abt_history.specs.declared.deed.Deed.TheVariants.{Happens}
use Rattle.abt_history.specs.Histories.{happened, ends_of_port, turns_of_source, count_of, out_after, is_out, has_ended}
use Rattle.abt_history.specs.Legal.{IsLegal, IsStep, MayNote, IsNoted, with_turns}
use Rattle.abt_history.proofs.Fronts.{prefix_trans}
use Rattle.abt_history.proofs.Growing.{happened-append, as_seen, happened_turned, ends_turned, turns-append, turned, legal_turned, with_turned, count_at_port}
use Rattle.abt_history.proofs.Turning.{out-append, still_trans}
use Rattle.abt_history.proofs.Coming.{far_own, HasStepped, stepped}
use Rattle.abt_history.proofs.Beside.{AreMet, met, beside_step}
use Rattle.abt_history.proofs.Did.{ended_event}
use Rattle.abt_history.proofs.Going.{HasLeft}
use Rattle.abt_history.proofs.Reaching.{count_grows, brings_now, asks_none, whose_brought, beside_brought, entry_is}

-- a source that has gone to a port whose journal it has seen, with what it brings
pub record IsThere (net : Topology) (c port deeds : ℕ) (conn : Conn) (vc : Channel) (own front out : List Deed) (brought : Brought) : Type 0 where
  pub rules : IsWithinRules net
  pub known : conn_at net c ≡ Some conn
  pub channel : vc ≡ conn.vc
  pub first : port ≡ slice_index conn.path 0
  pub low : port < length net.capacities
  pub left : HasLeft net c own front out
  pub can : CanBring net c vc own brought
  pub counted : count_of net port front ≡ deeds
  pub unended : ends_of_port port front ≡ 0

-- so nothing has changed for either, as long as the port has had no more steps
met_at : (net : Topology) (c port deeds : ℕ) (conn : Conn) (vc : Channel) (own front out log : List Deed) (brought : Brought) → IsThere net c port deeds conn vc own front out brought → IsPrefix out log → IsLegal net log → count_of net port log ≡ deeds → AreMet net c conn out log
met_at net c port deeds conn vc own front out log brought there pre legal count =
    let p = slice_index conn.path 0 in
    let same = there.first in
    let low : p < length net.capacities = subst (λ n. n < length net.capacities) same there.low in
    let one = ap (λ n. count_of net n front) (sym same) ∙ there.counted in
    let three = ap (λ n. count_of net n log) (sym same) ∙ count in
    let up = count_grows net p front out low there.left.theirs in
    let on = count_grows net p out log low pre in
    let two : count_of net p out ≡ deeds = omega (arith, one, three, up, on) in
    let seen = as_seen net p front out low there.left.theirs (two ∙ sym one) in
    record {
      known = there.known;
      low = low;
      pre = pre;
      legal = legal;
      out = there.left.out;
      unended = seen.unended ∙ ap (λ n. ends_of_port n front) (sym same) ∙ there.unended;
      count = three ∙ sym two;
    }

comes_there : (net : Topology) (c port deeds : ℕ) (conn : Conn) (vc : Channel) (own front out log : List Deed) (brought : Brought) → IsThere net c port deeds conn vc own front out brought → (are : AreMet net c conn out log) →
    visit net (past_of net (happened log)) (event_brought c brought) ≡ Some (record { port = port; input = input_brought vc brought; reply = reply_by (port_table net (past_of net (happened log)) port) (input_brought vc brought) })
comes_there net c port deeds conn vc own front out log brought there are =
    let now = met net c conn out log are in
    let still = still_trans net c own out log there.left.still now.still in
    subst (λ n. visit net (past_of net (happened log)) (event_brought c brought) ≡ Some (record { port = n; input = input_brought vc brought; reply = reply_by (port_table net (past_of net (happened log)) n) (input_brought vc brought) })) (sym there.first)
    (brings_now net there.rules c conn vc own log brought there.known there.channel (prefix_trans own out log there.left.mine are.pre) are.legal still there.can)

pub may_meet : (net : Topology) (c port deeds : ℕ) (conn : Conn) (vc : Channel) (own front out : List Deed) (brought : Brought) → IsThere net c port deeds conn vc own front out brought → MayNote net front out port deeds (Happens (event_brought c brought))
may_meet net c port deeds conn vc own front out brought there log mine theirs legal count =
    let are = met_at net c port deeds conn vc own front out log brought there theirs legal count in
    let is = comes_there net c port deeds conn vc own front out log brought there are in
    record {
      turns = [];
      all = tt;
      deed = Happens (event_brought c brought);
      does = refl;
      step = subst (λ n. IsStep net n log (with_turns [] (Happens (event_brought c brought)))) (sym there.first)
          (beside_step net c conn out log are (event_brought c brought) _ (asks_none c brought) (whose_brought c brought) is there.first);
    }

-- what the last arrival is then
request_arrival : (facts : List Fact) (seq : ℕ) (onward : Onward) → last_arrival_of (request_adds 1 seq onward ++ facts) ≡ last_arrival_of facts
request_arrival facts seq Pass = refl
request_arrival facts seq (Refuse answer) = refl
request_arrival facts seq (Drop cause) = refl

brought_arrival : (net : Topology) (c : ℕ) (conn : Conn) (earlier : List Event) (brought : Brought) (v : Visit) → conn_at net c ≡ Some conn → visit net (past_of net earlier) (event_brought c brought) ≡ Some v →
    last_arrival_of (facts_of c (past_of net (event_brought c brought ∷ earlier))) ≡ arrived_with (last_arrival_of (facts_of c (past_of net earlier))) brought
brought_arrival net c conn earlier (Request request) v known is =
    let past = past_of net earlier in
    let event = event.Request c 1 request.seq in
    let said = request_said net past c 1 request.seq v is in
    ap last_arrival_of (facts_of-own net past event c refl ∙ ap (λ (o : Outcome). facts_added (facts_of c past) event o ++ facts_of c past) said.1) ∙ request_arrival (facts_of c past) request.seq said.0
brought_arrival net c conn earlier (Cell cell at) v known is =
    let past = past_of net earlier in
    let event = event.Arrive c cell at in
    let said = arrival_said net past c cell at v is in
    ap last_arrival_of (facts_of-own net past event c refl ∙ ap (λ (o : Outcome). facts_added (facts_of c past) event o ++ facts_of c past) said.1)

met_turned : (net : Topology) (c : ℕ) (conn : Conn) (out log : List Deed) (turns : List Event) → AreMet net c conn out log → AreTurns net (happened log) turns → AreMet net c conn out (turned log turns)
met_turned net c conn out log turns are all =
    let p = slice_index conn.path 0 in
    let more = turned log turns in
    let steps = ap (λ (l : List Event). length (steps_on net p l)) (happened_turned log turns) ∙ ap length (steps_turns net (happened log) turns all p) in
    let ends = ends_turned p log turns in
    let after = count_at_port net p more are.low in
    let before = count_at_port net p log are.low in
    let level : count_of net p more ≡ count_of net p log = omega (arith, after, before, steps, ends) in
    record {
      known = are.known;
      low = are.low;
      pre = prefix_trans out log more are.pre (map Happens (reverse turns), refl);
      legal = legal_turned net log turns are.legal all;
      out = are.out;
      unended = are.unended;
      count = level ∙ are.count;
    }

-- what both have then
pub record HasMet (net : Topology) (c port : ℕ) (vc : Channel) (own front out new : List Deed) (brought : Brought) : Type 0 where
  pub stepped : HasStepped net port front new (input_brought vc brought)
  pub back : HasBrought net c own new (length (steps_on net port (happened front))) brought
  pub ahead : IsPrefix front new

pub has_met : (net : Topology) (c port deeds : ℕ) (conn : Conn) (vc : Channel) (own front out new : List Deed) (brought : Brought) → IsThere net c port deeds conn vc own front out brought → IsNoted net front out new port deeds (Happens (event_brought c brought)) → HasMet net c port vc own front out new brought
has_met net c port deeds conn vc own front out new brought there noted =
    let event = event_brought c brought in
    let before = noted.log in
    let these = noted.next.turns in
    let first = met_at net c port deeds conn vc own front out before brought there noted.theirs noted.legal noted.count in
    let log = turned before these in
    let are = met_turned net c conn out before these first noted.next.all in
    let now = met net c conn out log are in
    let still = still_trans net c own out log there.left.still now.still in
    let is = comes_there net c port deeds conn vc own front out log brought there are in
    let earlier = happened log in
    let past = past_of net earlier in
    let new_is : new ≡ log ++ Happens event ∷ [] = noted.new_is ∙ ap (λ (d : Deed). before ++ with_turns these d) noted.next.does ∙ with_turned before these (Happens event) in
    let then_is : happened new ≡ event ∷ earlier = ap happened new_is ∙ happened-append log (Happens event ∷ []) in
    let mine = prefix_trans front out log there.left.theirs are.pre in
    let level = ap (λ n. count_of net n log) there.first ∙ are.count ∙ sym first.count ∙ ap (λ n. count_of net n before) (sym there.first) ∙ noted.count in
    let stepped_now = stepped net front log new [] event port deeds (input_brought vc brought) there.rules there.low mine are.legal tt there.counted there.unended level new_is is in
    let ported = as_seen net port front log there.low mine (level ∙ sym there.counted) in
    let parts = visit_is net past event _ c (whose_brought c brought) is in
    let made : entry_made net earlier event ≡ entry_beside (length (steps_on net port earlier)) event =
    made_beside net earlier event port (length (steps_on net port earlier)) c parts.conn (outcome_of net past event) (input_brought vc brought) (facts_of c past) (whose_brought c brought) (known_at net past c event _ parts (whose_brought c brought)) parts.port refl
    (input_at net past c event _ parts (whose_brought c brought)) (reply_enabled (outcome_of net past event) _ parts.reply) in
    let place = length (steps_on net port (happened front)) in
    let stands : entry_made net earlier event ≡ Some (entry_brought place brought) = made ∙ ap (λ (l : List Step). entry_beside (length l) event) ported.steps ∙ entry_is c place brought in
    let far = far_own net earlier event _ is c in
    let count = ap (turns_of_source c) new_is ∙ turns-append c log (Happens event ∷ []) in
    let none : turns_of_source c (Happens event ∷ []) ≡ 0 = cond-false _ _ _ far in
    let same = now.turns in
    let more = there.left.turns in
    record {
      stepped = stepped_now;
      ahead = prefix_trans front log new mine (Happens event ∷ [], sym new_is);
      back = record {
        seen = prefix_trans own log new (prefix_trans own out log there.left.mine are.pre) (Happens event ∷ [], sym new_is);
        home = ap (is_out c) new_is ∙ out-append c false log (Happens event ∷ []) ∙ ap (λ b. out_after c b (Happens event ∷ [])) now.out ∙ ap (λ b. true && not b) (beside_brought c brought);
        unended = ap (has_ended c) new_is ∙ ended_event c log event ∙ now.ended ∙ there.left.unended;
        turns = omega (arith, count, none, same, more);
        did = ap (entries_on net c) then_is
            ∙ ap (λ (o : Option SourceEntry). entries_on net c earlier ++ entry_at (conn_of event) c o) stands
            ∙ ap (λ (o : Option ℕ). entries_on net c earlier ++ entry_at o c (Some (entry_brought place brought))) (whose_brought c brought)
            ∙ ap (λ (l : List SourceEntry). entries_on net c earlier ++ l) (cond-true _ _ _ (eq-eqb c c refl))
            ∙ ap (λ (l : List SourceEntry). l ++ entry_brought place brought ∷ []) still.entries;
        last_arrival = ap (λ (l : List Event). last_arrival_of (facts_of c (past_of net l))) then_is ∙ brought_arrival net c conn earlier brought _ there.known is
            ∙ ap (λ (n : ℕ). arrived_with n brought) (sym (last_arrival_of-line (facts_of c past)) ∙ ap last_arrival_of still.still ∙ last_arrival_of-line (facts_of c (past_of net (happened own))));
      };
    }
