-- What a source brings comes to its first port, whatever else has happened.
use Rattle.std.proofs.Common.{◌≡◌, ℕ, ◌<◌, ◌≤◌, true, List, length, refl, ap, sym, subst, ◌∙◌, arith, Some}
use Rattle.std.specs.Prelude.{slice_index, All}
use Rattle.std.proofs.lemmas.List.{length-append}
use Rattle.std.proofs.lemmas.Bool.{eq-eqb}
use mathlib.Core.List.{IsPrefix}
use Rattle.abt_net.specs.declared.conn.Conn.{Conn}
use Rattle.abt_net.specs.Topology.{Topology, IsWithinRules, conn_at}
use Rattle.abt_model.specs.declared.event.Event.{Event}
use Rattle.abt_model.specs.Events.{AsksRate}
use Rattle.abt_model.specs.Outcomes.{conn_of}
use Rattle.abt_model.specs.Past.{facts_of}
use Rattle.abt_model.specs.PortTable.{port_table}
use Rattle.abt_journal.specs.Replay.{reply_by}
use Rattle.abt_weave.specs.Comes.{entry_beside}
use Rattle.abt_weave.specs.Projections.{past_of, visit, steps_on}
use Rattle.abt_cell.specs.Channel.{Channel}
use Rattle.abt_cell.specs.Message.{Terms}
use Rattle.abt_facts.specs.Requests.{was_asked, is_ask_of}
use Rattle.abt_source.specs.SourceFacts.{request_of}
use Rattle.abt_model.specs.declared.event.Event.TheVariants as event
use Rattle.abt_model.specs.declared.outcome.Outcome.TheVariants.{Arrived}
use Rattle.abt_model.specs.Answers.{arrive_answer}
use Rattle.abt_model.proofs.Worlds.{outcome_of-known}
use Rattle.abt_journal.specs.declared.input.PortInput.TheVariants.{Request as RequestIn, Arrive as ArriveIn}
use Rattle.abt_serving.proofs.Messages.{any_grows, terms_stay}
use Rattle.abt_history.specs.declared.brought.Brought.{Brought}
use Rattle.abt_history.specs.declared.brought.Brought.TheVariants.{Request, Cell}
use Rattle.abt_history.specs.Sites.{CanBring, event_brought, input_brought, entry_brought}
use Rattle.abt_history.proofs.Visiting.{request_visits, arrival_visits}
use Rattle.abt_history.specs.declared.deed.Deed.{Deed}
use Rattle.abt_history.specs.Histories.{happened, ends_of_port, count_of, is_beside_of}
use Rattle.abt_history.specs.Legal.{IsLegal}
use Rattle.abt_history.proofs.Growing.{happened_more, steps_grow, ends-append, rates_of, count_at_port}
use Rattle.abt_history.proofs.Turning.{IsStill}

-- counts only grow
pub count_grows : (net : Topology) (p : ℕ) (seen log : List Deed) → p < length net.capacities → IsPrefix seen log → count_of net p seen ≤ count_of net p log
count_grows net p seen log low pre =
    let grown = steps_grow net (happened pre.0) (happened seen) p in
    let now = ap length (ap (steps_on net p) (happened_more seen log pre) ∙ grown.1) ∙ length-append (steps_on net p (happened seen)) grown.0 in
    let ends = ap (ends_of_port p) (sym pre.1) ∙ ends-append p seen pre.0 in
    let one = count_at_port net p log low in
    let other = count_at_port net p seen low in
    omega (arith, now, ends, one, other)

-- what a source brings comes to the port, whatever else has happened
pub brings_now : (net : Topology) → IsWithinRules net → (c : ℕ) (conn : Conn) (vc : Channel) (own log : List Deed) (brought : Brought) → conn_at net c ≡ Some conn → vc ≡ conn.vc → IsPrefix own log → IsLegal net log → IsStill net c own log → CanBring net c vc own brought →
    (let p = slice_index conn.path 0 in let input = input_brought vc brought in
    visit net (past_of net (happened log)) (event_brought c brought) ≡ Some (record { port = p; input = input; reply = reply_by (port_table net (past_of net (happened log)) p) input }))
brings_now net rules c conn vc own log (Request request) known same pre legal still can =
    let earlier = happened log in
    let rates = rates_of net log legal in
    let grown = happened_more own log pre in
    let facts = facts_of c (past_of net earlier) in
    let seq = request.seq in
    let p = slice_index conn.path 0 in
    let asked : was_asked facts seq ≡ true = subst (λ (l : List Event). was_asked (facts_of c (past_of net l)) seq ≡ true) (sym grown) (any_grows net (happened pre.0) (happened own) c (is_ask_of seq) can.0) in
    let terms = terms_stay net (happened pre.0) (happened own) c seq conn known (subst (All AsksRate) grown rates) can.0 in
    let is : request ≡ request_of conn.vc facts seq = can.1 ∙ ap (λ (v : Channel). request_of v (facts_of c (past_of net (happened own))) seq) same ∙ sym terms ∙ ap (λ (l : List Event). request_of conn.vc (facts_of c (past_of net l)) seq) (sym grown) in
    subst (λ (t : Terms). visit net (past_of net earlier) (event.Request c 1 seq) ≡ Some (record { port = p; input = RequestIn t; reply = reply_by (port_table net (past_of net earlier) p) (RequestIn t) })) (sym is)
    (request_visits net rules earlier rates c seq conn known asked)
brings_now net rules c conn vc own log (Cell cell at) known same pre legal still can =
    let earlier = happened log in
    let p = slice_index conn.path 0 in
    let facts = facts_of c (past_of net (happened own)) in
    let arrives : arrive_answer conn facts cell at ≡ Arrived can.0 = sym (outcome_of-known net (past_of net (happened own)) (event.Arrive c cell at) c conn refl known) ∙ can.1 in
    subst (λ (v : Channel). visit net (past_of net earlier) (event.Arrive c cell at) ≡ Some (record { port = p; input = ArriveIn v at; reply = reply_by (port_table net (past_of net earlier) p) (ArriveIn v at) })) (sym same)
    (arrival_visits net rules earlier (rates_of net log legal) c cell at conn facts can.0 known (sym still.still) arrives)

pub asks_none : (c : ℕ) (brought : Brought) → AsksRate (event_brought c brought)
asks_none c (Request request) = tt
asks_none c (Cell cell at) = tt

pub whose_brought : (c : ℕ) (brought : Brought) → conn_of (event_brought c brought) ≡ Some c
whose_brought c (Request request) = refl
whose_brought c (Cell cell at) = refl

pub beside_brought : (c : ℕ) (brought : Brought) → is_beside_of c (event_brought c brought) (conn_of (event_brought c brought)) ≡ true
beside_brought c (Request request) = eq-eqb c c refl
beside_brought c (Cell cell at) = eq-eqb c c refl

pub entry_is : (c place : ℕ) (brought : Brought) → entry_beside place (event_brought c brought) ≡ Some (entry_brought place brought)
entry_is c place (Request request) = refl
entry_is c place (Cell cell at) = refl
