-- What a source does by itself, and what it brings to its first port, is what the model says of the history as it is then.
use Rattle.std.proofs.Common.{◌≡◌, ℕ, Bool, true, false, List, [], length, refl, ap, sym, subst, ◌∙◌, Some}
use Rattle.std.specs.Prelude.{not, if◌then◌else◌, slice_index, All}
use Rattle.std.proofs.lemmas.Bool.{false≢true}
use Rattle.abt_cell.specs.Message.{answer_to}
use Rattle.abt_gcra.specs.declared.verdict.Verdict.{Verdict}
use Rattle.abt_net.specs.declared.conn.Conn.{Conn}
use Rattle.abt_net.specs.Topology.{Topology, IsWithinRules, conn_at}
use Rattle.abt_facts.specs.declared.fact.Fact.{Fact}
use Rattle.abt_facts.specs.Requests.{was_asked}
use Rattle.abt_facts.specs.Source.{state_of}
use Rattle.abt_facts.specs.Sent.{answer_is_home}
use Rattle.abt_source.specs.SourceFacts.{request_of}
use Rattle.abt_actor.specs.Actor.{actor_of}
use Rattle.abt_actor.specs.Commands.{event_of, command_answer}
use Rattle.abt_model.specs.declared.command.SourceCommand.{SourceCommand}
use Rattle.abt_model.specs.declared.command.SourceCommand.TheVariants as source
use Rattle.abt_model.specs.declared.event.Event.{Event}
use Rattle.abt_model.specs.declared.event.Event.TheVariants.{Arrive, Request, Told}
use Rattle.abt_model.specs.declared.outcome.Cause.TheVariants.{NotSent, Unknown}
use Rattle.abt_model.specs.declared.outcome.Outcome.{Outcome}
use Rattle.abt_model.specs.declared.outcome.Outcome.TheVariants.{Arrived, Requested, Told as HasTold, NotEnabled}
use Rattle.abt_model.specs.declared.outcome.Heard.{Heard}
use Rattle.abt_model.specs.Answers.{arrive_answer, told_answer, is_hop}
use Rattle.abt_model.specs.Decision.{request_decision}
use Rattle.abt_model.specs.Events.{AsksRate}
use Rattle.abt_model.specs.Outcomes.{port_of, outcome_of}
use Rattle.abt_model.specs.Past.{Past, facts_of}
use Rattle.abt_model.specs.PortTable.{port_table}
use Rattle.abt_model.specs.Reserved.{reserved_on, capacity_of}
use Rattle.abt_model.proofs.Worlds.{outcome_of-known}
use Rattle.abt_journal.specs.declared.input.PortInput.{PortInput}
use Rattle.abt_journal.specs.declared.input.PortInput.TheVariants.{Request as RequestIn, Arrive as ArriveIn}
use Rattle.abt_journal.specs.declared.input.PortReply.{PortReply}
use Rattle.abt_journal.specs.declared.input.PortReply.TheVariants.{Requested as RequestedOut}
use Rattle.abt_journal.specs.Replay.{reply_by}
use Rattle.abt_weave.specs.Projections.{Visit, reply_of, is_enabled, past_of, visit, entries_on}
use Rattle.abt_weave.specs.Leaving.{facts_done}
use Rattle.abt_weave.proofs.LineFacts.{line}
use Rattle.abt_weave.proofs.OwnFacts.{actor_of-own}
use Rattle.abt_weave.proofs.OwnReplays.{own_replayed}
use Rattle.abt_weave.proofs.PortEvents.{visit_made, has_reply}
use Rattle.abt_weave.proofs.PortLooks.{first_hop}
use Rattle.abt_weave.proofs.Replays.{past_lawful, event_made}
use Rattle.abt_weave.proofs.VisitAgain.{arrives_alike}
use Rattle.abt_world.proofs.Sendings.{heard_same}
use Rattle.abt_history.specs.Sites.{IsSaid}

-- where a source has had the same entries, it is the same actor
pub actor_still : (net : Topology) (c : ℕ) (conn : Conn) (before after : List Event) → entries_on net c after ≡ entries_on net c before → actor_of conn.vc (facts_of c (past_of net before)) ≡ actor_of conn.vc (facts_of c (past_of net after))
actor_still net c conn before after same =
    sym (actor_of-own conn.vc (facts_of c (past_of net before)))
    ∙ ap (actor_of conn.vc) (own_replayed net c before ∙ ap (facts_done []) (sym same) ∙ sym (own_replayed net c after))
    ∙ actor_of-own conn.vc (facts_of c (past_of net after))

told_on : (b : Bool) (o : Outcome) → b ≡ true → (if not b then NotEnabled NotSent else o) ≡ o
told_on true o h = refl
told_on false o h = absurd (false≢true h)

-- what an actor answers is what its event answers; a Told is that of the number of the answer
pub own_outcome : (net : Topology) (past : Past) (c : ℕ) (conn : Conn) (command : SourceCommand) → conn_at net c ≡ Some conn → IsSaid net past c command →
    outcome_of net past (event_of c command) ≡ command_answer conn.vc (facts_of c past) command
own_outcome net past c conn (source.Start now) known said = outcome_of-known net past (event_of c (source.Start now)) c conn refl known
own_outcome net past c conn (source.Ask rate plan) known said = outcome_of-known net past (event_of c (source.Ask rate plan)) c conn refl known
own_outcome net past c conn source.Again known said = outcome_of-known net past (event_of c source.Again) c conn refl known
own_outcome net past c conn source.Crash known said = outcome_of-known net past (event_of c source.Crash) c conn refl known
own_outcome net past c conn (source.Emit now) known said = outcome_of-known net past (event_of c (source.Emit now)) c conn refl known
own_outcome net past c conn (source.Told answer) known said =
    let facts = facts_of c past in
    let seq = said.seq in
    let granted = said.granted in
    let its : said.conn ≡ conn = some_one (sym said.known ∙ known) in
    let is : answer ≡ answer_to (request_of conn.vc facts seq) granted = said.is ∙ ap (λ (k : Conn). answer_to (request_of k.vc facts seq) granted) its in
    subst (λ a. outcome_of net past (event_of c (source.Told a)) ≡ command_answer conn.vc facts (source.Told a)) (sym is)
    (outcome_of-known net past (Told c seq granted) c conn refl known
    ∙ told_on (answer_is_home facts seq granted) (HasTold (told_answer (state_of facts) seq granted)) said.sent
    ∙ ap (λ (h : Heard). HasTold h) (sym (heard_same conn.vc facts (state_of facts) seq granted)))
  where
    some_one : {a b : Conn} → Some a ≡ Some b → a ≡ b
    some_one h = cc

-- a visit at the first port, by its table
seen_first : (net : Topology) → IsWithinRules net → (earlier : List Event) → All AsksRate earlier → (event : Event) (p : ℕ) (input : PortInput) (reply : PortReply) →
    visit net (past_of net earlier) event ≡ Some (record { port = p; input = input; reply = reply }) → visit net (past_of net earlier) event ≡ Some (record { port = p; input = input; reply = reply_by (port_table net (past_of net earlier) p) input })
seen_first net rules earlier rates event p input reply is =
    is ∙ ap (λ (r : PortReply). Some (let v : Visit = record { port = p; input = input; reply = r } in v)) (event_made net (past_of net earlier) rules (past_lawful net earlier rates) event _ is).0

come_on : (a b : Bool) (o : Outcome) → a ≡ true → b ≡ true → (if not a then NotEnabled Unknown else (if not b then NotEnabled NotSent else o)) ≡ o
come_on true true o one other = refl
come_on true false o one other = absurd (false≢true other)
come_on false b o one other = absurd (false≢true one)

-- a request that was asked comes to the first port
pub request_visits : (net : Topology) → IsWithinRules net → (earlier : List Event) → All AsksRate earlier → (c seq : ℕ) (conn : Conn) → conn_at net c ≡ Some conn → was_asked (facts_of c (past_of net earlier)) seq ≡ true →
    (let input = RequestIn (request_of conn.vc (facts_of c (past_of net earlier)) seq) in let p = slice_index conn.path 0 in
    visit net (past_of net earlier) (Request c 1 seq) ≡ Some (record { port = p; input = input; reply = reply_by (port_table net (past_of net earlier) p) input }))
request_visits net rules earlier rates c seq conn known asked =
    let past = past_of net earlier in
    let facts = facts_of c past in
    let event = Request c 1 seq in
    let terms = request_of conn.vc facts seq in
    let onward = request_decision facts (reserved_on net past (port_of conn.path event)) (capacity_of net past (port_of conn.path event)) 1 terms in
    let says : outcome_of net past event ≡ Requested onward = outcome_of-known net past event c conn refl known ∙ come_on (is_hop (length conn.path) 1) (was_asked facts seq) (Requested onward) (first_hop net rules c conn known) asked in
    seen_first net rules earlier rates event (slice_index conn.path 0) (RequestIn terms) (RequestedOut onward) (visit_made net past event c conn (RequestIn terms) (RequestedOut onward) refl known refl (ap reply_of says))

-- a cell that may arrive, by the facts of its line, comes to the first port
pub arrival_visits : (net : Topology) → IsWithinRules net → (earlier : List Event) → All AsksRate earlier → (c cell at : ℕ) (conn : Conn) (facts : List Fact) (verdict : Verdict) → conn_at net c ≡ Some conn → line facts ≡ line (facts_of c (past_of net earlier)) →
    arrive_answer conn facts cell at ≡ Arrived verdict →
    (let input = ArriveIn conn.vc at in let p = slice_index conn.path 0 in
    visit net (past_of net earlier) (Arrive c cell at) ≡ Some (record { port = p; input = input; reply = reply_by (port_table net (past_of net earlier) p) input }))
arrival_visits net rules earlier rates c cell at conn facts verdict known same arrives =
    let past = past_of net earlier in
    let event = Arrive c cell at in
    let says = outcome_of-known net past event c conn refl known in
    let on : is_enabled (outcome_of net past event) ≡ true = ap is_enabled says ∙ sym (arrives_alike conn facts (facts_of c past) cell at same) ∙ ap is_enabled arrives in
    let found = has_reply net past event c conn (ArriveIn conn.vc at) refl known (first_hop net rules c conn known) refl on in
    seen_first net rules earlier rates event (slice_index conn.path 0) (ArriveIn conn.vc at) found.reply (visit_made net past event c conn (ArriveIn conn.vc at) found.reply refl known refl found.is)
