-- After an event by which a message comes to a port, what follows the reply lies where it was sent to.
use Rattle.std.proofs.Common.{◌≡◌, ℕ, Bool, true, false, List, ◌∷◌, length, refl, ap, sym, subst, ◌∙◌, Some}
use Rattle.std.specs.Prelude.{not, if◌then◌else◌, All}
use Rattle.std.proofs.lemmas.Bool.{false≢true}
use Rattle.abt_cell.specs.Message.{Terms, Reply, answer_to}
use Rattle.abt_cell.specs.declared.message.Rm.TheVariants as rm
use Rattle.abt_net.specs.declared.conn.Conn.{Conn}
use Rattle.abt_net.specs.Topology.{Topology, IsWithinRules, conn_at}
use Rattle.abt_net.specs.Paths.{hop_of}
use Rattle.abt_facts.specs.Sent.{request_is_at, answer_is_at}
use Rattle.abt_source.specs.SourceFacts.{request_of}
use Rattle.abt_model.specs.declared.event.Event.{Event}
use Rattle.abt_model.specs.declared.event.Event.TheVariants.{Request, Answer}
use Rattle.abt_model.specs.declared.outcome.Cause.TheVariants.{NotSent, Unknown}
use Rattle.abt_model.specs.declared.outcome.Outcome.{Outcome}
use Rattle.abt_model.specs.declared.outcome.Outcome.TheVariants.{NotEnabled}
use Rattle.abt_model.specs.Answers.{is_hop}
use Rattle.abt_model.specs.Events.{AsksRate}
use Rattle.abt_model.specs.Outcomes.{outcome_of}
use Rattle.abt_model.specs.Past.{facts_of}
use Rattle.abt_model.specs.PortTable.{hop_visited}
use Rattle.abt_model.proofs.Lawful.{route_of}
use Rattle.abt_model.proofs.Worlds.{outcome_of-known, lawful_at}
use Rattle.abt_journal.specs.declared.input.PortInput.TheVariants.{Request as RequestIn, Answer as AnswerIn, Capacity as CapacityIn}
use Rattle.abt_journal.specs.declared.input.PortReply.{PortReply}
use Rattle.abt_journal.specs.declared.input.PortReply.TheVariants.{Requested as RequestedOut, Answered as AnsweredOut}
use Rattle.abt_journal.specs.Following.{sent_after}
use Rattle.abt_weave.specs.Projections.{Visit, is_enabled, reply_of, past_of, visit}
use Rattle.abt_weave.proofs.Places.{own_number}
use Rattle.abt_weave.proofs.PortEvents.{IsVisit, visit_is, visit_by_input, has_reply, reply_enabled, some_same}
use Rattle.abt_weave.proofs.PortLooks.{first_hop}
use Rattle.abt_weave.proofs.Replays.{past_lawful, hop_here, request_said, answer_said}
use Rattle.abt_world.proofs.Sendings.{request_asked, answer_asked}
use Rattle.abt_serving.specs.Messages.{IsStopOf}
use Rattle.abt_serving.specs.Followed.{IsLeft, FollowsOn, RepliesLead}
use Rattle.abt_serving.proofs.Followed.{request_leads, answer_leads}

-- what happened had been sent
was_sent : (a b : Bool) (o : Outcome) → is_enabled (if not a then NotEnabled Unknown else (if not b then NotEnabled NotSent else o)) ≡ true → b ≡ true
was_sent true true o h = refl
was_sent true false o h = absurd (false≢true h)
was_sent false b o h = absurd (false≢true h)

-- the stop at which an event of a connection comes
stop_of : (net : Topology) → IsWithinRules net → (earlier : List Event) (event : Event) (v : Visit) → (parts : IsVisit net (past_of net earlier) event v) → IsStopOf net parts.c parts.conn (hop_visited event) v.port
stop_of net rules earlier event v parts =
    let past = past_of net earlier in
    let enabled = reply_enabled (outcome_of net past event) v.reply parts.reply in
    let found = has_reply net past event parts.c parts.conn v.input parts.whose parts.known (first_hop net rules parts.c parts.conn parts.known) parts.input enabled in
    record { known = parts.known; within = found.within; port_is = parts.port }

-- a connection is known by its channel
known_by : (net : Topology) → IsWithinRules net → (c d : ℕ) (conn other : Conn) → conn_at net c ≡ Some conn → conn_at net d ≡ Some other → other.vc ≡ conn.vc → (d ≡ c) × (other ≡ conn)
known_by net rules c d conn other known its same =
    let number = own_number net rules d c other conn its known same in
    (number, some_same (sym its ∙ ap (conn_at net) number ∙ known))

same_terms : (a b : Terms) → Some (RequestIn a) ≡ Some (RequestIn b) → a ≡ b
same_terms a b h = cc

same_answer : (a b : Reply) → Some (AnswerIn a) ≡ Some (AnswerIn b) → a ≡ b
same_answer a b h = cc

request_follows : (net : Topology) → IsWithinRules net → (earlier : List Event) → All AsksRate earlier → (event : Event) (port : ℕ) (request : Terms) (reply : PortReply) →
    visit net (past_of net earlier) event ≡ Some (record { port = port; input = RequestIn request; reply = reply }) → FollowsOn net (past_of net (event ∷ earlier)) port (rm.Request request) reply
request_follows net rules earlier rates (Request d hop seq) port request reply is c conn known channel =
    let past = past_of net earlier in
    let event = Request d hop seq in
    let v : Visit = record { port = port; input = RequestIn request; reply = reply } in
    let parts = visit_is net past event v d refl is in
    let own : d ≡ parts.c = some_same parts.whose in
    let facts = facts_of parts.c past in
    let terms = request_of parts.conn.vc facts seq in
    let brought : terms ≡ request = same_terms terms request parts.input in
    let its = known_by net rules c parts.c conn parts.conn known parts.known (ap (λ (t : Terms). t.vc) brought ∙ sym channel) in
    let said = request_said net past d hop seq v is in
    let replied : RequestedOut said.0 ≡ reply = some_same (ap reply_of (sym said.1) ∙ parts.reply) in
    let says = outcome_of-known net past event parts.c parts.conn parts.whose parts.known in
    let sent = was_sent (is_hop (length parts.conn.path) hop) (request_is_at facts seq hop) _ (ap is_enabled (sym says) ∙ reply_enabled (outcome_of net past event) reply parts.reply) in
    let asked = request_asked (route_of parts.conn) facts (lawful_at net past (past_lawful net earlier rates) parts.c parts.conn parts.known) seq hop sent in
    let at : hop_of parts.conn.path port ≡ hop = hop_here net past rules event v parts in
    let now = request_leads net earlier rules rates parts.c hop seq port parts.conn said.0 (stop_of net rules earlier event v parts) asked (ap (λ (n : ℕ). outcome_of net past (Request n hop seq)) (sym own) ∙ said.1) in
    let same : sent_after parts.conn.path parts.c hop (rm.Request terms) (RequestedOut said.0) ≡ sent_after conn.path c (hop_of conn.path port) (rm.Request request) reply = (
    let path = ap (λ (k : Conn). k.path) its.1 in
    let hop_is = sym at ∙ ap (λ (p : List ℕ). hop_of p port) path in
    ap (λ (p : List ℕ). sent_after p parts.c hop (rm.Request terms) (RequestedOut said.0)) path
    ∙ ap (λ (n : ℕ). sent_after conn.path n hop (rm.Request terms) (RequestedOut said.0)) its.0
    ∙ ap (λ (n : ℕ). sent_after conn.path c n (rm.Request terms) (RequestedOut said.0)) hop_is
    ∙ ap (λ (t : Terms). sent_after conn.path c (hop_of conn.path port) (rm.Request t) (RequestedOut said.0)) brought
    ∙ ap (λ (r : PortReply). sent_after conn.path c (hop_of conn.path port) (rm.Request request) r) replied) in
    subst (IsLeft net (past_of net (event ∷ earlier))) same (subst (λ (n : ℕ). IsLeft net (past_of net (Request n hop seq ∷ earlier)) (sent_after parts.conn.path parts.c hop (rm.Request terms) (RequestedOut said.0))) (sym own) now)
request_follows net rules earlier rates other port request reply is c conn known channel =
    let parts = visit_by_input net (past_of net earlier) other _ (no_capacity request) is in
    let brought = parts.input in absurd (cc)
  where
    no_capacity : (t : Terms) (capacity : ℕ) → RequestIn t ≡ CapacityIn capacity → ⊥
    no_capacity t capacity e = cc

answer_follows : (net : Topology) → IsWithinRules net → (earlier : List Event) → All AsksRate earlier → (event : Event) (port : ℕ) (answer : Reply) (reply : PortReply) →
    visit net (past_of net earlier) event ≡ Some (record { port = port; input = AnswerIn answer; reply = reply }) → FollowsOn net (past_of net (event ∷ earlier)) port (rm.Answer answer) reply
answer_follows net rules earlier rates (Answer d hop seq granted) port answer reply is c conn known channel =
    let past = past_of net earlier in
    let event = Answer d hop seq granted in
    let v : Visit = record { port = port; input = AnswerIn answer; reply = reply } in
    let parts = visit_is net past event v d refl is in
    let own : d ≡ parts.c = some_same parts.whose in
    let facts = facts_of parts.c past in
    let terms = request_of parts.conn.vc facts seq in
    let brought : answer_to terms granted ≡ answer = same_answer (answer_to terms granted) answer parts.input in
    let its = known_by net rules c parts.c conn parts.conn known parts.known (ap (λ (a : Reply). a.terms.vc) brought ∙ sym channel) in
    let said = answer_said net past d hop seq granted v is in
    let replied : AnsweredOut said.0 ≡ reply = some_same (ap reply_of (sym said.1) ∙ parts.reply) in
    let says = outcome_of-known net past event parts.c parts.conn parts.whose parts.known in
    let sent = was_sent (is_hop (length parts.conn.path) hop) (answer_is_at (length parts.conn.path) facts seq hop granted) _ (ap is_enabled (sym says) ∙ reply_enabled (outcome_of net past event) reply parts.reply) in
    let asked = answer_asked (route_of parts.conn) facts (lawful_at net past (past_lawful net earlier rates) parts.c parts.conn parts.known) (length parts.conn.path) seq hop granted sent in
    let at : hop_of parts.conn.path port ≡ hop = hop_here net past rules event v parts in
    let now = answer_leads net earlier rates parts.c hop seq port granted parts.conn said.0 (stop_of net rules earlier event v parts) asked (ap (λ (n : ℕ). outcome_of net past (Answer n hop seq granted)) (sym own) ∙ said.1) in
    let same : sent_after parts.conn.path parts.c hop (rm.Answer (answer_to terms granted)) (AnsweredOut said.0) ≡ sent_after conn.path c (hop_of conn.path port) (rm.Answer answer) reply = (
    let path = ap (λ (k : Conn). k.path) its.1 in
    let hop_is = sym at ∙ ap (λ (p : List ℕ). hop_of p port) path in
    ap (λ (p : List ℕ). sent_after p parts.c hop (rm.Answer (answer_to terms granted)) (AnsweredOut said.0)) path
    ∙ ap (λ (n : ℕ). sent_after conn.path n hop (rm.Answer (answer_to terms granted)) (AnsweredOut said.0)) its.0
    ∙ ap (λ (n : ℕ). sent_after conn.path c n (rm.Answer (answer_to terms granted)) (AnsweredOut said.0)) hop_is
    ∙ ap (λ (a : Reply). sent_after conn.path c (hop_of conn.path port) (rm.Answer a) (AnsweredOut said.0)) brought
    ∙ ap (λ (r : PortReply). sent_after conn.path c (hop_of conn.path port) (rm.Answer answer) r) replied) in
    subst (IsLeft net (past_of net (event ∷ earlier))) same (subst (λ (n : ℕ). IsLeft net (past_of net (Answer n hop seq granted ∷ earlier)) (sent_after parts.conn.path parts.c hop (rm.Answer (answer_to terms granted)) (AnsweredOut said.0))) (sym own) now)
answer_follows net rules earlier rates other port answer reply is c conn known channel =
    let parts = visit_by_input net (past_of net earlier) other _ (no_capacity answer) is in
    let brought = parts.input in absurd (cc)
  where
    no_capacity : (a : Reply) (capacity : ℕ) → AnswerIn a ≡ CapacityIn capacity → ⊥
    no_capacity a capacity e = cc

pub replies_lead : (net : Topology) (earlier : List Event) → IsWithinRules net → All AsksRate earlier → RepliesLead net earlier
replies_lead net earlier rules rates event port (rm.Request request) reply is = request_follows net rules earlier rates event port request reply is
replies_lead net earlier rules rates event port (rm.Answer answer) reply is = answer_follows net rules earlier rates event port answer reply is
