-- A port that has served something is one that has done so.
use Rattle.std.proofs.Common.{◌≡◌, ℕ, ◌<◌, List, [], ◌∷◌, ◌++◌, length, map, refl, ap, sym, subst, ◌∙◌, arith}
use Rattle.std.specs.Prelude.{All, Result, Ok, Err, IfOk, IsErrAnd, IsErrOf}
use Rattle.abt_journal.specs.declared.entry.Receipt.{Receipt}
use Rattle.abt_journal.specs.declared.fault.ServeFault.{ServeFault}
use Rattle.abt_journal.specs.declared.fault.ServeFault.TheVariants.{Wound}
use Rattle.abt_journal.specs.Receipts.{seen_at}
use Rattle.abt_cell.specs.declared.message.Rm.{Rm}
use Rattle.abt_model.specs.declared.event.Event.{Event}
use Rattle.abt_model.specs.Events.{AsksRate}
use Rattle.abt_serving.specs.Followed.{FollowsOn}
use Rattle.abt_serving.specs.Messages.{input_of}
use Rattle.abt_serving.proofs.Following.{replies_lead}
use Rattle.abt_history.proofs.Growing.{count_at_port}
use Rattle.std.proofs.lemmas.List.{length-map}
use Rattle.abt_net.specs.Topology.{Topology, IsWithinRules}
use Rattle.abt_node.specs.Table.{Table}
use Rattle.abt_model.specs.PortTable.{port_table}
use Rattle.abt_journal.specs.Journaled.{Journaled}
use Rattle.abt_journal.specs.declared.entry.Entry.{Entry}
use Rattle.abt_journal.specs.declared.input.PortInput.{PortInput}
use Rattle.abt_journal.specs.declared.input.PortReply.{PortReply}
use Rattle.abt_journal.specs.Replay.{reply_by, table_after, replay}
use Rattle.abt_weave.specs.Projections.{Step, past_of, step_of, steps_on}
use Rattle.abt_weave.proofs.Replays.{replayed, replay-steps, tables_replayed}
use Rattle.abt_history.specs.declared.deed.Deed.{Deed}
use Rattle.abt_history.specs.Histories.{happened, count_of}
use Rattle.abt_history.specs.Stations.{StationView, IsStation, CameTo}
use Rattle.abt_history.proofs.Coming.{HasStepped}

-- what follows from a result that is Ok
pub if_ok : {A E : Type 0} {P Q : A → Type 0} (r : Result A E) → IfOk r P → ((x : A) → P x → Q x) → IfOk r Q
if_ok (Ok x) p more = more x p
if_ok (Err e) p more = tt

-- and from two of them
pub if_both : {A E : Type 0} {P Q S : A → Type 0} (r : Result A E) → IfOk r P → IfOk r Q → ((x : A) → P x → Q x → S x) → IfOk r S
if_both (Ok x) p q more = more x p q
if_both (Err e) p q more = tt

mapped : (xs : List Entry) (e : Entry) → map step_of (xs ++ e ∷ []) ≡ map step_of xs ++ step_of e ∷ []
mapped [] e = refl
mapped (x ∷ xs) e = ap (λ (l : List Step). step_of x ∷ l) (mapped xs e)

-- the table of a port is the one of the history that was seen
pub table_seen : (net : Topology) (station : StationView) → IsStation net station → All AsksRate (happened station.front) → station.state.table ≡ replay station.state.opening station.state.entries →
    port_table net (past_of net (happened station.front)) station.port ≡ station.state.table
table_seen net station its rates is =
    let state = station.state in
    tables_replayed net its.rules (happened station.front) rates station.port
    ∙ ap (replayed (port_table net [] station.port)) its.steps
    ∙ sym (replay-steps (port_table net [] station.port) state.entries)
    ∙ ap (λ (t : Table). replay t state.entries) (sym its.opening)
    ∙ sym is

-- how many deeds its word counts
pub deeds_of : (net : Topology) (station : StationView) → IsStation net station → count_of net station.port station.front ≡ length station.state.entries
deeds_of net station its =
    let all = count_at_port net station.port station.front its.low in
    let steps = ap length its.steps ∙ length-map station.state.entries step_of in
    let none = its.unended in
    omega (arith, all, steps, none)

pub stays_station : (net : Topology) (old : StationView) (state : Journaled) (caller place : ℕ) (new : List Deed) (input : PortInput) (reply : PortReply) → IsStation net old → All AsksRate (happened old.front) →
    old.state.table ≡ replay old.state.opening old.state.entries → HasStepped net old.port old.front new input → place ≡ length old.state.entries → reply ≡ reply_by old.state.table input →
    state ≡ record { opening = old.state.opening; table = table_after old.state.table input; entries = old.state.entries ++ record { place = place; caller = caller; input = input; reply = reply } ∷ [] } →
    IsStation net (record { port = old.port; state = state; front = new })
stays_station net old state caller place new input reply its rates is stepped at says made =
    let front = old.front in
    let key = old.port in
    let table = table_seen net old its rates is in
    let entry : Entry = record { place = place; caller = caller; input = input; reply = reply } in
    let places : length (steps_on net key (happened front)) ≡ place = ap length its.steps ∙ length-map old.state.entries step_of ∙ sym at in
    let replies : reply_by (port_table net (past_of net (happened front)) key) input ≡ reply = ap (λ (t : Table). reply_by t input) table ∙ sym says in
    record {
      rules = its.rules;
      low = its.low;
      opening = ap (λ (s : Journaled). s.opening) made ∙ its.opening;
      steps = stepped.steps
          ∙ ap (λ (l : List Step). l ++ record { place = length (steps_on net key (happened front)); input = input; reply = reply_by (port_table net (past_of net (happened front)) key) input } ∷ []) its.steps
          ∙ ap (λ (n : ℕ). map step_of old.state.entries ++ record { place = n; input = input; reply = reply_by (port_table net (past_of net (happened front)) key) input } ∷ []) places
          ∙ ap (λ (r : PortReply). map step_of old.state.entries ++ record { place = place; input = input; reply = r } ∷ []) replies
          ∙ sym (mapped old.state.entries entry)
          ∙ ap (λ (s : Journaled). map step_of s.entries) (sym made);
      unended = stepped.unended;
    }

-- a port under the number that its state has
pub numbered : (net : Topology) (key port : ℕ) (state : Journaled) (front : List Deed) → port ≡ state.opening.id → key ≡ port → IsStation net (record { port = port; state = state; front = front }) →
    (key ≡ state.opening.id) × IsStation net (record { port = state.opening.id; state = state; front = front })
numbered net key port state front same key_is its = subst (λ p. (key ≡ p) × IsStation net (record { port = p; state = state; front = front })) same (key_is, its)

-- and the newest event is one by which this came and had this reply
pub came_so : (net : Topology) (old : StationView) (new : List Deed) (input : PortInput) (reply : PortReply) → IsStation net old → All AsksRate (happened old.front) → old.state.table ≡ replay old.state.opening old.state.entries →
    HasStepped net old.port old.front new input → reply ≡ reply_by old.state.table input → CameTo net new old.port input reply
came_so net old new input reply its rates is stepped says =
    subst (CameTo net new old.port input) (ap (λ (t : Table). reply_by t input) (table_seen net old its rates is) ∙ sym says) stepped.came

-- so what follows the reply lies where it was sent to
pub follows_on : (net : Topology) (front : List Deed) (port : ℕ) (message : Rm) (reply : PortReply) → IsWithinRules net → CameTo net front port (input_of message) reply → FollowsOn net (past_of net (happened front)) port message reply
follows_on net front port message reply rules came =
    subst (λ (l : List Event). FollowsOn net (past_of net l) port message reply) (sym came.is) (replies_lead net came.earlier rules came.rates came.event port message reply came.comes)

-- what an error of a step says, and only then
abbrev pub TellsWounds : Result (ℕ × PortReply) ServeFault → (port : ℕ) → List Receipt → List Entry → Type 0
TellsWounds r port receipts entries =
    (seen found : ℕ) → (IsErrOf r (Wound seen found) → (seen ≡ seen_at port receipts) × (found ≡ length entries) × (found < seen)) × ((seen ≡ seen_at port receipts) × (found ≡ length entries) × (found < seen) → IsErrOf r (Wound seen found))

pub same_fault : {T E : Type 0} (r : Result T E) (fault : E) → IsErrAnd r (λ told. told ≡ fault) → r ≡ Err fault
same_fault (Ok x) fault same = absurd same
same_fault (Err told) fault same = ap Err same

pub tells_wounds : (net : Topology) (inside now : StationView) (r other : Result (ℕ × PortReply) ServeFault) (port : ℕ) (receipts : List Receipt) → port ≡ inside.port → inside ≡ now → other ≡ r → TellsWounds r port receipts inside.state.entries → TellsWounds other now.port receipts now.state.entries
tells_wounds net inside now r other port receipts same view result tells =
    subst (λ (o : Result (ℕ × PortReply) ServeFault). TellsWounds o now.port receipts now.state.entries) (sym result)
    (subst (λ (v : StationView). TellsWounds r v.port receipts v.state.entries) view (subst (λ (p : ℕ). TellsWounds r p receipts inside.state.entries) same tells))
