-- Where events stand still with entries left, no list of events is woven from the journals.
use Rattle.std.proofs.Common.{◌≡◌, ◌≢◌, ℕ, ◌+◌, ◌-◌, ◌<◌, inl, inr, refl, ap, Bool, true, false, List, [], ◌∷◌, ◌++◌, length, ◌∙◌, sym, subst, Some, arith}
use Rattle.std.specs.Prelude.{◌&&◌, ◌||◌, ◌⊎◌, not, nat_lt, if◌then◌else◌, slice_get, All}
use Rattle.std.proofs.lemmas.Bool.{false≢true, cond-true, cond-false, cases_Bool, cases_eq, eq-eqb, ne_eqb}
use Rattle.std.proofs.lemmas.List.{append_assoc, append-nil, length-append}
use Rattle.std.proofs.lemmas.Option.{slice_get_within}
use Rattle.abt_net.specs.declared.conn.Conn.{Conn}
use Rattle.abt_net.specs.Topology.{Topology, IsWithinRules, conn_at}
use Rattle.abt_facts.specs.declared.fact.Fact.{Fact}
use Rattle.abt_facts.specs.declared.fact.Fact.TheVariants.{Turned as FactTurned}
use Rattle.abt_facts.specs.Sent.{answer_is_at, was_turned, was_passed, was_back, was_shut}
use Rattle.abt_model.specs.declared.event.Event.{Event}
use Rattle.abt_model.specs.declared.event.Event.TheVariants.{Arrive, Request, Turn, Answer, Capacity}
use Rattle.abt_model.specs.declared.outcome.Cause.TheVariants.{NotSent}
use Rattle.abt_model.specs.declared.outcome.Outcome.TheVariants.{Turned, NotEnabled}
use Rattle.abt_model.specs.Events.{AsksRate}
use Rattle.abt_model.specs.Outcomes.{conn_of, outcome_of, facts_added}
use Rattle.abt_model.specs.Past.{Past, facts_of}
use Rattle.abt_model.proofs.Chain.{turned_passed}
use Rattle.abt_model.proofs.Lawful.{route_of}
use Rattle.abt_model.proofs.Served.{conn_within}
use Rattle.abt_model.proofs.Steps.{is_hop_tells}
use Rattle.abt_model.proofs.Worlds.{conn_cases, cases_option, outcome_of-known, lawful_at, facts_of-own}
use Rattle.abt_model.specs.PortTable.{hop_visited}
use Rattle.abt_model.specs.declared.entry.SourceEntry.{SourceEntry}
use Rattle.abt_weave.specs.Projections.{Step, Visit, reply_of, past_of, visit, step_at, steps_on, entry_made, entry_at, entries_on}
use Rattle.abt_weave.specs.Stuck.{RunJournals, port_journal, source_journal, next_step, step_next, AreTurns, IsBeginning, StandsStill}
use Rattle.abt_weave.proofs.Turns.{steps_turn, entries_turn, steps_turns, entries_turns}
use Rattle.abt_weave.proofs.Growth.{entries_other, entries_none, steps_none, steps_other}
use Rattle.abt_weave.proofs.Places.{less_if, step_made, entries_made}
use Rattle.abt_weave.proofs.PortEvents.{IsVisit, visit_cases, visit_is, has_reply, reply_enabled, some_same}
use Rattle.abt_weave.proofs.PortLooks.{first_hop}
use Rattle.abt_weave.proofs.Candidates.{and_both}
use Rattle.abt_weave.proofs.AgainAt.{AgainAt, IsRun}
use Rattle.abt_weave.proofs.Alone.{capped_by}
use Rattle.std.proofs.lemmas.List.Elements.{All-cons}
use Rattle.abt_weave.proofs.Prefixes.{get_whole, begins_next, get_last}
use Rattle.abt_weave.proofs.Replays.{no_visit, past_lawful}
use Rattle.abt_weave.proofs.SentBelow.{IsBelow}

-- events that are beginnings of the journals, as far as the net goes
pub record AreBegun (net : Topology) (js : RunJournals) (events : List Event) : Type 0 where
  pub ports : (p : ℕ) → p < length net.capacities → IsBeginning (steps_on net p events) (port_journal js p)
  pub conns : (c : ℕ) → c < length net.conns → IsBeginning (entries_on net c events) (source_journal js c)

shorter : {A : Type 0} → (xs ys zs : List A) → IsBeginning (xs ++ ys) zs → IsBeginning xs zs
shorter xs ys zs begins = (ys ++ begins.0, begins.1 ∙ append_assoc xs ys begins.0)

pub begun_before : (net : Topology) (js : RunJournals) (event : Event) (earlier : List Event) → AreBegun net js (event ∷ earlier) → AreBegun net js earlier
begun_before net js event earlier begun = record {
  ports = λ p low. shorter (steps_on net p earlier) (step_at p (length (steps_on net p earlier)) (visit net (past_of net earlier) event)) (port_journal js p) (begun.ports p low);
  conns = λ c low. shorter (entries_on net c earlier) (entry_at (conn_of event) c (entry_made net earlier event)) (source_journal js c) (begun.conns c low);
}

-- Events that stand still before journals.
pub record HaveEnded (net : Topology) (js : RunJournals) (ended : List Event) : Type 0 where
  pub rules : IsWithinRules net
  pub rates : All AsksRate ended
  pub stands : StandsStill net js ended

-- how far one beginning of a list goes, by another
pub cases_less : {A : Type 0} → (xs ys : List A) → IsBeginning xs ys → (length xs < length ys) ⊎ (xs ≡ ys)
cases_less xs ys (([], is)) = inr (sym (is ∙ append-nil xs))
cases_less xs ys ((y ∷ rest, is)) = inl (let e = ap (λ l. length l) is ∙ length-append xs (y ∷ rest) in omega (arith, e))

-- the next step and the next entry by the journals
pub step_due : (net : Topology) (js : RunJournals) (event : Event) (earlier : List Event) (v : Visit) → AreBegun net js (event ∷ earlier) → v.port < length net.capacities → visit net (past_of net earlier) event ≡ Some v →
    slice_get (port_journal js v.port) (length (steps_on net v.port earlier)) ≡ Some (step_next net earlier v)
step_due net js event earlier v begun low is =
    get_whole (steps_on net v.port (event ∷ earlier)) (port_journal js v.port) (length (steps_on net v.port earlier)) (step_next net earlier v) (begun.ports v.port low)
    (ap (λ l. slice_get l (length (steps_on net v.port earlier))) (step_made net earlier event v is) ∙ get_last (steps_on net v.port earlier) (step_next net earlier v))

pub entry_due : (net : Topology) (js : RunJournals) (event : Event) (earlier : List Event) (c : ℕ) (x : SourceEntry) → AreBegun net js (event ∷ earlier) → conn_of event ≡ Some c → c < length net.conns → entry_made net earlier event ≡ Some x →
    slice_get (source_journal js c) (length (entries_on net c earlier)) ≡ Some x
entry_due net js event earlier c x begun whose low made =
    get_whole (entries_on net c (event ∷ earlier)) (source_journal js c) (length (entries_on net c earlier)) x (begun.conns c low)
    (ap (λ l. slice_get l (length (entries_on net c earlier))) (entries_made net earlier event c x made whose) ∙ get_last (entries_on net c earlier) x)

-- a list below another stays so by an event whose entries the other has already
port_on : (net : Topology) (js : RunJournals) (ended earlier : List Event) (event : Event) (p : ℕ) → IsBeginning (steps_on net p earlier) (steps_on net p ended) →
    ((v : Visit) → visit net (past_of net earlier) event ≡ Some v → v.port ≡ p → slice_get (steps_on net p ended) (length (steps_on net p earlier)) ≡ Some (step_next net earlier v)) →
    IsBeginning (steps_on net p (event ∷ earlier)) (steps_on net p ended)
port_on net js ended earlier event p begins has = elim (cases_option (visit net (past_of net earlier) event)) [
  | inl none ↦ subst (λ l. IsBeginning l (steps_on net p ended)) (sym (steps_none net earlier event p none)) begins
  | inr some ↦ (elim (cases_eq some.0.port p) [
    | inr differ ↦ subst (λ l. IsBeginning l (steps_on net p ended)) (sym (steps_other net earlier event p some.0 some.1 differ)) begins
    | inl same ↦ (
        let made = subst (λ q. steps_on net q (event ∷ earlier) ≡ steps_on net q earlier ++ record { place = length (steps_on net q earlier); input = some.0.input; reply = some.0.reply } ∷ []) same (step_made net earlier event some.0 some.1) in
        let at = has some.0 some.1 same in
        let at_p : slice_get (steps_on net p ended) (length (steps_on net p earlier)) ≡ Some (record { place = length (steps_on net p earlier); input = some.0.input; reply = some.0.reply }) =
        at ∙ ap (λ q. Some (let s : Step = record { place = length (steps_on net q earlier); input = some.0.input; reply = some.0.reply } in s)) same in
        subst (λ l. IsBeginning l (steps_on net p ended)) (sym made) (begins_next (steps_on net p earlier) (steps_on net p ended) _ begins at_p))
  ])
]

conn_on : (net : Topology) (ended earlier : List Event) (event : Event) (c : ℕ) → IsBeginning (entries_on net c earlier) (entries_on net c ended) →
    ((x : SourceEntry) → entry_made net earlier event ≡ Some x → conn_of event ≡ Some c → slice_get (entries_on net c ended) (length (entries_on net c earlier)) ≡ Some x) →
    IsBeginning (entries_on net c (event ∷ earlier)) (entries_on net c ended)
conn_on net ended earlier event c begins has = elim (conn_cases event c) [
  | inr differ ↦ subst (λ l. IsBeginning l (entries_on net c ended)) (sym (entries_other net earlier event c differ)) begins
  | inl same ↦ (elim (cases_option (entry_made net earlier event)) [
    | inl none ↦ subst (λ l. IsBeginning l (entries_on net c ended)) (sym (entries_none net earlier event c none)) begins
    | inr some ↦ subst (λ l. IsBeginning l (entries_on net c ended)) (sym (entries_made net earlier event c some.0 some.1 same)) (begins_next (entries_on net c earlier) (entries_on net c ended) some.0 begins (has some.0 some.1 same))
  ])
]

-- What a list has where another has ended: the next step of a port, or the port is where it was.
abbrev pub PortHas : Topology → List Event → List Event → Event → Type 0
PortHas net ended earlier event = (v : Visit) → visit net (past_of net earlier) event ≡ Some v → slice_get (steps_on net v.port ended) (length (steps_on net v.port earlier)) ≡ Some (step_next net earlier v)

abbrev pub ConnHas : Topology → List Event → List Event → Event → Type 0
ConnHas net ended earlier event = (c : ℕ) (x : SourceEntry) → conn_of event ≡ Some c → entry_made net earlier event ≡ Some x → c < length net.conns → slice_get (entries_on net c ended) (length (entries_on net c earlier)) ≡ Some x

pub below_on : (net : Topology) (js : RunJournals) (ended earlier : List Event) (event : Event) → IsBelow net earlier ended → PortHas net ended earlier event → ConnHas net ended earlier event → IsBelow net (event ∷ earlier) ended
below_on net js ended earlier event below port conn = record {
  ports = λ p low. port_on net js ended earlier event p (below.ports p low) (λ v is here. subst (λ q. slice_get (steps_on net q ended) (length (steps_on net q earlier)) ≡ Some (step_next net earlier v)) here (port v is));
  conns = λ c low. conn_on net ended earlier event c (below.conns c low)
      (λ x made same. conn c x same made low);
}

-- a port that an event of a connection comes to is one of the net
stop_low : (net : Topology) → IsWithinRules net → (past : Past) (event : Event) (v : Visit) → IsVisit net past event v → v.port < length net.capacities
stop_low net rules past event v parts =
    let enabled = reply_enabled (outcome_of net past event) v.reply parts.reply in
    let reply = has_reply net past event parts.c parts.conn v.input parts.whose parts.known (first_hop net rules parts.c parts.conn parts.known) parts.input enabled in
    let hop = is_hop_tells (length parts.conn.path) (hop_visited event) reply.within in
    subst (λ n. n < length net.capacities) parts.port ((conn_within net rules parts.c parts.conn parts.known).in_net (hop_visited event - 1) 0 (omega (arith, hop.0, hop.1)))

-- a port that an event comes to is one of the net
pub visit_low : (net : Topology) → IsWithinRules net → (past : Past) (event : Event) (v : Visit) → visit net past event ≡ Some v → v.port < length net.capacities
visit_low net rules past event v is = elim (visit_cases net past event v is) [
  | inl parts ↦ stop_low net rules past event v parts
  | inr alone ↦ (capped_by net past v.port alone.capacity v.reply (ap (λ e. reply_of (outcome_of net past e)) (sym alone.event_is) ∙ alone.reply)).0
]

-- what stands in the way of an end: an event that fits
pub fits_again : (net : Topology) (js : RunJournals) (ended earlier : List Event) (event : Event) (v : Visit) → HaveEnded net js ended → AreBegun net js (event ∷ earlier) → AgainAt net ended earlier event v → visit net (past_of net earlier) event ≡ Some v →
    steps_on net v.port earlier ≡ steps_on net v.port ended → ((c : ℕ) (x : SourceEntry) → conn_of event ≡ Some c → entry_made net earlier event ≡ Some x → entries_on net c earlier ≡ entries_on net c ended) → ⊥
fits_again net js ended earlier event v end begun at is same beside =
    let more = at.turns ++ ended in
    let low = visit_low net end.rules (past_of net earlier) event v is in
    let steps : steps_on net v.port earlier ≡ steps_on net v.port more = same ∙ sym (steps_turns net ended at.turns at.all v.port) in
    let due = step_due net js event earlier v begun low is in
    let next : next_step net js more v.port ≡ Some (step_next net more v) =
    ap (λ (l : List Step). slice_get (port_journal js v.port) (length l)) (sym steps) ∙ due
    ∙ ap (λ (l : List Step). Some (let s : Step = record { place = length l; input = v.input; reply = v.reply } in s)) steps in
    end.stands.still at.turns at.all event (record {
      falls = inl (λ none. (let clash = sym none ∙ at.again.visits in cc));
      step = λ w also.
          (let here : v ≡ w = some_same (sym at.again.visits ∙ also) in
          subst (λ (u : Visit). next_step net js more u.port ≡ Some (step_next net more u)) here next);
      entry = λ c x whose also.
          (let made = sym at.again.beside ∙ also in
          let parts = visit_is net (past_of net earlier) event v c whose is in
          let c_low = subst (λ d. d < length net.conns) (some_same (sym parts.whose ∙ whose)) (slice_get_within net.conns parts.c parts.conn parts.known) in
          ap (λ (l : List SourceEntry). slice_get (source_journal js c) (length l)) (entries_turns net ended at.turns at.all c ∙ sym (beside c x whose made))
          ∙ entry_due net js event earlier c x begun whose c_low made);
    })

pub run_of : (net : Topology) (js : RunJournals) (ended : List Event) → HaveEnded net js ended → IsRun net ended
run_of net js ended end = record { rules = end.rules; rates = end.rates }
