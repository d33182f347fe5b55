-- Where events stand still with entries left, no list of events is woven from the journals.
use Rattle.std.proofs.Common.{◌≡◌, ◌≢◌, ℕ, zero, suc, ◌<◌, inl, inr, refl, ap, true, false, List, [], ◌∷◌, ◌++◌, length, reverse, ◌∙◌, sym, subst, Option, None, Some, arith}
use Rattle.std.specs.Prelude.{◌==◌, ◌&&◌, not, nat_lt, slice_get, slice_index, All}
use Rattle.std.proofs.lemmas.Bool.{cond-true, cond-false, cases_Bool}
use Rattle.std.proofs.lemmas.List.{append-nil, length-append}
use Rattle.std.proofs.lemmas.Option.{slice_get_within}
use Rattle.abt_net.specs.declared.conn.Conn.{Conn}
use Rattle.abt_net.specs.Topology.{Topology, IsWithinRules, conn_at}
use Rattle.abt_model.specs.declared.event.Event.{Event}
use Rattle.abt_model.specs.declared.event.Event.TheVariants.{Arrive, Request}
use Rattle.abt_model.specs.Events.{AsksRate}
use Rattle.abt_model.specs.Outcomes.{conn_of, outcome_of}
use Rattle.abt_model.proofs.Worlds.{cases_option, others_ask}
use Rattle.abt_journal.specs.declared.entry.Entry.{Entry}
use Rattle.abt_journal.specs.declared.input.PortInput.{PortInput}
use Rattle.abt_model.specs.declared.entry.SourceEntry.{SourceEntry}
use Rattle.abt_model.specs.declared.entry.SourceEntry.TheVariants.{Did, Sent, Arrived as ArrivedAt}
use Rattle.abt_model.specs.declared.journal.SourceJournal.{SourceJournal}
use Rattle.abt_weave.specs.Projections.{Step, Visit, is_enabled, input_of, place_at_first, past_of, visit, steps_on, entry_made, entries_on}
use Rattle.abt_weave.specs.Stuck.{RunJournals, steps_in, entries_in, port_journal, source_journal, step_next, next_entry, IsBeginning, SourceMismatches, PortMismatches}
use Rattle.abt_weave.specs.Woven.{IsWoven}
use Rattle.abt_weave.specs.declared.actor.Actor.{Actor}
use Rattle.abt_weave.specs.declared.actor.Actor.TheVariants.{Source, Port}
use Rattle.abt_weave.specs.declared.actor.Stuck.{Stuck}
use Rattle.abt_weave.proofs.Turns.{steps_turns, entries_turns}
use Rattle.abt_weave.specs.Progress.{IsActorSettled}
use Rattle.abt_weave.specs.Faults.{left_at, left_below, source_left, port_left, all_left, NoneIsWoven}
use Rattle.abt_weave.specs.Candidates.{is_told}
use Rattle.abt_weave.proofs.Again.{own_again}
use Rattle.abt_weave.proofs.Ends.{own_or_visit}
use Rattle.abt_weave.proofs.Leavings.{all_reversed}
use Rattle.abt_weave.proofs.AgainAt.{again_at, ArrivesAlone}
use Rattle.abt_weave.proofs.NoneWoven.{AreBegun, begun_before, HaveEnded, cases_less, step_due, entry_due, PortHas, ConnHas, below_on, visit_low, fits_again, run_of}
use Rattle.abt_weave.proofs.OwnEvents.{own_here, made_own, own_fits}
use Rattle.abt_weave.specs.OneFault.{AreJournalsOf}
use Rattle.abt_weave.proofs.Places.{less_if, Names, IsFirstStep, named_now, named_low, step_named}
use Rattle.abt_cell.specs.Channel.{Channel}
use Rattle.abt_facts.specs.declared.fact.Fact.{Fact}
use Rattle.abt_model.specs.Past.{facts_of}
use Rattle.abt_weave.specs.Comes.{entry_beside}
use Rattle.abt_weave.proofs.Candidates.{cond_some}
use Rattle.abt_weave.proofs.PortEvents.{IsVisit, visit_cases, visit_is, made_beside, reply_enabled, some_same}
use Rattle.abt_weave.proofs.Prefixes.{get_beginning}
use Rattle.abt_weave.proofs.SentBelow.{IsBelow}

-- a list that goes further has the next step, and the next entry
step_had : (net : Topology) (js : RunJournals) (ended earlier : List Event) (event : Event) (v : Visit) → HaveEnded net js ended → AreBegun net js (event ∷ earlier) → visit net (past_of net earlier) event ≡ Some v →
    length (steps_on net v.port earlier) < length (steps_on net v.port ended) → slice_get (steps_on net v.port ended) (length (steps_on net v.port earlier)) ≡ Some (step_next net earlier v)
step_had net js ended earlier event v end begun is less =
    get_beginning (steps_on net v.port ended) (port_journal js v.port) (length (steps_on net v.port earlier)) (step_next net earlier v) (end.stands.placed.ports v.port) less
    (step_due net js event earlier v begun (visit_low net end.rules (past_of net earlier) event v is) is)

entry_had : (net : Topology) (js : RunJournals) (ended earlier : List Event) (event : Event) (c : ℕ) (x : SourceEntry) → HaveEnded net js ended → AreBegun net js (event ∷ earlier) → conn_of event ≡ Some c → c < length net.conns → entry_made net earlier event ≡ Some x →
    length (entries_on net c earlier) < length (entries_on net c ended) → slice_get (entries_on net c ended) (length (entries_on net c earlier)) ≡ Some x
entry_had net js ended earlier event c x end begun whose low made less =
    get_beginning (entries_on net c ended) (source_journal js c) (length (entries_on net c earlier)) x (end.stands.placed.conns c) less
    (entry_due net js event earlier c x begun whose low made)

pub conn_there : (net : Topology) (c : ℕ) → c < length net.conns → (conn : Conn) × (conn_at net c ≡ Some conn)
conn_there net c low = elim (cases_option (conn_at net c)) [
  | inl none ↦ absurd (some_there net.conns c low none)
  | inr some ↦ some
]
  where
    some_there : (conns : List Conn) (i : ℕ) → i < length conns → slice_get conns i ≡ None → ⊥
    some_there [] i low none = omega (arith, low)
    some_there (k ∷ conns) zero low none = cc
    some_there (k ∷ conns) (suc i) low none = some_there conns i (omega (arith, low)) none

-- what a source did, where no port has a part in it
own_has : (net : Topology) (js : RunJournals) (ended earlier : List Event) (event : Event) → HaveEnded net js ended → All AsksRate earlier → AreBegun net js (event ∷ earlier) → IsBelow net earlier ended → visit net (past_of net earlier) event ≡ None →
    ConnHas net ended earlier event
own_has net js ended earlier event end rates begun below nowhere c x whose made low =
    elim (cases_less (entries_on net c earlier) (entries_on net c ended) (below.conns c low)) [
      | inl less ↦ entry_had net js ended earlier event c x end begun whose low made less
      | inr same ↦ absurd (
          let past = past_of net earlier in
          let did = own_or_visit net end.rules earlier event x nowhere made in
          let made_did = made ∙ ap (λ (y : SourceEntry). Some y) did.1 in
          let its = made_own (place_at_first net earlier event) event (outcome_of net past event) event did.0 made_did in
          let conn = conn_there net c low in
          let mine = own_here its.c c event its.own whose in
          let again = own_again net end.rules earlier ended below c conn.0 event whose conn.1 mine its.enabled same in
          let told : outcome_of net (past_of net ended) event ≡ did.0 = sym again ∙ sym its.outcome_is in
          let enabled : is_told event && not (is_enabled (outcome_of net (past_of net ended) event)) ≡ false = ap (λ o. is_told event && not (is_enabled o)) (sym again) ∙ its.enabled in
          let due = entry_due net js event earlier c x begun whose low made in
          let next : next_entry net js ended c ≡ Some (Did event did.0) = ap (λ (l : List SourceEntry). slice_get (source_journal js c) (length l)) (sym same) ∙ due ∙ ap (λ (y : SourceEntry). Some y) did.1 in
          end.stands.still [] tt event (own_fits net js ended c event did.0 mine told enabled next))
    ]

-- what stands in a source's journal is of a connection
made_visit : (net : Topology) (earlier : List Event) (event : Event) (v : Visit) (x : SourceEntry) → visit net (past_of net earlier) event ≡ Some v → entry_made net earlier event ≡ Some x → IsVisit net (past_of net earlier) event v
made_visit net earlier event v x is made = elim (visit_cases net (past_of net earlier) event v is) [
  | inl parts ↦ parts
  | inr alone ↦ (let clash : None ≡ Some x = sym (ap (entry_made net earlier) alone.event_is) ∙ made in absurd (cc))
]

-- an entry that stands beside a step names its place
pub visit_entry : (net : Topology) → IsWithinRules net → (earlier : List Event) (event : Event) (v : Visit) (x : SourceEntry) → visit net (past_of net earlier) event ≡ Some v → entry_made net earlier event ≡ Some x → Names x (length (steps_on net v.port earlier))
visit_entry net rules earlier event v x is made =
    let parts = made_visit net earlier event v x is made in
    let beside = made_beside net earlier event v.port (length (steps_on net v.port earlier)) parts.c parts.conn (outcome_of net (past_of net earlier) event) v.input (facts_of parts.c (past_of net earlier)) parts.whose parts.known parts.port refl parts.input
    (reply_enabled (outcome_of net (past_of net earlier) event) v.reply parts.reply) in
    names_beside (length (steps_on net v.port earlier)) event x (sym beside ∙ made)
  where
    names_beside : (place : ℕ) (event : Event) (x : SourceEntry) → entry_beside place event ≡ Some x → Names x place
    names_beside place (Request c hop seq) x h = (let both = cond_some (hop == 1) (Some (Sent place)) x h in subst (λ y. Names y place) (some_same both.1) refl)
    names_beside place (Arrive c cell at) x h = subst (λ y. Names y place) (some_same h) refl
    names_beside place other x h = absurd (cc)

-- the step beside which an entry stands is one of its connection at its first port
first_step : (vc : Channel) (facts : List Fact) (event : Event) (input : PortInput) → input_of vc facts event ≡ Some input → (place : ℕ) (x : SourceEntry) → entry_beside place event ≡ Some x → IsFirstStep vc input
first_step vc facts (Request c hop seq) input h place x beside = subst (IsFirstStep vc) (some_same h) refl
first_step vc facts (Arrive c cell at) input h place x beside = subst (IsFirstStep vc) (some_same h) refl
first_step vc facts other input h place x beside = absurd (cc)

step_first : (net : Topology) (earlier : List Event) (event : Event) (v : Visit) (x : SourceEntry) → (parts : IsVisit net (past_of net earlier) event v) → entry_made net earlier event ≡ Some x → IsFirstStep parts.conn.vc v.input
step_first net earlier event v x parts made =
    let beside = made_beside net earlier event v.port (length (steps_on net v.port earlier)) parts.c parts.conn (outcome_of net (past_of net earlier) event) v.input (facts_of parts.c (past_of net earlier)) parts.whose parts.known parts.port refl parts.input
    (reply_enabled (outcome_of net (past_of net earlier) event) v.reply parts.reply) in
    first_step parts.conn.vc (facts_of parts.c (past_of net earlier)) event v.input parts.input (length (steps_on net v.port earlier)) x (sym beside ∙ made)

-- a cell that comes leaves an entry
pub silent : (net : Topology) (earlier ended : List Event) (event : Event) (v : Visit) → visit net (past_of net earlier) event ≡ Some v → entry_made net earlier event ≡ None → ArrivesAlone net earlier ended event
silent net earlier ended (Arrive c cell at) v is none =
    let event = Arrive c cell at in
    let parts = visit_is net (past_of net earlier) event v c refl is in
    let enabled = reply_enabled (outcome_of net (past_of net earlier) event) v.reply parts.reply in
    let made : entry_made net earlier event ≡ Some (ArrivedAt cell (place_at_first net earlier event)) = cond-true _ _ _ enabled in
    let clash = sym none ∙ made in absurd (cc)
silent net earlier ended other v is none = tt

pub alone_if : (net : Topology) (earlier ended : List Event) (event : Event) (c : ℕ) → conn_of event ≡ Some c → entries_on net c earlier ≡ entries_on net c ended → ArrivesAlone net earlier ended event
alone_if net earlier ended (Arrive d cell at) c whose same = subst (λ n. entries_on net n earlier ≡ entries_on net n ended) (some_same (sym whose)) same
alone_if net earlier ended other c whose same = tt

-- what comes to a port, by that port
port_has : (net : Topology) (js : RunJournals) (ended earlier : List Event) (event : Event) (v : Visit) → HaveEnded net js ended → AreBegun net js (event ∷ earlier) →
    visit net (past_of net earlier) event ≡ Some v → length (steps_on net v.port earlier) < length (steps_on net v.port ended) → PortHas net ended earlier event
port_has net js ended earlier event v end begun is less w also =
    let here : v ≡ w = some_same (sym is ∙ also) in
    subst (λ (u : Visit). slice_get (steps_on net u.port ended) (length (steps_on net u.port earlier)) ≡ Some (step_next net earlier u)) here (step_had net js ended earlier event v end begun is less)

-- what comes to a port alone, by that port
alone_has : (net : Topology) (js : RunJournals) (ended earlier : List Event) (event : Event) (v : Visit) → HaveEnded net js ended → All AsksRate earlier → AreBegun net js (event ∷ earlier) → IsBelow net earlier ended →
    visit net (past_of net earlier) event ≡ Some v → entry_made net earlier event ≡ None → IsBelow net (event ∷ earlier) ended
alone_has net js ended earlier event v end rates begun below is none =
    let p = v.port in
    elim (cases_less (steps_on net p earlier) (steps_on net p ended) (below.ports p (visit_low net end.rules (past_of net earlier) event v is))) [
      | inl less ↦ below_on net js ended earlier event below (port_has net js ended earlier event v end begun is less) (λ d x whose made low. (let clash = sym none ∙ made in absurd (cc)))
      | inr same ↦ absurd (fits_again net js ended earlier event v end begun
          (again_at net ended earlier (run_of net js ended end) rates below event v is same (silent net earlier ended event v is none)) is same (λ d x whose made. (let clash = sym none ∙ made in absurd (cc))))
    ]

-- what comes to a port of a connection, by the port and by the source beside it
beside_has : (net : Topology) (js : RunJournals) (ended earlier : List Event) (event : Event) (v : Visit) (x : SourceEntry) → HaveEnded net js ended → All AsksRate earlier → AreBegun net js (event ∷ earlier) → IsBelow net earlier ended →
    visit net (past_of net earlier) event ≡ Some v → entry_made net earlier event ≡ Some x → IsBelow net (event ∷ earlier) ended
beside_has net js ended earlier event v x end rates begun below is made =
    let past = past_of net earlier in
    let p = v.port in
    let parts = made_visit net earlier event v x is made in
    let c = parts.c in
    let conn = parts.conn in
    let c_low = slice_get_within net.conns c conn parts.known in
    let p_low = visit_low net end.rules past event v is in
    let begins_p = below.ports p p_low in
    let begins_c = below.conns c c_low in
    let on : length (steps_on net p earlier) < length (steps_on net p ended) → ConnHas net ended earlier event → IsBelow net (event ∷ earlier) ended
    = λ less has. below_on net js ended earlier event below (port_has net js ended earlier event v end begun is less) has in
    let names = visit_entry net end.rules earlier event v x is made in
    let now = named_now net end.rules earlier c conn event x (length (steps_on net p earlier)) parts.known parts.whose made names in
    let first : p ≡ slice_index conn.path 0 = (let same : v ≡ now.1.v = some_same (sym is ∙ now.1.visits) in ap (λ (w : Visit). w.port) same ∙ now.1.first) in
    elim (cases_less (steps_on net p earlier) (steps_on net p ended) begins_p) [
      | inl less ↦ (elim (cases_less (entries_on net c earlier) (entries_on net c ended) begins_c) [
        | inl fewer ↦ on less (λ d y whose also low. (let here : c ≡ d = some_same (sym parts.whose ∙ whose) in
            entry_had net js ended earlier event d y end begun whose low also (subst (λ n. length (entries_on net n earlier) < length (entries_on net n ended)) here fewer)))
        | inr same ↦ absurd (
            let had = step_had net js ended earlier event v end begun is less in
            let here : slice_get (steps_on net (slice_index conn.path 0) ended) (length (steps_on net p earlier)) ≡ Some (step_next net earlier v) = subst (λ q. slice_get (steps_on net q ended) (length (steps_on net p earlier)) ≡ Some (step_next net earlier v)) first had in
            let named = step_named net end.rules c conn parts.known ended (length (steps_on net p earlier)) (step_next net earlier v) here (step_first net earlier event v x parts made) in
            let before = named_low net end.rules c conn parts.known earlier named.i (length (steps_on net p earlier)) named.entry (ap (λ l. slice_get l named.i) same ∙ named.at) named.names in
            let there : length (steps_on net (slice_index conn.path 0) earlier) ≡ length (steps_on net p earlier) = ap (λ q. length (steps_on net q earlier)) (sym first) in
            omega (arith, before, there))
      ])
      | inr same ↦ (elim (cases_less (entries_on net c earlier) (entries_on net c ended) begins_c) [
        | inl fewer ↦ absurd (
            let had = entry_had net js ended earlier event c x end begun parts.whose c_low made fewer in
            let before = named_low net end.rules c conn parts.known ended (length (entries_on net c earlier)) (length (steps_on net p earlier)) x had names in
            let there : length (steps_on net (slice_index conn.path 0) ended) ≡ length (steps_on net p earlier) = ap (λ q. length (steps_on net q ended)) (sym first) ∙ ap (λ l. length l) (sym same) in
            omega (arith, before, there))
        | inr level ↦ absurd (fits_again net js ended earlier event v end begun (again_at net ended earlier (run_of net js ended end) rates below event v is same (alone_if net earlier ended event c parts.whose level)) is same
            (λ d y whose also. subst (λ n. entries_on net n earlier ≡ entries_on net n ended) (some_same (sym parts.whose ∙ whose)) level))
      ])
    ]

both_have : (net : Topology) (js : RunJournals) (ended earlier : List Event) (event : Event) (v : Visit) → HaveEnded net js ended → All AsksRate earlier → AreBegun net js (event ∷ earlier) → IsBelow net earlier ended →
    visit net (past_of net earlier) event ≡ Some v → IsBelow net (event ∷ earlier) ended
both_have net js ended earlier event v end rates begun below is = elim (cases_option (entry_made net earlier event)) [
  | inl none ↦ alone_has net js ended earlier event v end rates begun below is none
  | inr some ↦ beside_has net js ended earlier event v some.0 end rates begun below is some.1
]

-- all events that are beginnings of the journals are below those that have ended
pub all_below : (net : Topology) (js : RunJournals) (ended : List Event) → HaveEnded net js ended → (events : List Event) → All AsksRate events → AreBegun net js events → IsBelow net events ended
all_below net js ended end [] rates begun = record { ports = λ p low. (steps_on net p ended, refl); conns = λ c low. (entries_on net c ended, refl) }
all_below net js ended end (event ∷ earlier) rates begun =
    let before = others_ask event earlier rates in
    let below = all_below net js ended end earlier before (begun_before net js event earlier begun) in
    elim (cases_option (visit net (past_of net earlier) event)) [
      | inr some ↦ both_have net js ended earlier event some.0 end before begun below some.1
      | inl none ↦ below_on net js ended earlier event below (λ v is. (let clash = sym none ∙ is in absurd (cc))) (own_has net js ended earlier event end before begun below none)
    ]

-- a journal of the net
journal_there : {A : Type 0} → (xs : List A) (i : ℕ) → i < length xs → (x : A) × (slice_get xs i ≡ Some x)
journal_there [] i low = absurd (omega (arith, low))
journal_there (x ∷ xs) zero low = (x, refl)
journal_there (x ∷ xs) (suc i) low = journal_there xs i (omega (arith, low))

same_begins : {A : Type 0} → (xs ys : List A) → xs ≡ ys → IsBeginning xs ys
same_begins xs ys same = ([], sym same ∙ sym (append-nil xs))

woven_begun : (net : Topology) (js : RunJournals) → length js.ports ≡ length net.capacities → length js.sources ≡ length net.conns → (events : List Event) → IsWoven net js.ports js.sources events → AreBegun net js (reverse events)
woven_begun net js ports conns events woven = record {
  ports = λ p low.
      (let there = journal_there js.ports p (subst (λ n. p < n) (sym ports) low) in
      same_begins (steps_on net p (reverse events)) (port_journal js p) (woven.ports p there.0 there.1 ∙ sym (ap steps_in there.1)));
  conns = λ c low.
      (let there = journal_there js.sources c (subst (λ n. c < n) (sym conns) low) in
      same_begins (entries_on net c (reverse events)) (source_journal js c) (woven.conns c there.0 there.1 ∙ sym (ap entries_in there.1)));
}

-- a journal that is woven is all placed where events have ended
pub source_whole : (net : Topology) (js : RunJournals) (ended : List Event) → HaveEnded net js ended → length js.ports ≡ length net.capacities → length js.sources ≡ length net.conns → (events : List Event) → All AsksRate events →
    IsWoven net js.ports js.sources events → (c : ℕ) → c < length js.sources → length (entries_on net c ended) < length (source_journal js c) → ⊥
source_whole net js ended end ports conns events rates woven c low left =
    let begun = woven_begun net js ports conns events woven in
    let below = all_below net js ended end (reverse events) (all_reversed AsksRate events rates) begun in
    let in_net = subst (λ n. c < n) conns low in
    let there = journal_there js.sources c low in
    let whole : entries_on net c (reverse events) ≡ source_journal js c = woven.conns c there.0 there.1 ∙ sym (ap entries_in there.1) in
    let begins = below.conns c in_net in
    let e = ap (λ l. length l) begins.1 ∙ length-append (entries_on net c (reverse events)) begins.0 in
    let n = ap (λ l. length l) whole in
    omega (arith, e, n, left)

pub port_whole : (net : Topology) (js : RunJournals) (ended : List Event) → HaveEnded net js ended → length js.ports ≡ length net.capacities → length js.sources ≡ length net.conns → (events : List Event) → All AsksRate events →
    IsWoven net js.ports js.sources events → (p : ℕ) → p < length js.ports → length (steps_on net p ended) < length (port_journal js p) → ⊥
port_whole net js ended end ports conns events rates woven p low left =
    let begun = woven_begun net js ports conns events woven in
    let below = all_below net js ended end (reverse events) (all_reversed AsksRate events rates) begun in
    let in_net = subst (λ n. p < n) ports low in
    let there = journal_there js.ports p low in
    let whole : steps_on net p (reverse events) ≡ port_journal js p = woven.ports p there.0 there.1 ∙ sym (ap steps_in there.1) in
    let begins = below.ports p in_net in
    let e = ap (λ l. length l) begins.1 ∙ length-append (steps_on net p (reverse events)) begins.0 in
    let n = ap (λ l. length l) whole in
    omega (arith, e, n, left)

pub entries_there : (js : RunJournals) (c n : ℕ) (x : SourceEntry) → slice_get (source_journal js c) n ≡ Some x → c < length js.sources
entries_there js c n x h = elim (cases_option (slice_get js.sources c)) [
  | inl none ↦ (let clash = ap (λ (o : Option SourceJournal). slice_get (entries_in o) n) (sym none) ∙ h in absurd (cc))
  | inr some ↦ slice_get_within js.sources c some.0 some.1
]

pub steps_there : (js : RunJournals) (p n : ℕ) (s : Step) → slice_get (port_journal js p) n ≡ Some s → p < length js.ports
steps_there js p n s h = elim (cases_option (slice_get js.ports p)) [
  | inl none ↦ (let clash = ap (λ (o : Option (List Entry)). slice_get (steps_in o) n) (sym none) ∙ h in absurd (cc))
  | inr some ↦ slice_get_within js.ports p some.0 some.1
]

-- an entry that mismatches is left
source_none : (net : Topology) (js : RunJournals) (ended : List Event) (c : ℕ) → HaveEnded net js ended → AreJournalsOf net js → SourceMismatches net js ended c → NoneIsWoven net js
source_none net js ended c end are m events rates woven =
    let place = length (entries_on net c (m.turns ++ ended)) in
    let same = ap (λ (l : List SourceEntry). length l) (entries_turns net ended m.turns m.turned c) in
    let left = slice_get_within (source_journal js c) place (Did m.event m.told) m.next in
    source_whole net js ended end are.ports are.conns events rates woven c (entries_there js c place (Did m.event m.told) m.next) (subst (λ n. n < length (source_journal js c)) same left)

port_none : (net : Topology) (js : RunJournals) (ended : List Event) (p : ℕ) → HaveEnded net js ended → AreJournalsOf net js → PortMismatches net js ended p → NoneIsWoven net js
port_none net js ended p end are m events rates woven =
    let place = length (steps_on net p (m.turns ++ ended)) in
    let same = ap (λ (l : List Step). length l) (steps_turns net ended m.turns m.turned p) in
    let left = slice_get_within (port_journal js p) place m.step m.next in
    port_whole net js ended end are.ports are.conns events rates woven p (steps_there js p place m.step m.next) (subst (λ n. n < length (port_journal js p)) same left)

pub mismatch_none : (net : Topology) (js : RunJournals) (ended : List Event) (actor : Actor) → HaveEnded net js ended → AreJournalsOf net js → IsActorSettled net js ended actor true → NoneIsWoven net js
mismatch_none net js ended (Source c) end are settled = source_none net js ended c end are settled.marks
mismatch_none net js ended (Port p) end are settled = port_none net js ended p end are settled.marks

none_below : (left : ℕ → List Stuck) (n : ℕ) → ((i : ℕ) → i < n → left i ≡ []) → left_below left n ≡ []
none_below left zero none = refl
none_below left (suc n) none = ap (λ l. l ++ left n) (none_below left n (λ i low. none i (omega (arith, low)))) ∙ none n (omega arith)

at_its_end : (actor : Actor) (place entries : ℕ) → (place < entries → ⊥) → left_at actor place entries ≡ []
at_its_end actor place entries end = elim (cases_Bool (nat_lt place entries)) [
  | inl less ↦ absurd (end (less_if place entries less))
  | inr not_less ↦ cond-false _ _ _ not_less
]

pub order_none : (net : Topology) (js : RunJournals) (ended : List Event) (stuck : List Stuck) → HaveEnded net js ended → AreJournalsOf net js → stuck ≡ all_left net js ended → stuck ≢ [] → NoneIsWoven net js
order_none net js ended stuck end are is some events rates woven =
    some (is
    ∙ ap (λ l. l ++ left_below (port_left net js ended) (length js.ports)) (none_below (source_left net js ended) (length js.sources)
    (λ c low. at_its_end (Source c) (length (entries_on net c ended)) (length (source_journal js c)) (source_whole net js ended end are.ports are.conns events rates woven c low)))
    ∙ none_below (port_left net js ended) (length js.ports)
    (λ p low. at_its_end (Port p) (length (steps_on net p ended)) (length (port_journal js p)) (port_whole net js ended end are.ports are.conns events rates woven p low)))
