-- What waits goes on to wait, where an event is of its own connection and comes to no hop beside its own: such an event sends it nothing.
use Rattle.std.proofs.Common.{◌≡◌, ◌≢◌, ℕ, ◌+◌, ◌-◌, ◌<◌, ◌≤◌, inl, inr, refl, ap, Bool, true, false, List, ◌∷◌, ◌++◌, length, ◌∙◌, sym, subst, None, Some, arith}
use Rattle.std.specs.Prelude.{◌==◌, ◌&&◌, nat_lt, if◌then◌else◌, slice_index, All}
use Rattle.std.proofs.lemmas.Bool.{cases_Bool, ne_eqb}
use Rattle.abt_net.specs.declared.conn.Conn.{Conn}
use Rattle.abt_net.specs.Topology.{Topology, IsWithinRules, conn_at}
use Rattle.abt_model.specs.declared.event.Event.{Event}
use Rattle.abt_model.specs.declared.event.Event.TheVariants.{Arrive, Request, Answer}
use Rattle.abt_model.specs.Events.{AsksRate}
use Rattle.abt_model.specs.Outcomes.{conn_of, outcome_of}
use Rattle.abt_model.specs.PortTable.{hop_visited}
use Rattle.abt_model.proofs.Worlds.{lawful_at}
use Rattle.abt_model.specs.declared.entry.SourceEntry.{SourceEntry}
use Rattle.abt_model.specs.declared.entry.SourceEntry.TheVariants.{Sent}
use Rattle.abt_weave.specs.Projections.{is_enabled, place_at_first, past_of, visit, steps_on, entry_made, entry_at, entries_on}
use Rattle.abt_weave.specs.Stuck.{RunJournals, AreTurns, IsBeginning, PortMismatches, SourceMismatches}
use Rattle.abt_weave.proofs.Turns.{steps_turns, entries_turns}
use Rattle.abt_weave.specs.Waking.{AreNear}
use Rattle.abt_weave.proofs.Again.{hop_one, own_repeats}
use Rattle.abt_weave.proofs.AgainAt.{turns_ask, ArrivesAlone, sent_again}
use Rattle.abt_weave.proofs.Alike.{AreRuns}
use Rattle.abt_weave.proofs.AllBelow.{conn_there}
use Rattle.abt_weave.proofs.Asks.{terms_below}
use Rattle.abt_weave.proofs.Growth.{entries_none}
use Rattle.abt_weave.proofs.MismatchAgain.{mismatch_again}
use Rattle.abt_weave.proofs.Numbers.{below_if, below_else}
use Rattle.abt_weave.proofs.OwnEvents.{own_here, made_own}
use Rattle.abt_weave.proofs.PortEvents.{visit_is, known_at, some_same}
use Rattle.abt_weave.proofs.Prefixes.{begins_itself, begins_more}
use Rattle.abt_weave.proofs.Replays.{past_lawful}
use Rattle.abt_weave.proofs.SentBelow.{IsHopOf, AreBegunAt, located}
use Rattle.abt_weave.proofs.Unmoved.{steps_still, source_same}
use Rattle.abt_weave.proofs.VisitAgain.{IsSentBelow}

-- The last event is of a connection, and comes to no hop beside this one.
pub record IsFar (net : Topology) (earlier : List Event) (last : Event) (c hop : ℕ) : Type 0 where
  pub runs : AreRuns net (last ∷ earlier) earlier
  pub own : conn_of last ≡ Some c
  pub far : AreNear hop (hop_visited last) → ⊥

-- then it comes to no other port of the path than that of its own hop
steps_apart : (net : Topology) (earlier : List Event) (last : Event) (c : ℕ) (conn : Conn) (j : ℕ) → conn_of last ≡ Some c → IsHopOf net c conn j → j ≢ hop_visited last →
    steps_on net (slice_index conn.path (j - 1)) (last ∷ earlier) ≡ steps_on net (slice_index conn.path (j - 1)) earlier
steps_apart net earlier last c conn j own its differ =
    steps_still net earlier last (slice_index conn.path (j - 1)) (λ v is here.
    (let past = past_of net earlier in
    let parts = visit_is net past last v c own is in
    let same : parts.conn ≡ conn = some_same (sym (known_at net past c last v parts own) ∙ its.known) in
    differ (sym (located net c conn j its past last v parts here (ap (λ (k : Conn). k.vc) same)).1)))

begins_same : {A : Type 0} → (xs ys : List A) → xs ≡ ys → IsBeginning xs ys
begins_same xs ys same = subst (λ l. IsBeginning xs l) same (begins_itself xs)

begun_apart : (net : Topology) (earlier turns : List Event) (last : Event) (c : ℕ) (conn : Conn) (j : ℕ) → AreTurns net (last ∷ earlier) turns → conn_of last ≡ Some c → IsHopOf net c conn j → j ≢ hop_visited last →
    AreBegunAt net conn j (turns ++ last ∷ earlier) earlier
begun_apart net earlier turns last c conn j all own its differ =
    let p = slice_index conn.path (j - 1) in
    begins_same (steps_on net p (turns ++ last ∷ earlier)) (steps_on net p earlier) (steps_turns net (last ∷ earlier) turns all p ∙ steps_apart net earlier last c conn j own its differ)

-- what comes to a later hop than the first stands in no source's journal
sent_by : (b : Bool) (n : ℕ) (first : Bool) → first ≡ false → (if b && first then Some (Sent n) else None) ≡ None
sent_by true n first off = ap (λ x. if x then Some (Sent n) else None) off
sent_by false n first off = refl

too_low : {A : Type 0} → (h : ℕ) → h ≤ 1 → 2 ≤ h → A
too_low h low high = absurd (omega (arith, low, high))

later_hop : (net : Topology) (earlier : List Event) (event : Event) → 2 ≤ hop_visited event → entry_made net earlier event ≡ None
later_hop net earlier (Request c j seq) high =
    sent_by (is_enabled (outcome_of net (past_of net earlier) (Request c j seq))) (place_at_first net earlier (Request c j seq)) (j == 1) (ne_eqb j 1 (λ e. too_low j (omega (arith, e)) high))
later_hop net earlier (Answer c j seq granted) high = refl
later_hop net earlier (Arrive c cell at) high = too_low 1 (omega arith) high
later_hop net earlier other high = too_low 0 (omega arith) high

entries_apart : (net : Topology) (earlier : List Event) (last : Event) (c : ℕ) → 2 ≤ hop_visited last → entries_on net c (last ∷ earlier) ≡ entries_on net c earlier
entries_apart net earlier last c high = entries_none net earlier last c (later_hop net earlier last high)

-- what isn't beside the source or the first hop comes to a later hop
far_high : (hop h : ℕ) → hop ≤ 1 → (AreNear hop h → ⊥) → 2 ≤ h
far_high hop h low far = elim (cases_Bool (nat_lt (hop + 1) h)) [
  | inl less ↦ (let high = below_if (hop + 1) h less in omega (arith, high))
  | inr more ↦ (let near = below_else (hop + 1) h more in absurd (far (omega (arith, low), near)))
]

-- Such an event leaves what can send to the hop as it was.
far_below : (net : Topology) (earlier turns : List Event) (last : Event) (c hop : ℕ) (conn : Conn) → IsFar net earlier last c hop → AreTurns net (last ∷ earlier) turns → conn_at net c ≡ Some conn → IsSentBelow net (turns ++ last ∷ earlier) earlier c hop
far_below net earlier turns last c hop conn it all known =
    let later = last ∷ earlier in
    let before = turns ++ later in
    let rates = turns_ask net later turns all it.runs.first in
    let entries = entries_turns net later turns all c in
    record {
      ports = λ k j its near. begun_apart net earlier turns last c k j all it.own its (λ e. it.far (subst (λ n. AreNear hop n) e near));
      source = λ one. begins_same (entries_on net c before) (entries_on net c earlier) (entries ∙ entries_apart net earlier last c (far_high hop (hop_visited last) (omega (arith, one)) it.far));
      terms = λ s was also.
          (let grown : IsBeginning (entries_on net c earlier) (entries_on net c before) = subst (λ l. IsBeginning (entries_on net c earlier) l) (sym entries) (begins_more (entries_on net c earlier) (entry_at (conn_of last) c (entry_made net earlier last))) in
          let terms = terms_below net c s conn earlier before (lawful_at net (past_of net before) (past_lawful net before rates) c conn known) grown also in
          (sym terms.0, sym terms.1));
    }

-- a cell that comes to the first hop
arrives_first : (net : Topology) (less more : List Event) (event : Event) (c : ℕ) → conn_of event ≡ Some c → (hop_visited event ≤ 1 → entries_on net c less ≡ entries_on net c more) → ArrivesAlone net less more event
arrives_first net less more (Arrive d cell at) c whose same = subst (λ n. entries_on net n less ≡ entries_on net n more) (sym (some_same whose)) (let low : 1 ≤ 1 = omega arith in same low)
arrives_first net less more other c whose same = tt

-- What comes to a port after such an event came before it.
pub far_back : (net : Topology) (js : RunJournals) (earlier : List Event) (last : Event) (p : ℕ) → steps_on net p (last ∷ earlier) ≡ steps_on net p earlier → (m : PortMismatches net js (last ∷ earlier) p) → (c : ℕ) → conn_of m.event ≡ Some c →
    IsFar net earlier last c (hop_visited m.event) → PortMismatches net js earlier p
far_back net js earlier last p steps m c whose it =
    let later = last ∷ earlier in
    let event = m.event in
    let before = m.turns ++ later in
    let runs : AreRuns net before earlier = record { rules = it.runs.rules; first = turns_ask net later m.turns m.turned it.runs.first; second = it.runs.second } in
    let parts = visit_is net (past_of net before) event m.visits c whose m.comes in
    let below : (d : ℕ) → conn_of event ≡ Some d → IsSentBelow net before earlier d (hop_visited event) =
    λ d also. subst (λ n. IsSentBelow net before earlier n (hop_visited event)) (some_same (sym whose ∙ also)) (far_below net earlier m.turns last c (hop_visited event) parts.conn it m.turned (known_at net (past_of net before) c event m.visits parts whose)) in
    let level : steps_on net p before ≡ steps_on net p earlier = steps_turns net later m.turns m.turned p ∙ steps in
    let still : hop_visited event ≤ 1 → entries_on net c later ≡ entries_on net c earlier = λ low. entries_apart net earlier last c (far_high (hop_visited event) (hop_visited last) low it.far) in
    let at = sent_again net earlier before runs event m.visits m.comes below (subst (λ q. steps_on net q before ≡ steps_on net q earlier) (sym m.here) level)
    (arrives_first net before earlier event c whose (λ low. entries_turns net later m.turns m.turned c ∙ still low)) in
    (mismatch_again net js later earlier p m at steps (λ d x also made. subst (λ n. entries_on net n later ≡ entries_on net n earlier) (some_same (sym whose ∙ also)) (still (first_made x made)))).mismatch
  where
    first_made : (x : SourceEntry) → entry_made net (m.turns ++ last ∷ earlier) m.event ≡ Some x → hop_visited m.event ≤ 1
    first_made x made = elim (cases_Bool (nat_lt 1 (hop_visited m.event))) [
      | inl less ↦ (let clash : None ≡ Some x = sym (later_hop net (m.turns ++ last ∷ earlier) m.event (let high = below_if 1 (hop_visited m.event) less in omega (arith, high))) ∙ made in absurd (cc))
      | inr more ↦ below_else 1 (hop_visited m.event) more
    ]

-- What a source does after such an event it did before it.
pub source_far : (net : Topology) (js : RunJournals) (earlier : List Event) (last : Event) → AreRuns net (last ∷ earlier) earlier → (c : ℕ) → c < length net.conns → conn_of last ≡ Some c → 2 ≤ hop_visited last →
    SourceMismatches net js (last ∷ earlier) c → SourceMismatches net js earlier c
source_far net js earlier last runs c low own high m =
    let later = last ∷ earlier in
    let before = m.turns ++ later in
    let event = m.event in
    let conn = conn_there net c low in
    let its = made_own (place_at_first net before event) event (outcome_of net (past_of net before) event) event m.outcome m.does in
    let still = entries_apart net earlier last c high in
    let begins = begun_apart net earlier m.turns last c conn.0 1 m.turned own (hop_one net runs.rules c conn.0 conn.1) (λ e. omega (arith, high, e)) in
    source_same net js earlier last c still m
    (own_repeats net runs.rules before earlier c conn.0 begins event m.here conn.1 (own_here its.c c event its.own m.here) its.enabled (entries_turns net later m.turns m.turned c ∙ still))
