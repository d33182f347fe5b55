-- Whatever comes to a port comes again, after Turns too, where its port has had the same steps and what can send to it has done no less.
use Rattle.std.proofs.Common.{◌≡◌, ◌≢◌, ℕ, ◌+◌, ◌-◌, ◌<◌, ◌≤◌, inl, inr, refl, ap, Bool, true, false, List, [], ◌∷◌, ◌++◌, length, ◌∙◌, sym, subst, Some, arith}
use Rattle.std.specs.Prelude.{◌&&◌, ◌||◌, not, nat_lt, if◌then◌else◌, slice_index, All}
use Rattle.std.proofs.lemmas.Bool.{false≢true, cond-true, cond-false, cases_Bool, cases_eq, eq-eqb, ne_eqb}
use Rattle.std.proofs.lemmas.List.Elements.{All-cons}
use Rattle.abt_net.specs.declared.conn.Conn.{Conn}
use Rattle.abt_net.specs.Topology.{Topology, IsWithinRules, conn_at}
use Rattle.abt_facts.specs.declared.fact.Fact.{Fact}
use Rattle.abt_facts.specs.declared.fact.Fact.TheVariants.{Turned as FactTurned}
use Rattle.abt_facts.specs.Sent.{answer_is_at, was_turned, was_passed, was_back, was_shut}
use Rattle.abt_model.specs.declared.event.Event.{Event}
use Rattle.abt_model.specs.declared.event.Event.TheVariants.{Arrive, Request, Turn, Answer, Capacity}
use Rattle.abt_model.specs.declared.outcome.Cause.TheVariants.{NotSent}
use Rattle.abt_model.specs.declared.outcome.Outcome.TheVariants.{Turned, NotEnabled}
use Rattle.abt_model.specs.Events.{AsksRate}
use Rattle.abt_model.specs.Outcomes.{conn_of, outcome_of, facts_added}
use Rattle.abt_model.specs.Past.{facts_of}
use Rattle.abt_model.proofs.Chain.{turned_passed}
use Rattle.abt_model.proofs.Lawful.{route_of}
use Rattle.abt_model.proofs.Served.{conn_within}
use Rattle.abt_model.proofs.Steps.{is_hop_tells}
use Rattle.abt_model.proofs.Worlds.{outcome_of-known, lawful_at, facts_of-own}
use Rattle.abt_model.specs.PortTable.{hop_visited}
use Rattle.abt_weave.specs.Projections.{Visit, past_of, visit, steps_on, entries_on}
use Rattle.abt_weave.specs.Stuck.{AreTurns, IsBeginning}
use Rattle.abt_weave.proofs.Turns.{steps_turns, entries_turns}
use Rattle.abt_weave.proofs.Alike.{AreRuns}
use Rattle.abt_weave.proofs.Asks.{asked_below, told_alike}
use Rattle.abt_weave.proofs.Candidates.{and_both}
use Rattle.abt_weave.proofs.Places.{less_if}
use Rattle.abt_weave.proofs.PortEvents.{visit_is, known_at, some_same}
use Rattle.abt_weave.proofs.Prefixes.{begins_itself}
use Rattle.abt_weave.proofs.Replays.{no_visit, past_lawful}
use Rattle.abt_weave.proofs.SentBelow.{IsBelow, IsHopOf, passed_below, back_below, shut_below}
use Rattle.abt_weave.proofs.VisitAgain.{ComesAgain, IsSentBelow, below_sent, came_back, capacity_again, request_again, answer_again, arrival_again}

-- An event comes again, also after Turns.
pub record AgainAt (net : Topology) (ended earlier : List Event) (event : Event) (v : Visit) : Type 0 where
  pub turns : List Event
  pub all : AreTurns net ended turns
  pub again : ComesAgain net earlier (turns ++ ended) event v

-- A list of events over a net, each of whose rates a code can name.
pub record IsRun (net : Topology) (ended : List Event) : Type 0 where
  pub rules : IsWithinRules net
  pub rates : All AsksRate ended

pub turns_ask : (net : Topology) (earlier turns : List Event) → AreTurns net earlier turns → All AsksRate earlier → All AsksRate (turns ++ earlier)
turns_ask net earlier [] all rates = rates
turns_ask net earlier (turn ∷ turns) all rates = All-cons AsksRate turn (turns ++ earlier) (subst AsksRate (sym all.0.is) tt) (turns_ask net earlier turns all.1 rates)

-- Turns behind a list of events send nothing to a port, but to the last
sent_turns : (net : Topology) (less more turns : List Event) → AreTurns net more turns → (c hop : ℕ) → IsSentBelow net less more c hop → IsSentBelow net less (turns ++ more) c hop
sent_turns net less more turns all c hop below =
    let entries = entries_turns net more turns all c in
    record {
      ports = λ conn j its near. subst (λ l. IsBeginning (steps_on net (slice_index conn.path (j - 1)) less) l) (sym (steps_turns net more turns all (slice_index conn.path (j - 1)))) (below.ports conn j its near);
      source = λ one. subst (λ l. IsBeginning (entries_on net c less) l) (sym entries) (below.source one);
      terms = λ s was also.
          (let same = told_alike net (turns ++ more) more c s entries in
          let there = asked_below net c s (turns ++ more) more (subst (λ l. IsBeginning (entries_on net c (turns ++ more)) l) entries (begins_itself (entries_on net c (turns ++ more)))) also in
          let terms = below.terms s was there in
          (same.0 ∙ terms.0, same.1 ∙ terms.1));
    }

-- a yes that was turned is turned already, or can be
record CanTurn (net : Topology) (ended : List Event) (c seq : ℕ) : Type 0 where
  turns : List Event
  all : AreTurns net ended turns
  turned : was_turned (facts_of c (past_of net (turns ++ ended))) seq ≡ true

turn_on : (b : Bool) → b ≡ true → (if not b then NotEnabled NotSent else Turned) ≡ Turned
turn_on true h = refl
turn_on false h = absurd (false≢true h)

can_turn : (net : Topology) (ended earlier : List Event) → AreRuns net earlier ended → (c seq : ℕ) (conn : Conn) → IsSentBelow net earlier ended c (length conn.path) → conn_at net c ≡ Some conn →
    was_turned (facts_of c (past_of net earlier)) seq ≡ true → CanTurn net ended c seq
can_turn net ended earlier runs c seq conn below known turned =
    let past = past_of net ended in
    let facts = facts_of c past in
    elim (cases_Bool (was_turned facts seq)) [
      | inl already ↦ record { turns = []; all = tt; turned = already }
      | inr before ↦ (
          let within = conn_within net runs.rules c conn known in
          let last : IsHopOf net c conn (length conn.path) = record { rules = runs.rules; known = known; low = (let h = within.has_hop in omega (arith, h)); high = omega arith } in
          let passed = turned_passed (route_of conn) (facts_of c (past_of net earlier)) (lawful_at net (past_of net earlier) (past_lawful net earlier runs.first) c conn known) seq turned in
          let through = passed_below net c conn seq (length conn.path) last earlier ended (below.ports conn (length conn.path) last (omega arith, omega arith)) passed in
          let happens : outcome_of net past (Turn c seq) ≡ Turned = outcome_of-known net past (Turn c seq) c conn refl known ∙ turn_on (was_passed facts seq (length conn.path)) through in
          let now : facts_of c (past_of net (Turn c seq ∷ ended)) ≡ FactTurned seq ∷ facts = facts_of-own net past (Turn c seq) c refl ∙ ap (λ o. facts_added facts (Turn c seq) o ++ facts) happens in
          record {
            turns = Turn c seq ∷ [];
            all = (record { conn = c; seq = seq; is = refl; happens = happens }, tt);
            turned = ap (λ l. was_turned l seq) now ∙ ap (λ b. b || was_turned facts seq) (eq-eqb seq seq refl);
          })
    ]

-- an answer comes again
yes_sent : (hops hop seq : ℕ) (facts : List Fact) → (hop ≡ hops → was_turned facts seq ≡ true) → (hop ≢ hops → was_back facts seq (hop + 1) ≡ true) → answer_is_at hops facts seq hop true ≡ true
yes_sent hops hop seq facts last other = elim (cases_eq hop hops) [
  | inl same ↦ cond-true _ _ _ (eq-eqb hop hops same) ∙ last same
  | inr differ ↦ cond-false _ _ _ (ne_eqb hop hops differ) ∙ other differ
]

yes_was : (hops hop seq : ℕ) (facts : List Fact) → answer_is_at hops facts seq hop true ≡ true → (hop ≡ hops → was_turned facts seq ≡ true) × (hop ≢ hops → was_back facts seq (hop + 1) ≡ true)
yes_was hops hop seq facts h = (λ same. sym (cond-true _ _ _ (eq-eqb hop hops same)) ∙ h, λ differ. sym (cond-false _ _ _ (ne_eqb hop hops differ)) ∙ h)

yes_again : (net : Topology) (ended earlier : List Event) → AreRuns net earlier ended → (c hop seq : ℕ) (v : Visit) → IsSentBelow net earlier ended c hop → visit net (past_of net earlier) (Answer c hop seq true) ≡ Some v →
    steps_on net v.port earlier ≡ steps_on net v.port ended → AgainAt net ended earlier (Answer c hop seq true) v
yes_again net ended earlier runs c hop seq v below is same =
    let back = came_back net earlier c hop seq true v is in
    let conn = back.conn in
    let hops = length conn.path in
    let within = is_hop_tells hops hop back.within in
    let was = yes_was hops hop seq (facts_of c (past_of net earlier)) back.sent in
    elim (cases_eq hop hops) [
      | inr differ ↦ (
          let next : IsHopOf net c conn (hop + 1) = record { rules = runs.rules; known = back.known; low = omega arith; high = omega (arith, within.1, differ) } in
          let behind = back_below net c conn seq (hop + 1) next earlier ended (below.ports conn (hop + 1) next (omega arith, omega arith)) (was.1 differ) in
          record {
            turns = [];
            all = tt;
            again = answer_again net earlier ended runs c hop seq true v below is same (λ k known. (
                let its : conn ≡ k = some_same (sym back.known ∙ known) in
                subst (λ (w : Conn). answer_is_at (length w.path) (facts_of c (past_of net ended)) seq hop true ≡ true) its
                (yes_sent hops hop seq (facts_of c (past_of net ended)) (λ e. absurd (differ e)) (λ e. behind))));
          })
      | inl last ↦ (
          let turn = can_turn net ended earlier runs c seq conn (subst (λ n. IsSentBelow net earlier ended c n) last below) back.known (was.0 last) in
          let more = turn.turns ++ ended in
          let both : AreRuns net earlier more = record { rules = runs.rules; first = runs.first; second = turns_ask net ended turn.turns turn.all runs.second } in
          record {
            turns = turn.turns;
            all = turn.all;
            again = answer_again net earlier more both c hop seq true v (sent_turns net earlier ended turn.turns turn.all c hop below) is (same ∙ sym (steps_turns net ended turn.turns turn.all v.port)) (λ k known. (
                let its : conn ≡ k = some_same (sym back.known ∙ known) in
                subst (λ (w : Conn). answer_is_at (length w.path) (facts_of c (past_of net more)) seq hop true ≡ true) its
                (yes_sent hops hop seq (facts_of c (past_of net more)) (λ e. turn.turned) (λ differ. absurd (differ last)))));
          })
    ]

no_again : (net : Topology) (ended earlier : List Event) → AreRuns net earlier ended → (c hop seq : ℕ) (v : Visit) → IsSentBelow net earlier ended c hop → visit net (past_of net earlier) (Answer c hop seq false) ≡ Some v →
    steps_on net v.port earlier ≡ steps_on net v.port ended → AgainAt net ended earlier (Answer c hop seq false) v
no_again net ended earlier runs c hop seq v below is same =
    let back = came_back net earlier c hop seq false v is in
    let conn = back.conn in
    let hops = length conn.path in
    let was = and_both (nat_lt hop hops) (was_shut (facts_of c (past_of net earlier)) seq (hop + 1)) back.sent in
    let low : hop < hops = less_if hop hops was.0 in
    let next : IsHopOf net c conn (hop + 1) = record { rules = runs.rules; known = back.known; low = omega arith; high = omega (arith, low) } in
    let shut = shut_below net c conn seq (hop + 1) next earlier ended (below.ports conn (hop + 1) next (omega arith, omega arith)) was.1 in
    record {
      turns = [];
      all = tt;
      again = answer_again net earlier ended runs c hop seq false v below is same (λ k known. (
          let its : conn ≡ k = some_same (sym back.known ∙ known) in
          subst (λ (w : Conn). answer_is_at (length w.path) (facts_of c (past_of net ended)) seq hop false ≡ true) its
          (ap (λ b. b && was_shut (facts_of c (past_of net ended)) seq (hop + 1)) was.0 ∙ shut)));
    }

-- whatever comes to a port comes again, where its actors stand as they stood
abbrev pub ArrivesAlone : Topology → List Event → List Event → Event → Type 0
ArrivesAlone net earlier ended (Arrive c cell at) = entries_on net c earlier ≡ entries_on net c ended
ArrivesAlone net earlier ended event = Unit {0}

-- and what can send to its hop has done no less
pub sent_again : (net : Topology) (ended earlier : List Event) → AreRuns net earlier ended → (event : Event) (v : Visit) → visit net (past_of net earlier) event ≡ Some v →
    ((c : ℕ) → conn_of event ≡ Some c → IsSentBelow net earlier ended c (hop_visited event)) → steps_on net v.port earlier ≡ steps_on net v.port ended → ArrivesAlone net earlier ended event → AgainAt net ended earlier event v
sent_again net ended earlier runs (Request c hop seq) v is below same alone = record { turns = []; all = tt; again = request_again net earlier ended runs c hop seq v (below c refl) is same }
sent_again net ended earlier runs (Arrive c cell at) v is below same alone = record { turns = []; all = tt; again = arrival_again net earlier ended runs c cell at v is same alone }
sent_again net ended earlier runs (Answer c hop seq true) v is below same alone = yes_again net ended earlier runs c hop seq v (below c refl) is same
sent_again net ended earlier runs (Answer c hop seq false) v is below same alone = no_again net ended earlier runs c hop seq v (below c refl) is same
sent_again net ended earlier runs (Capacity p u) v is below same alone = record { turns = []; all = tt; again = capacity_again net earlier ended runs p u v is same }
sent_again net ended earlier runs other v is below same alone = (let none = no_visit net (past_of net earlier) other _ refl (λ vc facts. refl) in absurd (cc))

pub again_at : (net : Topology) (ended earlier : List Event) → IsRun net ended → All AsksRate earlier → IsBelow net earlier ended → (event : Event) (v : Visit) → visit net (past_of net earlier) event ≡ Some v →
    steps_on net v.port earlier ≡ steps_on net v.port ended → ArrivesAlone net earlier ended event → AgainAt net ended earlier event v
again_at net ended earlier end rates below event v is same alone =
    let runs : AreRuns net earlier ended = record { rules = end.rules; first = rates; second = end.rates } in
    sent_again net ended earlier runs event v is
    (λ c whose. (let parts = visit_is net (past_of net earlier) event v c whose is in below_sent net earlier ended runs below c (hop_visited event) parts.conn (known_at net (past_of net earlier) c event v parts whose)))
    same alone
