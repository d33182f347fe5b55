-- What waits goes on to wait, where an event is of another connection and comes to another port.
use Rattle.std.proofs.Common.{◌≡◌, ◌≢◌, ℕ, ◌-◌, inl, inr, refl, ap, true, List, [], ◌∷◌, ◌++◌, length, reverse, ◌∙◌, sym, subst, Option, None, Some}
use Rattle.std.specs.Prelude.{◌&&◌, not, false, slice_get, slice_index}
use Rattle.std.proofs.lemmas.List.Elements.{All-cons}
use Rattle.abt_net.specs.declared.conn.Conn.{Conn}
use Rattle.abt_net.specs.Topology.{Topology, conn_at}
use Rattle.abt_facts.specs.declared.fact.Fact.{Fact}
use Rattle.abt_facts.specs.declared.fact.Fact.TheVariants.{Turned as FactTurned}
use Rattle.abt_model.specs.declared.event.Event.{Event}
use Rattle.abt_model.specs.declared.event.Event.TheVariants.{Turn, Capacity}
use Rattle.abt_model.specs.declared.outcome.Outcome.{Outcome}
use Rattle.abt_model.specs.declared.outcome.Outcome.TheVariants.{Turned}
use Rattle.abt_model.specs.Events.{AsksRate}
use Rattle.abt_model.specs.Outcomes.{conn_of, outcome_of, facts_added}
use Rattle.abt_model.specs.Past.{facts_of}
use Rattle.abt_model.specs.PortTable.{hop_visited}
use Rattle.abt_model.specs.Targets.{target_of}
use Rattle.abt_model.proofs.Worlds.{cases_option, facts_of-own, facts_of-other}
use Rattle.abt_source.specs.SourceFacts.{request_of}
use Rattle.abt_journal.specs.declared.input.PortInput.{PortInput}
use Rattle.abt_journal.specs.declared.input.PortInput.TheVariants.{Request as RequestIn, Answer as AnswerIn, Arrive as ArriveIn, Capacity as CapacityIn}
use Rattle.abt_model.specs.declared.entry.SourceEntry.{SourceEntry}
use Rattle.abt_model.specs.declared.entry.SourceEntry.TheVariants.{Did}
use Rattle.abt_weave.specs.Projections.{Step, Visit, is_enabled, reply_of, place_at_first, past_of, visit, steps_on, entry_made, entries_on}
use Rattle.abt_weave.specs.Stuck.{RunJournals, port_journal, source_journal, next_step, step_next, next_entry, Fits, IsTurn, AreTurns, PortMismatches, SourceMismatches}
use Rattle.abt_weave.proofs.Turns.{outcome_turns, steps_turn, steps_turns}
use Rattle.abt_weave.specs.Progress.{IsSourceSettled, IsPortSettled}
use Rattle.abt_weave.specs.Candidates.{is_own_of, is_told}
use Rattle.abt_weave.specs.Comes.{input_told, Comes}
use Rattle.abt_weave.proofs.Alike.{AreRuns, outcome_alike, capacity_outcome}
use Rattle.abt_weave.proofs.Alone.{capacity_visit}
use Rattle.abt_weave.proofs.Capped.{capacity_only}
use Rattle.abt_weave.proofs.Growth.{entries_other, steps_none, steps_other}
use Rattle.abt_weave.proofs.OwnEvents.{own_input, own_conn, own_here, made_own, own_made, own_turns, next_turns}
use Rattle.abt_weave.proofs.PortEvents.{IsNoCapacity, some_same, reply_enabled}
use Rattle.abt_weave.proofs.PortLooks.{steps_next, would_mismatch, mismatch_at}

-- What fits would mismatch too, where it is not asked what the entry tells.
source_fit : (net : Topology) (js : RunJournals) (earlier turns : List Event) (c : ℕ) (event done : Event) (outcome : Outcome) → AreTurns net earlier turns → conn_of event ≡ Some c →
    entry_made net (turns ++ earlier) event ≡ Some (Did done outcome) → Fits net js (turns ++ earlier) event → SourceMismatches net js earlier c
source_fit net js earlier turns c event done outcome all here made fits =
    let after = turns ++ earlier in
    let its = made_own (place_at_first net after event) event (outcome_of net (past_of net after) event) done outcome made in
    let does : entry_made net after event ≡ Some (Did event outcome) = made ∙ ap (λ e. Some (Did e outcome)) its.event_is in
    record { turns = turns; turned = all; event = event; here = here; outcome = outcome; does = does; told = outcome; next = fits.entry c (Did event outcome) here does }

pub source_unmarked : (net : Topology) (js : RunJournals) (earlier : List Event) (c : ℕ) → (SourceMismatches net js earlier c → ⊥) → IsSourceSettled net js earlier c false
source_unmarked net js earlier c never = record {
  stuck = λ turns event done outcome all here made fits. never (source_fit net js earlier turns c event done outcome all here made fits);
  marks = never;
}

port_fit : (net : Topology) (js : RunJournals) (earlier turns : List Event) (p : ℕ) (event : Event) (v : Visit) → AreTurns net earlier turns → visit net (past_of net (turns ++ earlier)) event ≡ Some v → v.port ≡ p →
    Fits net js (turns ++ earlier) event → PortMismatches net js earlier p
port_fit net js earlier turns p event v all is here fits =
    let after = turns ++ earlier in
    record {
      turns = turns;
      turned = all;
      event = event;
      visits = v;
      comes = is;
      here = here;
      step = step_next net after v;
      next = ap (next_step net js after) (sym here) ∙ fits.step v is;
      place = ap (λ q. length (steps_on net q after)) here;
      input = refl;
      beside = fits.entry;
    }

pub port_unmarked : (net : Topology) (js : RunJournals) (earlier : List Event) (p : ℕ) → (PortMismatches net js earlier p → ⊥) → IsPortSettled net js earlier p false
port_unmarked net js earlier p never = record {
  stuck = λ turns event v all is here fits. never (port_fit net js earlier turns p event v all is here fits);
  marks = never;
}

-- what a source did answers the same before such an event
own_alike : (net : Topology) (one other : List Event) → AreRuns net one other → (c : ℕ) (event : Event) → is_own_of c event ≡ true → facts_of c (past_of net one) ≡ facts_of c (past_of net other) →
    outcome_of net (past_of net one) event ≡ outcome_of net (past_of net other) event
own_alike net one other runs c event own same =
    outcome_alike net one other runs event c (own_conn c event own) same
    (λ conn known input brings. (let clash = sym (own_input c (target_of event) own conn.vc (request_of conn.vc (facts_of c (past_of net one)))) ∙ brings in absurd (cc)))

-- a source whose next entry mismatches after an event, and which would have answered the same before it
pub source_same : (net : Topology) (js : RunJournals) (earlier : List Event) (last : Event) (c : ℕ) → entries_on net c (last ∷ earlier) ≡ entries_on net c earlier → (m : SourceMismatches net js (last ∷ earlier) c) →
    outcome_of net (past_of net (m.turns ++ last ∷ earlier)) m.event ≡ outcome_of net (past_of net earlier) m.event → SourceMismatches net js earlier c
source_same net js earlier last c still m same =
    let later = last ∷ earlier in
    let after = m.turns ++ later in
    let event = m.event in
    let its = made_own (place_at_first net after event) event (outcome_of net (past_of net after) event) event m.outcome m.does in
    let own = own_here its.c c event its.own m.here in
    let enabled : is_told event && not (is_enabled (outcome_of net (past_of net earlier) event)) ≡ false = ap (λ o. is_told event && not (is_enabled o)) (sym same) ∙ its.enabled in
    record {
      turns = [];
      turned = tt;
      event = event;
      here = m.here;
      outcome = outcome_of net (past_of net earlier) event;
      does = own_made (place_at_first net earlier event) c event (outcome_of net (past_of net earlier) event) own enabled;
      told = m.told;
      next = ap (λ (l : List SourceEntry). slice_get (source_journal js c) (length l)) (sym still) ∙ sym (next_turns net js later m.turns m.turned c) ∙ m.next;
    }

pub source_back : (net : Topology) (js : RunJournals) (earlier : List Event) (last : Event) → AreRuns net (last ∷ earlier) earlier → (c : ℕ) → conn_of last ≢ Some c → SourceMismatches net js (last ∷ earlier) c → SourceMismatches net js earlier c
source_back net js earlier last runs c apart m =
    let later = last ∷ earlier in
    let after = m.turns ++ later in
    let event = m.event in
    let its = made_own (place_at_first net after event) event (outcome_of net (past_of net after) event) event m.outcome m.does in
    let own = own_here its.c c event its.own m.here in
    source_same net js earlier last c (entries_other net earlier last c apart) m
    (own_turns net later m.turns m.turned c event own ∙ own_alike net later earlier runs c event own (facts_of-other net (past_of net earlier) last c apart))

-- what comes after such an event came before it
comes_apart : (net : Topology) (js : RunJournals) (earlier : List Event) (last : Event) (p place : ℕ) (input : PortInput) (event : Event) → steps_on net p (last ∷ earlier) ≡ steps_on net p earlier →
    (comes : Comes net js (last ∷ earlier) p place input event) → conn_of last ≢ Some comes.c → Comes net js earlier p place input event
comes_apart net js earlier last p place input event steps comes apart =
    let entries = entries_other net earlier last comes.c apart in
    record {
      c = comes.c;
      whose = comes.whose;
      conn = comes.conn;
      known = comes.known;
      within = comes.within;
      port = comes.port;
      brings = ap (λ (l : List SourceEntry). input_told comes.conn.vc (reverse l) event) (sym entries) ∙ comes.brings;
      at = comes.at ∙ ap (λ (l : List Step). length l) steps;
      beside = λ x e. ap (λ (l : List SourceEntry). slice_get (source_journal js comes.c) (length l)) (sym entries) ∙ comes.beside x e;
    }

-- the facts after a Turn that happens
facts_turned : (net : Topology) (earlier : List Event) (c seq : ℕ) → outcome_of net (past_of net earlier) (Turn c seq) ≡ Turned → facts_of c (past_of net (Turn c seq ∷ earlier)) ≡ FactTurned seq ∷ facts_of c (past_of net earlier)
facts_turned net earlier c seq happens =
    let past = past_of net earlier in
    facts_of-own net past (Turn c seq) c refl ∙ ap (λ o. facts_added (facts_of c past) (Turn c seq) o ++ facts_of c past) happens

-- the next step of the port, before such an event
step_before : (net : Topology) (js : RunJournals) (earlier : List Event) (last : Event) (p : ℕ) → steps_on net p (last ∷ earlier) ≡ steps_on net p earlier → (m : PortMismatches net js (last ∷ earlier) p) → next_step net js earlier p ≡ Some m.step
step_before net js earlier last p steps m =
    ap (λ (l : List Step). slice_get (port_journal js p) (length l)) (sym steps) ∙ sym (steps_next net js (last ∷ earlier) m.turns m.turned p) ∙ m.next

pub capacity_back : (net : Topology) (js : RunJournals) (earlier : List Event) (last : Event) → AreRuns net (last ∷ earlier) earlier → (p u : ℕ) → steps_on net p (last ∷ earlier) ≡ steps_on net p earlier →
    (m : PortMismatches net js (last ∷ earlier) p) → m.step.input ≡ CapacityIn u → PortMismatches net js earlier p
capacity_back net js earlier last runs p u steps m input =
    let later = last ∷ earlier in
    let replies : reply_of (outcome_of net (past_of net earlier) (Capacity p u)) ≡ Some m.visits.reply =
    ap reply_of (sym (capacity_outcome net later earlier runs p u steps)) ∙ capacity_only net later m.turns m.turned p u m.event m.visits m.comes m.here (sym m.input ∙ input) in
    record {
      turns = [];
      turned = tt;
      event = Capacity p u;
      visits = record { port = p; input = CapacityIn u; reply = m.visits.reply };
      comes = capacity_visit net (past_of net earlier) p u m.visits.reply replies;
      here = refl;
      step = m.step;
      next = step_before net js earlier last p steps m;
      place = m.place ∙ ap (λ (l : List Step). length l) (steps_turns net later m.turns m.turned p ∙ steps);
      input = input;
      beside = λ c x whose made. absurd (cc);
    }

-- the port of what comes to it
comes_here : (net : Topology) (js : RunJournals) (earlier one other : List Event) (p place : ℕ) (input : PortInput) (event : Event) → (comes : Comes net js earlier p place input event) → steps_on net p one ≡ steps_on net p other →
    (conn : Conn) → conn_at net comes.c ≡ Some conn → steps_on net (slice_index conn.path (hop_visited event - 1)) one ≡ steps_on net (slice_index conn.path (hop_visited event - 1)) other
comes_here net js earlier one other p place input event comes steps conn known =
    let here : slice_index conn.path (hop_visited event - 1) ≡ p = ap (λ (k : Conn). slice_index k.path (hop_visited event - 1)) (some_same (sym known ∙ comes.known)) ∙ comes.port in
    subst (λ q. steps_on net q one ≡ steps_on net q other) (sym here) steps

pub visit_back : (net : Topology) (js : RunJournals) (earlier : List Event) (last : Event) → AreRuns net (last ∷ earlier) earlier → (p : ℕ) → steps_on net p (last ∷ earlier) ≡ steps_on net p earlier →
    (m : PortMismatches net js (last ∷ earlier) p) → IsNoCapacity m.step.input → ((c : ℕ) → conn_of m.event ≡ Some c → conn_of last ≢ Some c) → PortMismatches net js earlier p
visit_back net js earlier last runs p steps m none apart =
    let later = last ∷ earlier in
    let step = m.step in
    let event = m.event in
    let next = step_before net js earlier last p steps m in
    let would = would_mismatch net js runs.rules later p step (sym (steps_next net js later m.turns m.turned p) ∙ m.next) none m in
    let after = would.comes in
    let c = after.c in
    let differ = apart c after.whose in
    let comes = comes_apart net js earlier last p step.place step.input event steps after differ in
    let facts = facts_of-other net (past_of net earlier) last c differ in
    let on = reply_enabled (outcome_of net (past_of net (m.turns ++ later)) event) m.visits.reply would.replies in
    elim (outcome_turns net later m.turns m.turned event) [
      | inl same ↦ (
          let alike = outcome_alike net later earlier runs event c after.whose facts (λ conn known input brings. comes_here net js later later earlier p step.place step.input event after steps conn known) in
          mismatch_at net js runs.rules earlier [] p step event next tt comes (ap is_enabled (sym alike) ∙ ap is_enabled (sym same) ∙ on))
      | inr own ↦ (
          let d = own.own.conn in
          let seq = own.own.seq in
          let turn = Turn d seq in
          let whose : d ≡ c = some_same (sym (ap conn_of own.own.its.is) ∙ after.whose) in
          let level : facts_of d (past_of net later) ≡ facts_of d (past_of net earlier) = subst (λ n. facts_of n (past_of net later) ≡ facts_of n (past_of net earlier)) (sym whose) facts in
          let happens : outcome_of net (past_of net earlier) turn ≡ Turned =
          sym (outcome_alike net later earlier runs turn d refl level (λ conn known input brings. absurd (cc))) ∙ own.own.happens in
          let turned : facts_of d (past_of net (turn ∷ later)) ≡ facts_of d (past_of net (turn ∷ earlier)) =
          facts_turned net later d seq own.own.happens ∙ ap (λ (l : List Fact). FactTurned seq ∷ l) level ∙ sym (facts_turned net earlier d seq happens) in
          let both : AreRuns net (turn ∷ later) (turn ∷ earlier) = record { rules = runs.rules; first = All-cons AsksRate turn later tt runs.first; second = All-cons AsksRate turn earlier tt runs.second } in
          let steps_both : steps_on net p (turn ∷ later) ≡ steps_on net p (turn ∷ earlier) = steps_turn net later d seq p ∙ steps ∙ sym (steps_turn net earlier d seq p) in
          let alike = outcome_alike net (turn ∷ later) (turn ∷ earlier) both event c after.whose
          (subst (λ n. facts_of n (past_of net (turn ∷ later)) ≡ facts_of n (past_of net (turn ∷ earlier))) whose turned)
          (λ conn known input brings. comes_here net js later (turn ∷ later) (turn ∷ earlier) p step.place step.input event after steps_both conn known) in
          let is_turn : IsTurn net earlier turn = record { conn = d; seq = seq; is = refl; happens = happens } in
          mismatch_at net js runs.rules earlier (turn ∷ []) p step event next (is_turn, tt) comes (ap is_enabled (sym alike) ∙ ap is_enabled (sym own.same) ∙ on))
    ]

-- a port to which an event doesn't come has had the same steps
pub steps_still : (net : Topology) (earlier : List Event) (last : Event) (p : ℕ) → ((v : Visit) → visit net (past_of net earlier) last ≡ Some v → v.port ≢ p) → steps_on net p (last ∷ earlier) ≡ steps_on net p earlier
steps_still net earlier last p elsewhere = elim (cases_option (visit net (past_of net earlier) last)) [
  | inl none ↦ steps_none net earlier last p none
  | inr some ↦ steps_other net earlier last p some.0 some.1 (elsewhere some.0 some.1)
]
