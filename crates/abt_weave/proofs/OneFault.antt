-- All ends of weaving are one.
use Rattle.std.proofs.Common.{◌≡◌, ℕ, zero, suc, ◌<◌, inl, inr, refl, ap, false, List, [], ◌∷◌, ◌++◌, length, reverse, ◌∙◌, sym, subst, arith, Some}
use Rattle.std.specs.Prelude.{◌&&◌, not, slice_get, All}
use Rattle.std.proofs.lemmas.List.{length-append}
use Rattle.std.proofs.lemmas.List.Elements.{All-cons}
use Rattle.std.proofs.lemmas.Option.{slice_get_within}
use Rattle.abt_net.specs.Topology.{Topology, IsWithinRules, conn_at}
use Rattle.abt_net.specs.declared.conn.Conn.{Conn}
use Rattle.abt_model.specs.declared.event.Event.{Event}
use Rattle.abt_model.specs.Events.{AsksRate}
use Rattle.abt_model.specs.Outcomes.{outcome_of}
use Rattle.abt_model.specs.declared.entry.SourceEntry.{SourceEntry}
use Rattle.abt_model.specs.declared.entry.SourceEntry.TheVariants.{Did}
use Rattle.abt_weave.specs.declared.actor.Actor.{Actor}
use Rattle.abt_weave.specs.declared.actor.Actor.TheVariants.{Source, Port}
use Rattle.abt_weave.specs.declared.actor.Stuck.{Stuck}
use Rattle.abt_weave.specs.Projections.{Step, Visit, is_enabled, place_at_first, past_of, visit, steps_on, entries_on}
use Rattle.abt_weave.specs.Stuck.{RunJournals, port_journal, source_journal, AreTurns, IsBeginning, ArePlaced, StandsStill, PortMismatches, SourceMismatches}
use Rattle.abt_weave.proofs.Turns.{steps_turns, entries_turns}
use Rattle.abt_weave.specs.Actors.{IsAmong, placed_on}
use Rattle.abt_weave.specs.Candidates.{is_told}
use Rattle.abt_weave.specs.Faults.{left_at, left_below, source_left, port_left, all_left, IsFirstMismatch, NoneMismatches}
use Rattle.abt_weave.specs.OneFault.{AreJournalsOf, HaveOneEnd, HaveOneFault}
use Rattle.abt_weave.specs.declared.fault.WeaveFault.TheVariants.{Mismatch, NoOrder, Memory}
use Rattle.abt_weave.proofs.Again.{own_again}
use Rattle.abt_weave.proofs.AllBelow.{all_below, conn_there, alone_if, entries_there}
use Rattle.abt_weave.proofs.Ends.{whole_beginning}
use Rattle.abt_weave.proofs.Leavings.{all_reversed}
use Rattle.abt_weave.proofs.AgainAt.{turns_ask, again_at, ArrivesAlone}
use Rattle.abt_weave.proofs.NoneWoven.{AreBegun, HaveEnded, visit_low, run_of}
use Rattle.abt_weave.proofs.OwnEvents.{own_here, made_own, own_made}
use Rattle.abt_weave.proofs.PortEvents.{some_same, visit_cases, visit_is}
use Rattle.abt_weave.proofs.SentBelow.{IsBelow}

-- two lists of events that stand still before the journals of a net
record AreEnds (net : Topology) (js : RunJournals) (one other : List Event) : Type 0 where
  journals : AreJournalsOf net js
  here : HaveEnded net js one
  there : HaveEnded net js other

swapped : (net : Topology) (js : RunJournals) (one other : List Event) → AreEnds net js one other → AreEnds net js other one
swapped net js one other ends = record { journals = ends.journals; here = ends.there; there = ends.here }

begins_both : {A : Type 0} → (xs ys : List A) → IsBeginning xs ys → IsBeginning ys xs → xs ≡ ys
begins_both xs ys a b = whole_beginning xs ys a (let e = ap (λ l. length l) b.1 ∙ length-append ys b.0 in omega (arith, e))

turns_begun : (net : Topology) (js : RunJournals) (earlier turns : List Event) → AreTurns net earlier turns → ArePlaced net js earlier → AreBegun net js (turns ++ earlier)
turns_begun net js earlier turns all placed = record {
  ports = λ p low. subst (λ l. IsBeginning l (port_journal js p)) (sym (steps_turns net earlier turns all p)) (placed.ports p);
  conns = λ c low. subst (λ l. IsBeginning l (source_journal js c)) (sym (entries_turns net earlier turns all c)) (placed.conns c);
}

ends_below : (net : Topology) (js : RunJournals) (one other : List Event) → AreEnds net js one other → (turns : List Event) → AreTurns net one turns → IsBelow net (turns ++ one) other
ends_below net js one other ends turns all =
    all_below net js other ends.there (turns ++ one) (turns_ask net one turns all ends.here.rates) (turns_begun net js one turns all ends.here.stands.placed)

same_steps : (net : Topology) (js : RunJournals) (one other : List Event) → AreEnds net js one other → (p : ℕ) → p < length net.capacities → steps_on net p one ≡ steps_on net p other
same_steps net js one other ends p low =
    begins_both (steps_on net p one) (steps_on net p other) ((ends_below net js one other ends [] tt).ports p low) ((ends_below net js other one (swapped net js one other ends) [] tt).ports p low)

same_entries : (net : Topology) (js : RunJournals) (one other : List Event) → AreEnds net js one other → (c : ℕ) → c < length net.conns → entries_on net c one ≡ entries_on net c other
same_entries net js one other ends c low =
    begins_both (entries_on net c one) (entries_on net c other) ((ends_below net js one other ends [] tt).conns c low) ((ends_below net js other one (swapped net js one other ends) [] tt).conns c low)

-- the next entries are the same, also after Turns
steps_there_too : (net : Topology) (js : RunJournals) (one other turns more : List Event) → AreEnds net js one other → AreTurns net one turns → AreTurns net other more → (p : ℕ) → p < length net.capacities →
    steps_on net p (turns ++ one) ≡ steps_on net p (more ++ other)
steps_there_too net js one other turns more ends all also p low = steps_turns net one turns all p ∙ same_steps net js one other ends p low ∙ sym (steps_turns net other more also p)

entries_there_too : (net : Topology) (js : RunJournals) (one other turns more : List Event) → AreEnds net js one other → AreTurns net one turns → AreTurns net other more → (c : ℕ) → c < length net.conns →
    entries_on net c (turns ++ one) ≡ entries_on net c (more ++ other)
entries_there_too net js one other turns more ends all also c low = entries_turns net one turns all c ∙ same_entries net js one other ends c low ∙ sym (entries_turns net other more also c)

-- what mismatches at one end does so at the other
source_again : (net : Topology) (js : RunJournals) (one other : List Event) → AreEnds net js one other → (c : ℕ) → SourceMismatches net js one c → (c < length net.conns) × SourceMismatches net js other c
source_again net js one other ends c m =
    let more = m.turns ++ one in
    let event = m.event in
    let low : c < length net.conns = subst (λ n. c < n) ends.journals.conns (entries_there js c (length (entries_on net c more)) (Did event m.told) m.next) in
    let conn = conn_there net c low in
    let its = made_own (place_at_first net more event) event (outcome_of net (past_of net more) event) event m.outcome m.does in
    let level = entries_there_too net js one other m.turns [] ends m.turned tt c low in
    let mine = own_here its.c c event its.own m.here in
    let again = own_again net ends.there.rules more other (ends_below net js one other ends m.turns m.turned) c conn.0 event m.here conn.1 mine its.enabled level in
    let enabled : is_told event && not (is_enabled (outcome_of net (past_of net other) event)) ≡ false = ap (λ o. is_told event && not (is_enabled o)) (sym again) ∙ its.enabled in (
      low,
      record {
        turns = [];
        turned = tt;
        event = event;
        here = m.here;
        outcome = outcome_of net (past_of net other) event;
        does = own_made (place_at_first net other event) c event (outcome_of net (past_of net other) event) mine enabled;
        told = m.told;
        next = ap (λ (l : List SourceEntry). slice_get (source_journal js c) (length l)) (sym level) ∙ m.next;
      },
    )

conn_low : (net : Topology) (c d : ℕ) (conn : Conn) → conn_at net c ≡ Some conn → c ≡ d → d < length net.conns
conn_low net c d conn known same = subst (λ n. n < length net.conns) same (slice_get_within net.conns c conn known)

-- what came at one end finds the entries of its source at the other
alone_where : (net : Topology) (js : RunJournals) (one other : List Event) → AreEnds net js one other → (turns : List Event) → AreTurns net one turns → (event : Event) (v : Visit) →
    visit net (past_of net (turns ++ one)) event ≡ Some v → ArrivesAlone net (turns ++ one) other event
alone_where net js one other ends turns turned event v comes = elim (visit_cases net (past_of net (turns ++ one)) event v comes) [
  | inl parts ↦ alone_if net (turns ++ one) other event parts.c parts.whose
      (entries_there_too net js one other turns [] ends turned tt parts.c (conn_low net parts.c parts.c parts.conn parts.known refl))
  | inr alone ↦ subst (ArrivesAlone net (turns ++ one) other) (sym alone.event_is) tt
]

port_again : (net : Topology) (js : RunJournals) (one other : List Event) → AreEnds net js one other → (p : ℕ) → PortMismatches net js one p → PortMismatches net js other p
port_again net js one other ends p m =
    let more = m.turns ++ one in
    let event = m.event in
    let low_v = visit_low net ends.here.rules (past_of net more) event m.visits m.comes in
    let low : p < length net.capacities = subst (λ q. q < length net.capacities) m.here low_v in
    let at = again_at net other more (run_of net js other ends.there) (turns_ask net one m.turns m.turned ends.here.rates) (ends_below net js one other ends m.turns m.turned) event m.visits m.comes
    (steps_there_too net js one other m.turns [] ends m.turned tt m.visits.port low_v) (alone_where net js one other ends m.turns m.turned event m.visits m.comes) in
    let level = steps_there_too net js one other m.turns at.turns ends m.turned at.all p low in
    record {
      turns = at.turns;
      turned = at.all;
      event = event;
      visits = m.visits;
      comes = at.again.visits;
      here = m.here;
      step = m.step;
      next = ap (λ (l : List Step). slice_get (port_journal js p) (length l)) (sym level) ∙ m.next;
      place = m.place ∙ ap (λ (l : List Step). length l) level;
      input = m.input;
      beside = λ d x whose made.
          (let parts = visit_is net (past_of net more) event m.visits d whose m.comes in
          let low_d = conn_low net parts.c d parts.conn parts.known (some_same (sym parts.whose ∙ whose)) in
          let level_d = entries_there_too net js one other m.turns at.turns ends m.turned at.all d low_d in
          ap (λ (l : List SourceEntry). slice_get (source_journal js d) (length l)) (sym level_d) ∙ m.beside d x whose (sym at.again.beside ∙ made));
    }

-- what is left at one end is left at the other
below_same : (f g : ℕ → List Stuck) (n : ℕ) → ((i : ℕ) → i < n → f i ≡ g i) → left_below f n ≡ left_below g n
below_same f g zero same = refl
below_same f g (suc n) same = ap (λ (l : List Stuck). l ++ f n) (below_same f g n (λ i low. same i (omega (arith, low)))) ∙ ap (λ (l : List Stuck). left_below g n ++ l) (same n (omega arith))

left_same : (net : Topology) (js : RunJournals) (one other : List Event) → AreEnds net js one other → all_left net js one ≡ all_left net js other
left_same net js one other ends =
    let sources = below_same (source_left net js one) (source_left net js other) (length js.sources)
    (λ c low. ap (λ (l : List SourceEntry). left_at (Source c) (length l) (length (source_journal js c))) (same_entries net js one other ends c (subst (λ n. c < n) ends.journals.conns low))) in
    let ports = below_same (port_left net js one) (port_left net js other) (length js.ports)
    (λ p low. ap (λ (l : List Step). left_at (Port p) (length l) (length (port_journal js p))) (same_steps net js one other ends p (subst (λ n. p < n) ends.journals.ports low))) in
    ap (λ (l : List Stuck). l ++ left_below (port_left net js one) (length js.ports)) sources ∙ ap (λ (l : List Stuck). left_below (source_left net js other) (length js.sources) ++ l) ports

first_only : (n m : ℕ) → (n < m → ⊥) → (m < n → ⊥) → n ≡ m
first_only zero zero a b = refl
first_only zero (suc m) a b = absurd (a (omega arith))
first_only (suc n) zero a b = absurd (b (omega arith))
first_only (suc n) (suc m) a b = ap suc (first_only n m (λ h. a (omega (arith, h))) (λ h. b (omega (arith, h))))

port_low : (net : Topology) (js : RunJournals) (one : List Event) (p : ℕ) → IsWithinRules net → PortMismatches net js one p → p < length net.capacities
port_low net js one p rules m = subst (λ q. q < length net.capacities) m.here (visit_low net rules (past_of net (m.turns ++ one)) m.event m.visits m.comes)

mismatch_same : (net : Topology) (js : RunJournals) (one other : List Event) → AreEnds net js one other → (a b : Actor) (n m : ℕ) → IsFirstMismatch net js one a n → IsFirstMismatch net js other b m → Mismatch a n ≡ Mismatch b m
mismatch_same net js one other ends (Source c) (Source d) n m h k =
    let back = swapped net js one other ends in
    let mine = source_again net js one other ends c h.1 in
    let same : c ≡ d = first_only c d (λ low. k.2 c low mine.1) (λ low. h.2 d low (source_again net js other one back d k.1).1) in
    let place : n ≡ m = h.0 ∙ ap (λ (l : List SourceEntry). length l) (same_entries net js one other ends c mine.0) ∙ ap (λ x. length (entries_on net x other)) same ∙ sym k.0 in
    ap (λ x. Mismatch (Source x) n) same ∙ ap (λ x. Mismatch (Source d) x) place
mismatch_same net js one other ends (Source c) (Port q) n m h k = absurd (k.2 c (source_again net js one other ends c h.1).1)
mismatch_same net js one other ends (Port p) (Source d) n m h k = absurd (h.2 d (source_again net js other one (swapped net js one other ends) d k.1).1)
mismatch_same net js one other ends (Port p) (Port q) n m h k =
    let back = swapped net js one other ends in
    let same : p ≡ q = first_only p q (λ low. k.3 p low (port_again net js one other ends p h.1)) (λ low. h.3 q low (port_again net js other one back q k.1)) in
    let place : n ≡ m = h.0 ∙ ap (λ (l : List Step). length l) (same_steps net js one other ends p (port_low net js one p ends.here.rules h.1)) ∙ ap (λ x. length (steps_on net x other)) same ∙ sym k.0 in
    ap (λ x. Mismatch (Port x) n) same ∙ ap (λ x. Mismatch (Port q) x) place

none_mismatch : (net : Topology) (js : RunJournals) (one other : List Event) → AreEnds net js one other → (a : Actor) (n : ℕ) → IsFirstMismatch net js one a n → NoneMismatches net js other → ⊥
none_mismatch net js one other ends (Source c) n h none = none.sources c (source_again net js one other ends c h.1).1
none_mismatch net js one other ends (Port p) n h none = none.ports p (port_again net js one other ends p h.1)

ended : (net : Topology) (js : RunJournals) → IsWithinRules net → (events : List Event) → All AsksRate events → StandsStill net js (reverse events) → HaveEnded net js (reverse events)
ended net js rules events rates stands = record { rules = rules; rates = all_reversed AsksRate events rates; stands = stands }

pub one_end : (net : Topology) (js : RunJournals) → IsWithinRules net → AreJournalsOf net js → HaveOneEnd net js
one_end net js rules are one other rates more stands still actor among =
    at actor among
  where
    ends : AreEnds net js one other
    ends = record { journals = are; here = record { rules = rules; rates = rates; stands = stands }; there = record { rules = rules; rates = more; stands = still } }

    at : (actor : Actor) → IsAmong (length net.conns) (length net.capacities) actor → placed_on net one actor ≡ placed_on net other actor
    at (Source c) low = ap (λ (l : List SourceEntry). length l) (same_entries net js one other ends c low)
    at (Port p) low = ap (λ (l : List Step). length l) (same_steps net js one other ends p low)

pub one_fault : (net : Topology) (js : RunJournals) → IsWithinRules net → AreJournalsOf net js → HaveOneFault net js
one_fault net js rules are Memory other first second h k = absurd (first refl)
one_fault net js rules are (Mismatch a n) Memory first second h k = absurd (second refl)
one_fault net js rules are (NoOrder s) Memory first second h k = absurd (second refl)
one_fault net js rules are (Mismatch a n) (Mismatch b m) first second h k =
    mismatch_same net js (reverse h.0) (reverse k.0) (record { journals = are; here = ended net js rules h.0 h.1 h.2; there = ended net js rules k.0 k.1 k.2 }) a b n m h.3 k.3
one_fault net js rules are (Mismatch a n) (NoOrder t) first second h k =
    absurd (none_mismatch net js (reverse h.0) (reverse k.0) (record { journals = are; here = ended net js rules h.0 h.1 h.2; there = ended net js rules k.0 k.1 k.2 }) a n h.3 k.3)
one_fault net js rules are (NoOrder s) (Mismatch b m) first second h k =
    absurd (none_mismatch net js (reverse k.0) (reverse h.0) (record { journals = are; here = ended net js rules k.0 k.1 k.2; there = ended net js rules h.0 h.1 h.2 }) b m k.3 h.3)
one_fault net js rules are (NoOrder s) (NoOrder t) first second h k =
    let ends : AreEnds net js (reverse h.0) (reverse k.0) = record { journals = are; here = ended net js rules h.0 h.1 h.2; there = ended net js rules k.0 k.1 k.2 } in
    ap NoOrder (h.4 ∙ left_same net js (reverse h.0) (reverse k.0) ends ∙ sym k.4)
