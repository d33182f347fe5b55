-- How many entries of each journal events are, after one more.
use Rattle.std.proofs.Common.{◌≡◌, ◌≢◌, ℕ, ◌+◌, ◌<◌, inl, inr, refl, ap, List, [], ◌∷◌, ◌++◌, length, ◌∙◌, sym, subst, Option, None, Some}
use Rattle.std.specs.Prelude.{slice_index}
use Rattle.std.proofs.Math.ListN.{set, length-set}
use Rattle.std.proofs.lemmas.List.{get_or-set_other, get_or-set_same}
use Rattle.std.proofs.lemmas.Bool.{cond-false, cond-true, cases_eq, eq-eqb, ne_eqb}
use Rattle.std.proofs.lemmas.List.{append-nil, length-append}
use Rattle.abt_net.specs.Topology.{Topology}
use Rattle.abt_model.specs.declared.event.Event.{Event}
use Rattle.abt_model.specs.Outcomes.{conn_of}
use Rattle.abt_model.specs.declared.entry.SourceEntry.{SourceEntry}
use Rattle.abt_weave.specs.Projections.{Step, Visit, past_of, visit, step_at, steps_on, entry_made, entry_at, entries_on}
use Rattle.abt_weave.proofs.AskedRates.{other_same}

pub entries_other : (net : Topology) (earlier : List Event) (event : Event) (d : ℕ) → conn_of event ≢ Some d → entries_on net d (event ∷ earlier) ≡ entries_on net d earlier
entries_other net earlier event d differ = other_same (conn_of event) d (entries_on net d earlier) differ (entry_made net earlier event)

pub entries_none : (net : Topology) (earlier : List Event) (event : Event) (d : ℕ) → entry_made net earlier event ≡ None → entries_on net d (event ∷ earlier) ≡ entries_on net d earlier
entries_none net earlier event d none =
    ap (λ (o : Option SourceEntry). entries_on net d earlier ++ entry_at (conn_of event) d o) none ∙ append-nil (entries_on net d earlier)

pub entries_one : (net : Topology) (earlier : List Event) (event : Event) (c : ℕ) (x : SourceEntry) → entry_made net earlier event ≡ Some x → conn_of event ≡ Some c →
    length (entries_on net c (event ∷ earlier)) ≡ length (entries_on net c earlier) + 1
entries_one net earlier event c x made same =
    ap (λ (o : Option SourceEntry). length (entries_on net c earlier ++ entry_at (conn_of event) c o)) made
    ∙ ap (λ (own : Option ℕ). length (entries_on net c earlier ++ entry_at own c (Some x))) same
    ∙ ap (λ (l : List SourceEntry). length (entries_on net c earlier ++ l)) (cond-true _ _ _ (eq-eqb c c refl))
    ∙ length-append (entries_on net c earlier) (x ∷ [])

pub steps_none : (net : Topology) (earlier : List Event) (event : Event) (p : ℕ) → visit net (past_of net earlier) event ≡ None → steps_on net p (event ∷ earlier) ≡ steps_on net p earlier
steps_none net earlier event p none =
    ap (λ (o : Option Visit). steps_on net p earlier ++ step_at p (length (steps_on net p earlier)) o) none ∙ append-nil (steps_on net p earlier)

pub steps_other : (net : Topology) (earlier : List Event) (event : Event) (p : ℕ) (v : Visit) → visit net (past_of net earlier) event ≡ Some v → v.port ≢ p → steps_on net p (event ∷ earlier) ≡ steps_on net p earlier
steps_other net earlier event p v is differ =
    ap (λ (o : Option Visit). steps_on net p earlier ++ step_at p (length (steps_on net p earlier)) o) is
    ∙ ap (λ (l : List Step). steps_on net p earlier ++ l) (cond-false _ _ _ (ne_eqb v.port p differ))
    ∙ append-nil (steps_on net p earlier)

pub steps_one : (net : Topology) (earlier : List Event) (event : Event) (p : ℕ) (v : Visit) → visit net (past_of net earlier) event ≡ Some v → v.port ≡ p →
    length (steps_on net p (event ∷ earlier)) ≡ length (steps_on net p earlier) + 1
steps_one net earlier event p v is same =
    ap (λ (o : Option Visit). length (steps_on net p earlier ++ step_at p (length (steps_on net p earlier)) o)) is
    ∙ ap (λ (l : List Step). length (steps_on net p earlier ++ l)) (cond-true _ _ _ (eq-eqb v.port p same))
    ∙ length-append (steps_on net p earlier) (record { place = length (steps_on net p earlier); input = v.input; reply = v.reply } ∷ [])

-- places that say how many entries there are
abbrev pub ArePlaces : List ℕ → (ℕ → ℕ) → Type 0
ArePlaces places counts = (i : ℕ) → i < length places → slice_index places i ≡ counts i

pub places_same : (places : List ℕ) (old new : ℕ → ℕ) → ((i : ℕ) → new i ≡ old i) → ArePlaces places old → ArePlaces places new
places_same places old new same are = λ i low. are i low ∙ sym (same i)

-- one of them goes on by one
pub places_set : (places : List ℕ) (k : ℕ) (old new : ℕ → ℕ) → k < length places → new k ≡ old k + 1 → ((i : ℕ) → k ≢ i → new i ≡ old i) → ArePlaces places old →
    ArePlaces (set places k (slice_index places k + 1)) new
places_set places k old new within one others are i low = elim (cases_eq k i) [
  | inl same ↦ (
      let here : slice_index (set places k (slice_index places k + 1)) k ≡ slice_index places k + 1 = get_or-set_same places k (slice_index places k + 1) 0 within in
      subst (λ j. slice_index (set places k (slice_index places k + 1)) j ≡ new j) same (here ∙ ap (λ n. n + 1) (are k within) ∙ sym one))
  | inr differ ↦ (
      let there : slice_index (set places k (slice_index places k + 1)) i ≡ slice_index places i = get_or-set_other places k i (slice_index places k + 1) 0 (λ e. differ (sym e)) in
      let lower : i < length places = subst (λ n. i < n) (length-set places k (slice_index places k + 1)) low in
      there ∙ are i lower ∙ sym (others i differ))
]
