-- What a look at a source's next entry shows.
use Rattle.std.proofs.Common.{inl, ◌≡◌, ◌≢◌, ℕ, ◌+◌, ◌<◌, ◌≤◌, refl, ap, true, false, List, [], ◌∷◌, ◌++◌, length, reverse, ◌∙◌, sym, subst, None, Some, Vec, arith}
use Rattle.std.specs.Prelude.{◌&&◌, not, slice_get, slice_index, get_or}
use Rattle.std.proofs.lemmas.List.Sums.{sum_by-set}
use Rattle.std.specs.Global.{Global}
use Rattle.std.proofs.Math.ListN.{set, length-set}
use Rattle.std.proofs.lemmas.Bool.{false≢true}
use Rattle.std.proofs.lemmas.Option.{slice_get_read, slice_get_past, get_or_from_slice_get, slice_get-get_or}
use Rattle.abt_net.specs.Topology.{Topology}
use Rattle.abt_model.specs.declared.event.Event.{Event}
use Rattle.abt_model.specs.declared.outcome.Outcome.{Outcome}
use Rattle.abt_model.specs.Outcomes.{outcome_of}
use Rattle.abt_model.specs.Run.{facts_after}
use Rattle.abt_journal.specs.declared.entry.Entry.{Entry}
use Rattle.abt_model.specs.declared.entry.SourceEntry.{SourceEntry}
use Rattle.abt_model.specs.declared.entry.SourceEntry.TheVariants.{Did}
use Rattle.abt_model.specs.declared.journal.SourceJournal.{SourceJournal}
use Rattle.abt_world.specs.Standing.{WorldView, StandsFor}
use Rattle.abt_weave.specs.Projections.{is_enabled, past_of, place_at_first, entry_made, steps_on, entries_on}
use Rattle.abt_weave.specs.Stuck.{RunJournals, source_journal, entries_in, next_entry, ArePlaced}
use Rattle.abt_weave.proofs.Placing.{fits_placed}
use Rattle.abt_weave.specs.Candidates.{is_own_of, is_told}
use Rattle.abt_weave.specs.Progress.{journaled, total, IsPlacing, IsSourceSettled}
use Rattle.abt_weave.specs.Shown.{AreShown}
use Rattle.abt_weave.proofs.Pasts.{past-is, pushed}
use Rattle.abt_weave.proofs.Growth.{ArePlaces, entries_one, entries_other, steps_none, places_same, places_set}
use Rattle.abt_weave.proofs.OwnEvents.{some_is, own_visit, own_conn, own_made, own_fits, settled_none, settled_absent, settled_differs}

-- the place that is read is how many entries there are
pub place_read : (places : List ℕ) (counts : ℕ → ℕ) (i place : ℕ) → ArePlaces places counts → i < length places → place ≡ get_or places i place → place ≡ counts i
place_read places counts i place are low read =
    sym (get_or_from_slice_get places i place 0 (slice_get_read places (length places) i place refl low read)) ∙ are i low

pub source_read : (ports : List (Vec Entry Global)) (sources : List SourceJournal) (c : ℕ) (j : SourceJournal) → c < length sources → j ≡ get_or sources c j → slice_get sources c ≡ Some j
source_read ports sources c j low read = slice_get_read sources (length sources) c j refl low read

-- The next entry of a source is that at its place.
pub next_read : (net : Topology) (ports : List (Vec Entry Global)) (sources : List SourceJournal) (events : List Event) (world : WorldView) (sp pp : List ℕ) (c k : ℕ) (j : SourceJournal) (entries : List SourceEntry) (place : ℕ) →
    IsPlacing net (journaled ports sources) events world sp pp → k ≡ c → c < length sources → j ≡ get_or sources k j → entries ≡ (get_or sources k j).entries → place ≡ get_or sp k place →
    next_entry net (journaled ports sources) (reverse events) c ≡ slice_get entries place
next_read net ports sources events world sp pp c k j entries place progress same low read are at =
    let js = journaled ports sources in
    let lowk : k < length sources = subst (λ n. n < length sources) (sym same) low in
    let lowp : k < length sp = subst (λ n. k < n) (sym progress.source_count) lowk in
    let here : place ≡ length (entries_on net k (reverse events)) = place_read sp (λ d. length (entries_on net d (reverse events))) k place progress.source_places lowp at in
    let journal : source_journal js k ≡ entries = ap entries_in (source_read ports sources k j lowk read) ∙ ap (λ (x : SourceJournal). x.entries) read ∙ sym are in
    subst (λ d. next_entry net js (reverse events) d ≡ slice_get entries place) same
    (ap (λ (l : List SourceEntry). slice_get l (length (entries_on net k (reverse events)))) journal ∙ ap (slice_get entries) (sym here))

pub past_settled : (net : Topology) (js : RunJournals) (earlier : List Event) (c : ℕ) (entries : List SourceEntry) (place : ℕ) → next_entry net js earlier c ≡ slice_get entries place → length entries ≤ place → IsSourceSettled net js earlier c false
past_settled net js earlier c entries place next past =
    settled_none net js earlier c (λ event told is own. (let clash : None ≡ Some (Did event told) = sym (slice_get_past entries place past) ∙ sym next ∙ is in cc))

pub other_settled : (net : Topology) (js : RunJournals) (earlier : List Event) (c : ℕ) (entries : List SourceEntry) (place : ℕ) (d : SourceEntry) → next_entry net js earlier c ≡ slice_get entries place →
    ((event : Event) (told : Outcome) → get_or entries place d ≡ Did event told → ⊥) → IsSourceSettled net js earlier c false
other_settled net js earlier c entries place d next never =
    settled_none net js earlier c (λ event told is own. never event told (get_or_from_slice_get entries place (Did event told) d (sym next ∙ is)))

-- what stands at a place
pub stands_at : (entries : List SourceEntry) (place : ℕ) (d x : SourceEntry) → place < length entries → get_or entries place d ≡ x → slice_get entries place ≡ Some x
stands_at entries place d x low is = slice_get-get_or entries place d low ∙ ap (λ (y : SourceEntry). Some y) is

pub foreign_settled : (net : Topology) (js : RunJournals) (earlier : List Event) (c : ℕ) (event : Event) (told : Outcome) → next_entry net js earlier c ≡ Some (Did event told) →
    is_own_of c event ≡ false → IsSourceSettled net js earlier c false
foreign_settled net js earlier c event told next foreign =
    settled_none net js earlier c (λ other y is own. (let at : Some (Did event told) ≡ Some (Did other y) = sym next ∙ is in let same : other ≡ event = cc in false≢true (sym foreign ∙ ap (is_own_of c) (sym same) ∙ own)))

-- placing what a source did
pub own_placed : (net : Topology) (js : RunJournals) (events : List Event) (world new : WorldView) (sp pp : List ℕ) (c : ℕ) (event : Event) (told : Outcome) →
    IsPlacing net js events world sp pp → c < length sp → next_entry net js (reverse events) c ≡ Some (Did event told) → is_own_of c event ≡ true →
    outcome_of net (facts_after net events) event ≡ told → is_told event && not (is_enabled (outcome_of net (facts_after net events) event)) ≡ false → StandsFor net (events ++ event ∷ []) new →
    IsPlacing net js (events ++ event ∷ []) new (set sp c (slice_index sp c + 1)) pp
own_placed net js events world new sp pp c event told progress low next own answers enabled stands =
    let earlier = reverse events in
    let past = past-is net events in
    let answers2 : outcome_of net (past_of net earlier) event ≡ told = subst (λ w. outcome_of net w event ≡ told) past answers in
    let enabled2 : is_told event && not (is_enabled (outcome_of net (past_of net earlier) event)) ≡ false = subst (λ w. is_told event && not (is_enabled (outcome_of net w event)) ≡ false) past enabled in
    let made : entry_made net earlier event ≡ Some (Did event (outcome_of net (past_of net earlier) event)) = own_made (place_at_first net earlier event) c event (outcome_of net (past_of net earlier) event) own enabled2 in
    let whose = own_conn c event own in
    let now = sym (pushed events event) in
    let fits = own_fits net js earlier c event told own answers2 enabled2 next in
    record {
      stands = stands;
      placed = subst (ArePlaced net js) now (fits_placed net js earlier event progress.placed fits);
      shown = subst (AreShown net js) now (inl fits, progress.shown);
      source_count = length-set sp c (slice_index sp c + 1) ∙ progress.source_count;
      port_count = progress.port_count;
      source_places = subst (λ l. ArePlaces (set sp c (slice_index sp c + 1)) (λ d. length (entries_on net d l))) now
          (places_set sp c (λ d. length (entries_on net d earlier)) (λ d. length (entries_on net d (event ∷ earlier))) low
          (entries_one net earlier event c (Did event (outcome_of net (past_of net earlier) event)) made whose)
          (λ d differ. ap (λ (l : List SourceEntry). length l) (entries_other net earlier event d (λ e. differ (some_is c d (sym whose ∙ e)))))
          progress.source_places);
      port_places = subst (λ l. ArePlaces pp (λ p. length (steps_on net p l))) now
          (places_same pp (λ p. length (steps_on net p earlier)) (λ p. length (steps_on net p (event ∷ earlier)))
          (λ p. ap (λ l. length l) (steps_none net earlier event p (own_visit net (past_of net earlier) c event own)))
          progress.port_places);
    }

-- a place goes on by one
pub sum-set_up : (places : List ℕ) (k place : ℕ) → k < length places → place ≡ slice_index places k → total (set places k (place + 1)) ≡ total places + 1
sum-set_up places k place low at = let e = sum_by-set (λ n. n) places k (place + 1) 0 low in omega (arith, e, at)

-- the same events, with another world for them
pub progress_kept : (net : Topology) (js : RunJournals) (events more : List Event) (world new : WorldView) (sp pp : List ℕ) → IsPlacing net js events world sp pp → StandsFor net events new → more ≡ events → IsPlacing net js more new sp pp
progress_kept net js events more world new sp pp progress stands same = subst (λ l. IsPlacing net js l new sp pp) (sym same) (record {
  stands = stands;
  placed = progress.placed;
  shown = progress.shown;
  source_count = progress.source_count;
  port_count = progress.port_count;
  source_places = progress.source_places;
  port_places = progress.port_places;
})

-- what a source did is placed, and one entry more
pub placed_more : (net : Topology) (js : RunJournals) (events more : List Event) (world new : WorldView) (sp pp : List ℕ) (c k place : ℕ) (event : Event) (told : Outcome) →
    IsPlacing net js events world sp pp → k ≡ c → c < length sp → place ≡ get_or sp k place → next_entry net js (reverse events) c ≡ Some (Did event told) → is_own_of c event ≡ true →
    outcome_of net (facts_after net events) event ≡ told → is_told event && not (is_enabled (outcome_of net (facts_after net events) event)) ≡ false → StandsFor net (events ++ event ∷ []) new →
    more ≡ events ++ event ∷ [] →
    IsPlacing net js more new (set sp k (place + 1)) pp × (total sp + total pp < total (set sp k (place + 1)) + total pp)
placed_more net js events more world new sp pp c k place event told progress same low read next own answers enabled stands is =
    let lowk : k < length sp = subst (λ n. n < length sp) (sym same) low in
    let at : place ≡ slice_index sp k = sym (get_or_from_slice_get sp k place 0 (slice_get_read sp (length sp) k place refl lowk read)) in
    let whole = own_placed net js events world new sp pp c event told progress low next own answers enabled stands in (
      subst (λ l. IsPlacing net js l new (set sp k (place + 1)) pp) (sym is)
          (subst (λ n. IsPlacing net js (events ++ event ∷ []) new (set sp k (n + 1)) pp) (sym at)
          (subst (λ n. IsPlacing net js (events ++ event ∷ []) new (set sp n (slice_index sp n + 1)) pp) (sym same) whole)),
      omega (arith, sum-set_up sp k place lowk at),
    )

pub absent_settled : (net : Topology) (js : RunJournals) (events more : List Event) (world new : WorldView) (sp pp : List ℕ) (c : ℕ) (event : Event) (told : Outcome) →
    IsPlacing net js events world sp pp → next_entry net js (reverse events) c ≡ Some (Did event told) → is_told event ≡ true → is_enabled (outcome_of net (facts_after net events) event) ≡ false → StandsFor net events new →
    more ≡ events → IsPlacing net js more new sp pp × (more ≡ events) × IsSourceSettled net js (reverse events) c false
absent_settled net js events more world new sp pp c event told progress next tells off stands same = (
  progress_kept net js events more world new sp pp progress stands same,
  same,
  settled_absent net js (reverse events) c event told next tells (subst (λ w. is_enabled (outcome_of net w event) ≡ false) (past-is net events) off),
)

pub differs_settled : (net : Topology) (js : RunJournals) (events more : List Event) (world new : WorldView) (sp pp : List ℕ) (c : ℕ) (event : Event) (told : Outcome) →
    IsPlacing net js events world sp pp → next_entry net js (reverse events) c ≡ Some (Did event told) → is_own_of c event ≡ true → outcome_of net (facts_after net events) event ≢ told →
    is_told event && not (is_enabled (outcome_of net (facts_after net events) event)) ≡ false → StandsFor net events new →
    more ≡ events → IsPlacing net js more new sp pp × (more ≡ events) × IsSourceSettled net js (reverse events) c true
differs_settled net js events more world new sp pp c event told progress next own differ enabled stands same = (
  progress_kept net js events more world new sp pp progress stands same,
  same,
  settled_differs net js (reverse events) c event told next own (subst (λ w. outcome_of net w event ≢ told) (past-is net events) differ)
      (subst (λ w. is_told event && not (is_enabled (outcome_of net w event)) ≡ false) (past-is net events) enabled),
)

-- a place that is read
pub place_is : (places : List ℕ) (k c place : ℕ) → k ≡ c → c < length places → place ≡ get_or places k place → place ≡ slice_index places c
place_is places k c place same low read =
    sym (get_or_from_slice_get places k place 0 (slice_get_read places (length places) k place refl (subst (λ n. n < length places) (sym same) low) read)) ∙ ap (slice_index places) same
