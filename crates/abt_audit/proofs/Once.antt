-- No actor is named twice among the entries at which journals are stuck: a journal that was cut is woven to its end from then on.
use Rattle.std.proofs.Common.{◌≡◌, ◌≢◌, ◌∙◌, ℕ, zero, suc, ◌<◌, ◌≤◌, List, [], ◌∷◌, ◌++◌, length, take, reverse, refl, sym, ap, subst, arith, inl, inr}
use Rattle.std.specs.Prelude.{◌⊎◌, slice_get, All}
use Rattle.std.proofs.lemmas.List.{append-nil, length-append, length-map, length-take, take-map}
use Rattle.std.proofs.lemmas.List.Elements.{All-nil}
use Rattle.std.proofs.Math.Seq.{take-append_seam}
use Rattle.abt_net.specs.Topology.{Topology, IsWithinRules}
use Rattle.abt_model.specs.Events.{AsksRate}
use Rattle.abt_model.specs.declared.event.Event.{Event}
use Rattle.abt_model.specs.declared.entry.SourceEntry.{SourceEntry}
use Rattle.abt_model.specs.declared.journal.SourceJournal.{SourceJournal}
use Rattle.abt_journal.specs.declared.entry.Entry.{Entry}
use Rattle.abt_weave.specs.Actors.{IsAmong, placed_on, entry_count}
use Rattle.abt_weave.specs.Faults.{IsWeaveFault}
use Rattle.abt_weave.specs.OneFault.{AreJournalsOf}
use Rattle.abt_weave.specs.Projections.{Step, steps_on, entries_on, step_of}
use Rattle.abt_weave.specs.Stuck.{RunJournals, IsBeginning, StandsStill, port_journal, source_journal, steps_in, entries_in}
use Rattle.abt_weave.specs.declared.actor.Actor.{Actor}
use Rattle.abt_weave.specs.declared.actor.Actor.TheVariants.{Source, Port}
use Rattle.abt_weave.specs.declared.actor.Stuck.{Stuck}
use Rattle.abt_weave.specs.declared.fault.WeaveFault.{WeaveFault}
use Rattle.abt_weave.specs.declared.fault.WeaveFault.TheVariants.{Mismatch, NoOrder, Memory}
use Rattle.abt_weave.proofs.AllBelow.{all_below}
use Rattle.abt_weave.proofs.Leavings.{all_reversed}
use Rattle.abt_weave.proofs.NoneWoven.{AreBegun, HaveEnded}
use Rattle.abt_weave.proofs.SentBelow.{IsBelow}
use Rattle.abt_audit.specs.Parts.{NamesEachOnce, cut_list, cut_source, cut_on, cut_at, cut_all, named_in}
use Rattle.abt_audit.proofs.Parted.{mismatch_there}
use Rattle.abt_audit.proofs.Named.{Each, IsNext, each_both, each_of, left_next, left_once, mismatch_place, once_both}

-- Journals that are cut.

step_lists : (lists : List (List Entry)) (n place m : ℕ)
    → (steps_in (slice_get (cut_list lists n place) m) ≡ steps_in (slice_get lists m))
    ⊎ ((m ≡ n) × (steps_in (slice_get (cut_list lists n place) m) ≡ take place (steps_in (slice_get lists m))))
step_lists [] n place m = inl refl
step_lists (xs ∷ more) zero place zero = inr (refl, sym (take-map step_of place xs))
step_lists (xs ∷ more) zero place (suc m) = inl refl
step_lists (xs ∷ more) (suc n) place zero = inl refl
step_lists (xs ∷ more) (suc n) place (suc m) = elim (step_lists more n place m) [
  | inl same ↦ inl same
  | inr cut ↦ inr (ap suc cut.0, cut.1)
]

entry_lists : (sources : List SourceJournal) (n place m : ℕ)
    → (entries_in (slice_get (cut_source sources n place) m) ≡ entries_in (slice_get sources m))
    ⊎ ((m ≡ n) × (entries_in (slice_get (cut_source sources n place) m) ≡ take place (entries_in (slice_get sources m))))
entry_lists [] n place m = inl refl
entry_lists (journal ∷ more) zero place zero = inr (refl, refl)
entry_lists (journal ∷ more) zero place (suc m) = inl refl
entry_lists (journal ∷ more) (suc n) place zero = inl refl
entry_lists (journal ∷ more) (suc n) place (suc m) = elim (entry_lists more n place m) [
  | inl same ↦ inl same
  | inr cut ↦ inr (ap suc cut.0, cut.1)
]

own_steps : (lists : List (List Entry)) (n place : ℕ) → length (steps_in (slice_get (cut_list lists n place) n)) ≤ place
own_steps [] n place = omega arith
own_steps (xs ∷ more) zero place = omega (arith, length-map (take place xs) step_of, length-take place xs)
own_steps (xs ∷ more) (suc n) place = own_steps more n place

own_entries : (sources : List SourceJournal) (n place : ℕ) → length (entries_in (slice_get (cut_source sources n place) n)) ≤ place
own_entries [] n place = omega arith
own_entries (journal ∷ more) zero place = omega (arith, length-take place journal.entries)
own_entries (journal ∷ more) (suc n) place = own_entries more n place

cut_own : (js : RunJournals) (s : Stuck) → entry_count (cut_at js s) s.actor ≤ s.place
cut_own js s = on js s.place s.actor
  where
    on : (js : RunJournals) (place : ℕ) (a : Actor) → entry_count (cut_on js place a) a ≤ place
    on js place (Source c) = own_entries js.sources c place
    on js place (Port p) = own_steps js.ports p place

shorter : {A : Type 0} (xs ys : List A) (n : ℕ) → ys ≡ take n xs → length ys ≤ length xs
shorter {A} xs ys n is = omega (arith, ap (λ (l : List A). length l) is, length-take n xs)

cut_less : (js : RunJournals) (place : ℕ) (of a : Actor) → entry_count (cut_on js place of) a ≤ entry_count js a
cut_less js place (Source c) (Source d) = elim (entry_lists js.sources c place d) [
  | inl same ↦ omega (arith, ap (λ (l : List SourceEntry). length l) same)
  | inr cut ↦ shorter (source_journal js d) (entries_in (slice_get (cut_source js.sources c place) d)) place cut.1
]
cut_less js place (Port p) (Port q) = elim (step_lists js.ports p place q) [
  | inl same ↦ omega (arith, ap (λ (l : List Step). length l) same)
  | inr cut ↦ shorter (port_journal js q) (steps_in (slice_get (cut_list js.ports p place) q)) place cut.1
]
cut_less js place (Source c) (Port q) = omega arith
cut_less js place (Port p) (Source d) = omega arith

all_less_on : (js : RunJournals) (all : List Stuck) (a : Actor) → entry_count (cut_all js all) a ≤ entry_count js a
all_less_on js [] a = omega arith
all_less_on js (s ∷ more) a = omega (arith, all_less_on (cut_at js s) more a, cut_less js s.place s.actor a)

all_own : (js : RunJournals) (all : List Stuck) → Each (λ s. entry_count (cut_all js all) s.actor ≤ s.place) all
all_own js [] = tt
all_own js (s ∷ more) = (omega (arith, all_less_on (cut_at js s) more s.actor, cut_own js s), all_own (cut_at js s) more)

-- what begins a list begins it cut behind that
begins_cut : {A : Type 0} (xs ys zs : List A) (n : ℕ) → n ≡ length xs → zs ≡ take n ys → IsBeginning xs ys → IsBeginning xs zs
begins_cut xs ys zs n size is b =
    ([], is ∙ ap (λ k. take k ys) size ∙ ap (take (length xs)) b.1 ∙ take-append_seam xs b.0 ∙ sym (append-nil xs))

cut_begun : (net : Topology) (js : RunJournals) (ended : List Event) (place : ℕ) (a : Actor) → AreBegun net js ended → place ≡ placed_on net ended a
    → AreBegun net (cut_on js place a) ended
cut_begun net js ended place (Source c) begun at = record {
  ports = begun.ports;
  conns = λ d low. elim (entry_lists js.sources c place d) [
    | inl same ↦ subst (λ (l : List SourceEntry). IsBeginning (entries_on net d ended) l) (sym same) (begun.conns d low)
    | inr cut ↦ begins_cut (entries_on net d ended) (source_journal js d) (entries_in (slice_get (cut_source js.sources c place) d)) place
        (at ∙ ap (λ n. length (entries_on net n ended)) (sym cut.0)) cut.1 (begun.conns d low)
  ];
}
cut_begun net js ended place (Port p) begun at = record {
  ports = λ q low. elim (step_lists js.ports p place q) [
    | inl same ↦ subst (λ (l : List Step). IsBeginning (steps_on net q ended) l) (sym same) (begun.ports q low)
    | inr cut ↦ begins_cut (steps_on net q ended) (port_journal js q) (steps_in (slice_get (cut_list js.ports p place) q)) place
        (at ∙ ap (λ n. length (steps_on net n ended)) (sym cut.0)) cut.1 (begun.ports q low)
  ];
  conns = begun.conns;
}

all_begun : (net : Topology) (js : RunJournals) (ended : List Event) (all : List Stuck) → Each (λ s. s.place ≡ placed_on net ended s.actor) all → AreBegun net js ended
    → AreBegun net (cut_all js all) ended
all_begun net js ended [] at begun = begun
all_begun net js ended (s ∷ more) at begun = all_begun net (cut_at js s) ended more at.1 (cut_begun net js ended s.place s.actor begun at.0)

-- One fault after the other.

-- events that a journal which was cut is no longer than
abbrev pub IsUsed : Topology → RunJournals → List Event → Actor → Type 0
IsUsed net js events a = IsAmong (length net.conns) (length net.capacities) a × (entry_count js a ≤ placed_on net events a)

-- Some events begin the journals, and are those that were cut to their end.
pub record IsHeld (net : Topology) (js : RunJournals) (stuck : List Stuck) : Type 0 where
  pub events : List Event
  pub rates : All AsksRate events
  pub begun : AreBegun net js events
  pub used : Each (λ s. IsUsed net js events s.actor) stuck
  pub once : NamesEachOnce stuck

pub held_first : (net : Topology) (js : RunJournals) (stuck : List Stuck) → stuck ≡ [] → IsHeld net js stuck
held_first net js stuck none = subst (IsHeld net js) (sym none) (record {
  events = [];
  rates = All-nil AsksRate;
  begun = record { ports = λ p low. (port_journal js p, refl); conns = λ c low. (source_journal js c, refl) };
  used = tt;
  once = tt;
})

begins_short : {A : Type 0} (xs ys : List A) → IsBeginning xs ys → length xs ≤ length ys
begins_short {A} xs ys b = omega (arith, ap (λ (l : List A). length l) b.1, length-append xs b.0)

low_placed : (net : Topology) (less more : List Event) (a : Actor) → IsBelow net less more → IsAmong (length net.conns) (length net.capacities) a
    → placed_on net less a ≤ placed_on net more a
low_placed net less more (Source c) below low = begins_short (entries_on net c less) (entries_on net c more) (below.conns c low)
low_placed net less more (Port p) below low = begins_short (steps_on net p less) (steps_on net p more) (below.ports p low)

there_among : (net : Topology) (js : RunJournals) (place : ℕ) (a : Actor) → AreJournalsOf net js → place < entry_count js a
    → IsAmong (length net.conns) (length net.capacities) a
there_among net js place (Source c) are low = omega (arith, are.conns, some_entry js.sources c place low)
  where
    some_entry : (sources : List SourceJournal) (c place : ℕ) → place < length (entries_in (slice_get sources c)) → c < length sources
    some_entry [] c place low = absurd (omega (arith, low))
    some_entry (journal ∷ more) zero place low = omega arith
    some_entry (journal ∷ more) (suc c) place low = omega (arith, some_entry more c place low)
there_among net js place (Port p) are low = omega (arith, are.ports, some_step js.ports p place low)
  where
    some_step : (lists : List (List Entry)) (p place : ℕ) → place < length (steps_in (slice_get lists p)) → p < length lists
    some_step [] p place low = absurd (omega (arith, low))
    some_step (xs ∷ more) zero place low = omega arith
    some_step (xs ∷ more) (suc p) place low = omega (arith, some_step more p place low)

used_own : (net : Topology) (js new : RunJournals) (ended : List Event) (all : List Stuck) → AreJournalsOf net js → Each (IsNext net js ended) all
    → Each (λ s. entry_count new s.actor ≤ s.place) all → Each (λ s. IsUsed net new ended s.actor) all
used_own net js new ended [] are next own = tt
used_own net js new ended (s ∷ more) are next own = (
  (there_among net js s.place s.actor are next.0.1, omega (arith, own.0, next.0.0)),
  used_own net js new ended more are next.1 own.1,
)

held_by : (net : Topology) (js : RunJournals) (stuck named : List Stuck) (ended : List Event) → AreJournalsOf net js → IsHeld net js stuck → HaveEnded net js ended
    → Each (IsNext net js ended) named → NamesEachOnce named → IsHeld net (cut_all js named) (stuck ++ named)
held_by net js stuck named ended are h end next once =
    let below = all_below net js ended end h.events h.rates h.begun in
    let used = each_of (λ s. IsUsed net js h.events s.actor) (λ s. IsUsed net js ended s.actor) stuck
    (λ s is. (is.0, omega (arith, is.1, low_placed net h.events ended s.actor below is.0))) h.used in
    let places = each_of (IsNext net js ended) (λ s. s.place ≡ placed_on net ended s.actor) named (λ s is. is.0) next in
    record {
      events = ended;
      rates = end.rates;
      begun = all_begun net js ended named places (record { ports = λ p low. end.stands.placed.ports p; conns = λ c low. end.stands.placed.conns c });
      used = each_both (λ s. IsUsed net (cut_all js named) ended s.actor) stuck named
          (each_of (λ s. IsUsed net js ended s.actor) (λ s. IsUsed net (cut_all js named) ended s.actor) stuck
          (λ s is. (is.0, omega (arith, is.1, all_less_on js named s.actor))) used)
          (used_own net js (cut_all js named) ended named are next (all_own js named));
      once = once_both (λ a. entry_count js a ≤ placed_on net ended a) (λ a. placed_on net ended a < entry_count js a)
          (λ a full left. omega (arith, full, left)) stuck named
          (each_of (λ s. IsUsed net js ended s.actor) (λ s. entry_count js s.actor ≤ placed_on net ended s.actor) stuck (λ s is. is.1) used)
          (each_of (IsNext net js ended) (λ s. placed_on net ended s.actor < entry_count js s.actor) named (λ s is. omega (arith, is.0, is.1)) next)
          h.once once;
    }

ended_by : (net : Topology) (js : RunJournals) (events : List Event) → IsWithinRules net → All AsksRate events → StandsStill net js (reverse events)
    → HaveEnded net js (reverse events)
ended_by net js events rules rates stands = record { rules = rules; rates = all_reversed AsksRate events rates; stands = stands }

pub held_on : (net : Topology) (js : RunJournals) (stuck : List Stuck) (fault : WeaveFault) → IsWithinRules net → AreJournalsOf net js → IsHeld net js stuck
    → fault ≢ Memory → IsWeaveFault net js fault → IsHeld net (cut_all js (named_in fault)) (stuck ++ named_in fault)
held_on net js stuck (Mismatch actor place) rules are h other is =
    held_by net js stuck (record { actor = actor; place = place } ∷ []) (reverse is.0) are h (ended_by net js is.0 rules is.1 is.2)
    ((mismatch_place net js (reverse is.0) actor place is.3, mismatch_there net js (reverse is.0) actor place is.3), tt) (tt, tt)
held_on net js stuck (NoOrder all) rules are h other is =
    held_by net js stuck all (reverse is.0) are h (ended_by net js is.0 rules is.1 is.2)
    (subst (Each (IsNext net js (reverse is.0))) (sym is.4) (left_next net js (reverse is.0)))
    (subst NamesEachOnce (sym is.4) (left_once net js (reverse is.0)))
held_on net js stuck Memory rules are h other is = absurd (other refl)

pub held_same : (net : Topology) (js new : RunJournals) (stuck more named : List Stuck) → new ≡ cut_all js named → more ≡ stuck ++ named
    → IsHeld net (cut_all js named) (stuck ++ named) → IsHeld net new more
held_same net js new stuck more named cut all h = subst (λ (j : RunJournals). IsHeld net j more) (sym cut) (subst (IsHeld net (cut_all js named)) (sym all) h)
