-- Journals that are cut before the entries at which they are stuck: they get shorter, and stay journals of their net.
use Rattle.std.proofs.Common.{◌≡◌, ◌≢◌, ◌∙◌, ℕ, zero, suc, ◌+◌, ◌<◌, ◌≤◌, List, [], ◌∷◌, ◌++◌, length, map, take, reverse, Vec, refl, sym, ap, subst, arith}
use Rattle.std.specs.Prelude.{slice_set, slice_get, slice_index_or, nat_lt, flat_map}
use Rattle.std.specs.declared.alloc.Global.{Global}
use Rattle.std.proofs.lemmas.Bool.{cond_both}
use Rattle.std.proofs.lemmas.Bool.Decides.{nat_tests}
use Rattle.std.proofs.lemmas.List.{length-map, length-set, length-take, flat_map_more}
use Rattle.std.proofs.lemmas.Option.{slice_get_within}
use Rattle.abt_net.specs.Topology.{Topology}
use Rattle.abt_model.specs.declared.entry.SourceEntry.TheVariants.{Did}
use Rattle.abt_model.specs.declared.event.Event.{Event}
use Rattle.abt_model.specs.declared.journal.SourceJournal.{SourceJournal}
use Rattle.abt_journal.specs.declared.entry.Entry.{Entry}
use Rattle.abt_weave.specs.Actors.{entry_count}
use Rattle.abt_weave.specs.Faults.{IsWeaveFault, IsFirstMismatch, left_at, left_below, source_left, port_left, all_left}
use Rattle.abt_weave.specs.OneFault.{AreJournalsOf}
use Rattle.abt_weave.specs.Projections.{steps_on, entries_on, step_of}
use Rattle.abt_weave.specs.Stuck.{RunJournals, port_journal, source_journal, steps_in, entries_in}
use Rattle.abt_weave.specs.Woven.{IsWoven}
use Rattle.abt_weave.specs.declared.actor.Actor.{Actor}
use Rattle.abt_weave.specs.declared.actor.Actor.TheVariants.{Source, Port}
use Rattle.abt_weave.specs.declared.actor.Stuck.{Stuck}
use Rattle.abt_weave.specs.declared.fault.WeaveFault.{WeaveFault}
use Rattle.abt_weave.specs.declared.fault.WeaveFault.TheVariants.{Mismatch, NoOrder, Memory}
use Rattle.abt_weave.proofs.Turns.{steps_turns, entries_turns}
use Rattle.abt_audit.specs.Parts.{cut_list, cut_source, no_entries, cut_on, cut_at, cut_all, named_in, AreFaults, IsWovenPart, journals_in}
use Rattle.abt_audit.specs.declared.parting.Part.{Part}
use Rattle.abt_audit.specs.declared.parting.WovenPart.{WovenPart}

-- How many entries there are.

abbrev pub lists_total : {A : Type 0} → List (List A) → ℕ
lists_total [] = 0
lists_total (xs ∷ more) = length xs + lists_total more

abbrev pub sources_total : List SourceJournal → ℕ
sources_total [] = 0
sources_total (journal ∷ more) = length journal.entries + sources_total more

abbrev pub total : RunJournals → ℕ
total js = lists_total js.ports + sources_total js.sources

lists_no_more : {A : Type 0} (lists : List (List A)) (n place : ℕ) → lists_total (cut_list lists n place) ≤ lists_total lists
lists_no_more [] n place = omega arith
lists_no_more (xs ∷ more) zero place = omega (arith, length-take place xs)
lists_no_more (xs ∷ more) (suc n) place = omega (arith, lists_no_more more n place)

sources_no_more : (sources : List SourceJournal) (n place : ℕ) → sources_total (cut_source sources n place) ≤ sources_total sources
sources_no_more [] n place = omega arith
sources_no_more (journal ∷ more) zero place = omega (arith, length-take place journal.entries)
sources_no_more (journal ∷ more) (suc n) place = omega (arith, sources_no_more more n place)

lists_less : (lists : List (List Entry)) (n place : ℕ) → place < length (steps_in (slice_get lists n)) → lists_total (cut_list lists n place) < lists_total lists
lists_less [] n place low = absurd (omega (arith, low))
lists_less (xs ∷ more) zero place low = omega (arith, low, length-map xs step_of, length-take place xs)
lists_less (xs ∷ more) (suc n) place low = omega (arith, lists_less more n place low)

sources_less : (sources : List SourceJournal) (n place : ℕ) → place < length (entries_in (slice_get sources n)) → sources_total (cut_source sources n place) < sources_total sources
sources_less [] n place low = absurd (omega (arith, low))
sources_less (journal ∷ more) zero place low = omega (arith, low, length-take place journal.entries)
sources_less (journal ∷ more) (suc n) place low = omega (arith, sources_less more n place low)

-- an entry of an actor stands at this place
abbrev pub IsThere : RunJournals → Stuck → Type 0
IsThere js stuck = stuck.place < entry_count js stuck.actor

on_no_more : (js : RunJournals) (place : ℕ) (actor : Actor) → total (cut_on js place actor) ≤ total js
on_no_more js place (Port p) = omega (arith, lists_no_more js.ports p place)
on_no_more js place (Source c) = omega (arith, sources_no_more js.sources c place)

on_less : (js : RunJournals) (place : ℕ) (actor : Actor) → place < entry_count js actor → total (cut_on js place actor) < total js
on_less js place (Port p) low = omega (arith, lists_less js.ports p place low)
on_less js place (Source c) low = omega (arith, sources_less js.sources c place low)

all_no_more : (js : RunJournals) (all : List Stuck) → total (cut_all js all) ≤ total js
all_no_more js [] = omega arith
all_no_more js (stuck ∷ more) = omega (arith, all_no_more (cut_at js stuck) more, on_no_more js stuck.place stuck.actor)

-- the first one is there
abbrev pub FirstIsThere : RunJournals → List Stuck → Type 0
FirstIsThere js [] = ⊥
FirstIsThere js (stuck ∷ more) = IsThere js stuck

all_less : (js : RunJournals) (all : List Stuck) → FirstIsThere js all → total (cut_all js all) < total js
all_less js [] there = absurd there
all_less js (stuck ∷ more) there = omega (arith, all_no_more (cut_at js stuck) more, on_less js stuck.place stuck.actor there)

-- What a fault names is there.

abbrev pub AreThere : RunJournals → List Stuck → Type 0
AreThere js [] = Unit {0}
AreThere js (stuck ∷ more) = IsThere js stuck × AreThere js more

there_both : (js : RunJournals) (xs ys : List Stuck) → AreThere js xs → AreThere js ys → AreThere js (xs ++ ys)
there_both js [] ys a b = b
there_both js (x ∷ xs) ys a b = (a.0, there_both js xs ys a.1 b)

there_at : (js : RunJournals) (actor : Actor) (place : ℕ) → AreThere js (left_at actor place (entry_count js actor))
there_at js actor place =
    cond_both (nat_lt place (entry_count js actor)) (record { actor = actor; place = place } ∷ []) [] (AreThere js)
    (λ less. (grind (arith, nat_tests, less), tt)) (λ _. tt)

there_below : (js : RunJournals) (left : ℕ → List Stuck) (n : ℕ) → ((i : ℕ) → AreThere js (left i)) → AreThere js (left_below left n)
there_below js left zero each = tt
there_below js left (suc n) each = there_both js (left_below left n) (left n) (there_below js left n each) (each n)

there_left : (net : Topology) (js : RunJournals) (earlier : List Event) → AreThere js (all_left net js earlier)
there_left net js earlier =
    there_both js (left_below (source_left net js earlier) (length js.sources)) (left_below (port_left net js earlier) (length js.ports))
    (there_below js (source_left net js earlier) (length js.sources) (λ c. there_at js (Source c) (length (entries_on net c earlier))))
    (there_below js (port_left net js earlier) (length js.ports) (λ p. there_at js (Port p) (length (steps_on net p earlier))))

first_there : (js : RunJournals) (all : List Stuck) → all ≢ [] → AreThere js all → FirstIsThere js all
first_there js [] some are = some refl
first_there js (stuck ∷ more) some are = are.0

pub mismatch_there : (net : Topology) (js : RunJournals) (earlier : List Event) (actor : Actor) (place : ℕ) → IsFirstMismatch net js earlier actor place → place < entry_count js actor
mismatch_there net js earlier (Source c) place first =
    let m = first.1 in
    let low = slice_get_within (source_journal js c) _ (Did m.event m.told) m.next in
    let same = ap (λ (l : List _). length l) (entries_turns net earlier m.turns m.turned c) in
    omega (arith, low, same, first.0)
mismatch_there net js earlier (Port p) place first =
    let m = first.1 in
    let low = slice_get_within (port_journal js p) _ m.step m.next in
    let same = ap (λ (l : List _). length l) (steps_turns net earlier m.turns m.turned p) in
    omega (arith, low, same, first.0)

named_there : (net : Topology) (js : RunJournals) (fault : WeaveFault) → fault ≢ Memory → IsWeaveFault net js fault → FirstIsThere js (named_in fault)
named_there net js (Mismatch actor place) other is = mismatch_there net js (reverse is.0) actor place is.3
named_there net js (NoOrder stuck) other is =
    first_there js stuck is.5 (subst (AreThere js) (sym is.4) (there_left net js (reverse is.0)))
named_there net js Memory other is = absurd (other refl)

-- journals without the entries that a fault names and those behind them are fewer
pub fault_less : (net : Topology) (js : RunJournals) (fault : WeaveFault) → fault ≢ Memory → IsWeaveFault net js fault → total (cut_all js (named_in fault)) < total js
fault_less net js fault other is = all_less js (named_in fault) (named_there net js fault other is)

-- One fault after the other.

cut_both : (js : RunJournals) (xs ys : List Stuck) → cut_all js (xs ++ ys) ≡ cut_all (cut_all js xs) ys
cut_both js [] ys = refl
cut_both js (x ∷ xs) ys = cut_both (cut_at js x) xs ys

faults_more : (net : Topology) (js : RunJournals) (faults : List WeaveFault) (fault : WeaveFault) → AreFaults net js faults
    → IsWeaveFault net (cut_all js (flat_map named_in faults)) fault → AreFaults net js (faults ++ fault ∷ [])
faults_more net js [] fault are is = (is, tt)
faults_more net js (first ∷ faults) fault are is = (
  are.0,
  faults_more net (cut_all js (named_in first)) faults fault are.1
      (subst (λ (j : RunJournals). IsWeaveFault net j fault) (cut_both js (named_in first) (flat_map named_in faults)) is),
)

-- These are the journals up to the entries at which they have got stuck so far.
pub record IsUnderWay (net : Topology) (js now : RunJournals) (stuck : List Stuck) : Type 0 where
  pub faults : List WeaveFault
  pub are_faults : AreFaults net js faults
  pub stuck_at : stuck ≡ flat_map named_in faults
  pub is : now ≡ cut_all js stuck

pub begins : (net : Topology) (js now : RunJournals) (stuck : List Stuck) → now ≡ js → stuck ≡ [] → IsUnderWay net js now stuck
begins net js now stuck is none = record { faults = []; are_faults = tt; stuck_at = none; is = is ∙ sym (ap (cut_all js) none) }

pub goes_on : (net : Topology) (js now new : RunJournals) (stuck more named : List Stuck) (fault : WeaveFault) → IsUnderWay net js now stuck → IsWeaveFault net now fault
    → named ≡ named_in fault → new ≡ cut_all now named → more ≡ stuck ++ named → IsUnderWay net js new more
goes_on net js now new stuck more named fault u is names cut all = record {
  faults = u.faults ++ fault ∷ [];
  are_faults = faults_more net js u.faults fault u.are_faults
      (subst (λ (j : RunJournals). IsWeaveFault net j fault) (u.is ∙ ap (cut_all js) u.stuck_at) is);
  stuck_at = all ∙ ap (λ (l : List Stuck). l ++ named) u.stuck_at ∙ ap (λ (l : List Stuck). flat_map named_in u.faults ++ l) names
      ∙ flat_map_more named_in [] u.faults fault;
  is = cut ∙ ap (λ (j : RunJournals). cut_all j named) u.is ∙ sym (cut_both js stuck named) ∙ ap (cut_all js) (sym all);
}

pub ends : (net : Topology) (js now : RunJournals) (part : WovenPart) → IsUnderWay net js now part.stuck → IsWoven net now.ports now.sources part.events
    → IsWovenPart net js part
ends net js now part u w = record {
  faults = u.faults;
  are_faults = u.are_faults;
  stuck_at = u.stuck_at;
  are_woven = subst (λ (j : RunJournals). IsWoven net j.ports j.sources part.events) u.is w;
}

-- There stay as many journals.

on_sized : (net : Topology) (js : RunJournals) (place : ℕ) (actor : Actor) → AreJournalsOf net js → AreJournalsOf net (cut_on js place actor)
on_sized net js place (Port p) are = record { ports = length-set js.ports p (take place (slice_index_or js.ports p [])) ∙ are.ports; conns = are.conns }
on_sized net js place (Source c) are =
    record { ports = are.ports; conns = length-set js.sources c (record { entries = take place (slice_index_or js.sources c no_entries).entries }) ∙ are.conns }

all_sized : (net : Topology) (js : RunJournals) (all : List Stuck) → AreJournalsOf net js → AreJournalsOf net (cut_all js all)
all_sized net js [] are = are
all_sized net js (stuck ∷ more) are = all_sized net (cut_at js stuck) more (on_sized net js stuck.place stuck.actor are)

pub under_way_sized : (net : Topology) (js now : RunJournals) (stuck : List Stuck) → AreJournalsOf net js → IsUnderWay net js now stuck → AreJournalsOf net now
under_way_sized net js now stuck are u = subst (AreJournalsOf net) (sym u.is) (all_sized net js stuck are)

-- What is cut in memory.

abbrev pub lists_in : {A : Type 0} → List (Vec A Global) → List (List A)
lists_in {A} vs = map (λ (items : Vec A Global). items.items) vs

pub list_cut : {A : Type 0} (vs : List (Vec A Global)) (n place : ℕ) (old new : Vec A Global) → n < length vs → old ≡ slice_index_or vs n old
    → new.items ≡ take place old.items → lists_in (slice_set vs n new) ≡ cut_list (lists_in vs) n place
list_cut [] n place old new low at is = absurd (omega (arith, low))
list_cut {A} (v ∷ vs) zero place old new low at is = ap (λ (xs : List A). xs ∷ lists_in vs) (is ∙ ap (λ (w : Vec A Global). take place w.items) at)
list_cut {A} (v ∷ vs) (suc n) place old new low at is = ap (λ (xs : List (List A)). v.items ∷ xs) (list_cut vs n place old new (omega (arith, low)) at is)

pub list_cut_at : {A : Type 0} (vs : List (Vec A Global)) (m n place : ℕ) (old new : Vec A Global) → m ≡ n → m < length vs → old ≡ slice_index_or vs m old
    → new.items ≡ take place old.items → lists_in (slice_set vs m new) ≡ cut_list (lists_in vs) n place
list_cut_at vs m n place old new same low at is = list_cut vs m place old new low at is ∙ ap (λ (k : ℕ). cut_list (lists_in vs) k place) same

-- the fault of the journals that a part has, whose sources are lent
pub fault_of_part : (net : Topology) (part : Part) (sources : List SourceJournal) (fault : WeaveFault) → sources ≡ part.sources.items
    → IsWeaveFault net (record { ports = part.journals; sources = sources }) fault → IsWeaveFault net (journals_in part) fault
fault_of_part net part sources fault lent is =
    subst (λ (ss : List SourceJournal). IsWeaveFault net (record { ports = part.journals; sources = ss }) fault) lent is

pub part_less : (net : Topology) (part new : Part) (fault : WeaveFault) → fault ≢ Memory → IsWeaveFault net (journals_in part) fault
    → journals_in new ≡ cut_all (journals_in part) (named_in fault) → total (journals_in new) < total (journals_in part)
part_less net part new fault other is cut =
    subst (λ (js : RunJournals). total js < total (journals_in part)) (sym cut) (fault_less net (journals_in part) fault other is)
