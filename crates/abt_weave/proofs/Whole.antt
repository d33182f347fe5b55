-- No more entries are placed than there are.
use Rattle.std.proofs.Common.{◌≡◌, ℕ, suc, ◌-◌, ◌<◌, ◌≤◌, refl, ap, Bool, true, false, List, [], ◌∷◌, length, reverse, ◌∙◌, sym, subst, Option, Some, arith}
use Rattle.std.specs.Prelude.{not, slice_get, slice_index, sum_by, option_map, Vec}
use Rattle.std.specs.Global.{Global}
use Rattle.std.proofs.lemmas.List.{length-append, length-map}
use Rattle.std.proofs.lemmas.List.Sums.{sum_by-cons}
use Rattle.std.proofs.lemmas.Option.{slice_get_within, slice_get-map}
use Rattle.abt_net.specs.Topology.{Topology}
use Rattle.abt_journal.specs.declared.entry.Entry.{Entry}
use Rattle.abt_model.specs.declared.journal.SourceJournal.{SourceJournal}
use Rattle.abt_weave.specs.Projections.{step_of, steps_on, entries_on}
use Rattle.abt_weave.specs.Stuck.{IsBeginning, steps_in, entries_in, port_journal, source_journal}
use Rattle.abt_weave.specs.declared.progress.Progress.{Progress}
use Rattle.abt_weave.specs.Progress.{journaled, total, count, whole, IsProgress}

total_low : {A : Type 0} → (size : A → ℕ) (xs : List A) (places : List ℕ) → length places ≡ length xs → ((i : ℕ) (x : A) → slice_get xs i ≡ Some x → slice_index places i ≤ size x) → total places ≤ sum_by size xs
total_low size [] [] same low = omega arith
total_low size [] (n ∷ places) same low = absurd (omega (arith, same))
total_low size (x ∷ xs) [] same low = absurd (omega (arith, same))
total_low size (x ∷ xs) (n ∷ places) same low =
    let rest = total_low size xs places (omega (arith, same)) (λ i y e. low (suc i) y e) in
    let first : n ≤ size x = low 0 x refl in
    omega (arith, rest, first, sum_by-cons size x xs, sum_by-cons (λ (m : ℕ). m) n places)

begun_low : {A : Type 0} → (xs ys : List A) → IsBeginning xs ys → length xs ≤ length ys
begun_low xs ys begins = let e = ap (λ l. length l) begins.1 ∙ length-append xs begins.0 in omega (arith, e)

pub count_low : (net : Topology) (ports : List (Vec Entry Global)) (sources : List SourceJournal) (progress : Progress) → IsProgress net (journaled ports sources) progress → count progress ≤ whole ports sources
count_low net ports sources progress is =
    let js = journaled ports sources in
    let earlier = reverse progress.events.items in
    let sp = progress.source_places.items in
    let pp = progress.port_places.items in
    let a = total_low (λ (journal : SourceJournal). length journal.entries) sources sp is.source_count (λ i x e.
    (let low : i < length sp = subst (λ n. i < n) (sym is.source_count) (slice_get_within sources i x e) in
    let b = begun_low (entries_on net i earlier) (source_journal js i) (is.placed.conns i) in
    let l : length (source_journal js i) ≡ length x.entries = ap (λ (o : Option SourceJournal). length (entries_in o)) e in
    omega (arith, is.source_places i low, b, l))) in
    let b = total_low (λ (entries : Vec Entry Global). length entries.items) ports pp (is.port_count ∙ length-map ports (λ (entries : Vec Entry Global). entries.items)) (λ i x e.
    (let low : i < length pp = subst (λ n. i < n) (sym (is.port_count ∙ length-map ports (λ (entries : Vec Entry Global). entries.items))) (slice_get_within ports i x e) in
    let d = begun_low (steps_on net i earlier) (port_journal js i) (is.placed.ports i) in
    let l : length (port_journal js i) ≡ length x.items =
    ap (λ o. length (steps_in o)) (slice_get-map (λ (entries : Vec Entry Global). entries.items) ports i ∙ ap (option_map (λ (entries : Vec Entry Global). entries.items)) e) ∙ length-map x.items step_of in
    omega (arith, is.port_places i low, d, l))) in
    omega (arith, a, b)

-- a measure falls
pub falls : (ports : List (Vec Entry Global)) (sources : List SourceJournal) (old new : Progress) → count old < count new → count new ≤ whole ports sources → whole ports sources - count new < whole ports sources - count old
falls ports sources old new more low = omega (arith, more, low)

pub not_not : (b : Bool) → not b ≡ false → b ≡ true
not_not true h = refl
not_not false h = sym h

pub not_so : (b : Bool) → not b ≡ true → b ≡ false
not_so true h = sym h
not_so false h = refl
