-- The exchange that adds a deed keeps the rule.
use Rattle.std.proofs.Common.{◌≡◌, ◌≢◌, ℕ, ◌+◌, ◌<◌, Bool, true, false, List, [], ◌++◌, length, refl, ap, sym, subst, ◌∙◌, inl, inr, None, slice_set}
use Rattle.std.specs.Prelude.{◌==◌, MatchBool}
use Rattle.std.proofs.Math.ListN.{set, length-set}
use Rattle.std.proofs.lemmas.List.{append-nil, get_or-set_other, get_or-set_same}
use Rattle.std.proofs.lemmas.Bool.{cond-true, cond-false, cases_eq, eq-eqb, ne_eqb, eqb-true}
use mathlib.Core.List.{IsPrefix}
use prog.Atomic.{either}
use Rattle.logbook.specs.Pages.{Cell, cell, keeps, no_nib, step, Moves, Goes}
use Rattle.abt_net.specs.Topology.{Topology}
use Rattle.abt_history.specs.declared.deed.Deed.{Deed}
use Rattle.abt_history.specs.Histories.{count_of, words_of}
use Rattle.abt_history.specs.Legal.{IsLegal, MayAt, IsAdded, with_turns}
use Rattle.abt_history.specs.Rules.{IsKept, Adds}

abbrev pub shown : List Deed → List Deed
shown log = []

abbrev pub moved : List Deed → List Deed → ℕ → Type 0
moved xs ys n = Unit {0}

-- one word is set to what it counts then, and no other counts more
set_kept : (net : Topology) (cs : List Cell) (log new : List Deed) (key n : ℕ) → key < words_of net → IsKept net cs log → IsLegal net new → n ≡ count_of net key new →
    ((k : ℕ) → k ≢ key → count_of net k new ≡ count_of net k log) → IsKept net (slice_set cs key (n, true)) new
set_kept net cs log new key n low kept legal here others = record {
  all = length-set cs key (n, true) ∙ kept.all;
  each = λ k within. elim (cases_eq k key) [
    | inl same ↦ (
        let inside : key < length cs = subst (λ m. key < m) (sym kept.all) low in
        subst (λ j. cell (slice_set cs key (n, true)) j ≡ (count_of net j new, true)) (sym same)
        (get_or-set_same cs key (n, true) (0, false) inside ∙ ap (λ (m : ℕ). (m, true)) here))
    | inr differ ↦ get_or-set_other cs key k (n, true) (0, false) differ ∙ kept.each k within ∙ ap (λ (m : ℕ). (m, true)) (sym (others k differ))
  ];
  legal = legal;
}

abbrev Going : Topology → ℕ → List Cell → List Deed → List Deed → Deed → ℕ → Type 0
Going net key cs log v deed deeds =
    Goes (IsKept net) shown moved key (v, (no_nib, None)) (λ n. either (n == deeds) (deeds + 1) n) (Adds net (step key deeds (deeds + 1) deed) (v, (no_nib, None))) cs log

goes : (net : Topology) (key : ℕ) (cs : List Cell) (log v : List Deed) (deed : Deed) (deeds : ℕ) → key < words_of net → IsKept net cs log → MayAt net v key deeds deed → IsPrefix v log →
    (b : Bool) → (count_of net key log == deeds) ≡ b → (n : ℕ) → n ≡ count_of net key log → (cell cs key).0 ≡ n → Going net key cs log v deed deeds
goes net key cs log v deed deeds low kept may pre true is n count word =
    let counted : count_of net key log ≡ deeds = eqb-true _ _ is in
    let next = may log pre kept.legal counted in
    let more = with_turns next.turns next.deed in
    let its = next.step in
    let up : count_of net key (log ++ more) ≡ deeds + 1 = its.counts key ∙ cond-true _ _ _ (eq-eqb key key refl) ∙ ap (λ (m : ℕ). m + 1) counted in
    let found : (n == deeds) ≡ true = ap (λ (m : ℕ). m == deeds) count ∙ is in
    let set_to : either (n == deeds) (deeds + 1) n ≡ count_of net key (log ++ more) = rw found (sym up) in
    let rule = set_kept net cs log (log ++ more) key (either (n == deeds) (deeds + 1) n) low kept its.legal set_to (λ k differ. its.counts k ∙ cond-false _ _ _ (ne_eqb k key differ)) in
    let added : IsAdded net v (log ++ more) key deeds deed = record { log = log; seen = pre; legal = kept.legal; count = counted; next = next; new_is = refl } in
    let word' = sym word in (
      keeps,
      more,
      None,
      tt,
      subst (λ m. IsKept net (slice_set cs key (either (m == deeds) (deeds + 1) m, true)) (log ++ more)) word' rule,
      inl (refl, refl),
      (its.legal, subst (λ m. MatchBool (m == deeds) (IsAdded net v (log ++ more) key deeds deed) (Unit {0})) word' (rw found added)),
    )
goes net key cs log v deed deeds low kept may pre false is n count word =
    let all : log ++ [] ≡ log = append-nil log in
    let legal : IsLegal net (log ++ []) = subst (IsLegal net) (sym all) kept.legal in
    let found : (n == deeds) ≡ false = ap (λ (m : ℕ). m == deeds) count ∙ is in
    let set_to : either (n == deeds) (deeds + 1) n ≡ count_of net key (log ++ []) = rw found (count ∙ ap (count_of net key) (sym all)) in
    let rule = set_kept net cs log (log ++ []) key (either (n == deeds) (deeds + 1) n) low kept legal set_to (λ k differ. ap (count_of net k) all) in
    let word' = sym word in (
      keeps,
      [],
      None,
      tt,
      subst (λ m. IsKept net (slice_set cs key (either (m == deeds) (deeds + 1) m, true)) (log ++ [])) word' rule,
      inl (refl, refl),
      (legal, subst (λ m. MatchBool (m == deeds) (IsAdded net v (log ++ []) key deeds deed) (Unit {0})) word' (rw found tt)),
    )

-- whatever the book is, the exchange adds the deed, or finds another number of deeds
pub adds_moves : (net : Topology) (key : ℕ) → key < words_of net → (v : List Deed) (deed : Deed) (deeds : ℕ) → MayAt net v key deeds deed
    → Moves (IsKept net) shown moved key (v, (no_nib, None)) (λ n. either (n == deeds) (deeds + 1) n) (Adds net (step key deeds (deeds + 1) deed) (v, (no_nib, None)))
adds_moves net key low v deed deeds may cs log kept pre away =
    let is = kept.each key low in (
      subst (λ n. key < n) (sym kept.all) low,
      ap (λ (c : Cell). c.1) is,
      goes net key cs log v deed deeds low kept may pre (count_of net key log == deeds) refl (count_of net key log) refl (ap (λ (c : Cell). c.0) is),
    )
