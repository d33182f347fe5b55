-- Marks of the callers that have a seat.
use Rattle.std.proofs.Common.{◌≡◌, ◌≢◌, ℕ, ◌+◌, ◌<◌, ◌≤◌, ◌^◌, ◌==◌, Bool, true, false, ◌⊎◌, inl, inr, List, length, get_or, set, refl, sym, ap, ◌∙◌, arith}
use Rattle.std.proofs.lemmas.Bool.{false≢true, cases_lt}
use Rattle.std.proofs.lemmas.Bool.Decides.{nat_tests}
use Rattle.std.proofs.lemmas.List.{length-set, get_or_default, get_or_past, get_or-set_same, get_or-set_other}
use Rattle.abt_journal.specs.Receipts.{Seated}
use Rattle.abt_journal.specs.Gathered.{AreDistinct}
use Rattle.abt_journal.proofs.Counts.{same_caller}

-- The first n seats differ in their callers, and just these have a mark.
pub record AreMarked (seats : List Seated) (n : ℕ) (taken : List Bool) : Type 0 where
  pub long : length taken ≡ 2 ^ 16
  pub distinct : (i j : ℕ) (d : Seated) → i < j → j < n → (get_or seats i d).caller ≢ (get_or seats j d).caller
  pub only : (q : ℕ) → get_or taken q false ≡ true → (i : ℕ) × (s : Seated) × (i < n) × (s ≡ get_or seats i s) × (s.caller ≡ q)
  pub all : (i : ℕ) (d : Seated) → i < n → get_or taken (get_or seats i d).caller false ≡ true

no_mark : (taken : List Bool) (q : ℕ) → ((p : ℕ) → p < length taken → get_or taken p false ≡ false) → (q < length taken) ⊎ (length taken ≤ q) → get_or taken q false ≡ false
no_mark taken q none (inl within) = none q within
no_mark taken q none (inr past) = get_or_past taken q false past

-- no caller has a mark
pub marks_begin : (seats : List Seated) (taken : List Bool) → length taken ≡ 2 ^ 16 → ((p : ℕ) → p < length taken → get_or taken p false ≡ false) → AreMarked seats 0 taken
marks_begin seats taken long none = record {
  long = long;
  distinct = λ i j d order below. absurd (omega (arith, below));
  only = λ q marked. absurd (false≢true (sym (no_mark taken q none (cases_lt q (length taken))) ∙ marked));
  all = λ i d below. absurd (omega (arith, below));
}

-- a seat whose caller has a mark
pub marks_stop : (seats : List Seated) (n : ℕ) (taken : List Bool) (s : Seated) → n < length seats → s ≡ get_or seats n s → AreMarked seats n taken → get_or taken s.caller false ≡ true
    → ¬ AreDistinct seats
marks_stop seats n taken s below read marked is =
    let (i, t, before, at, same) = marked.only s.caller is in same_caller seats i n t s before below at read same

-- the mark of one caller more
mark : (taken : List Bool) (p q : ℕ) (here : Bool) → (q == p) ≡ here → p < length taken → get_or taken q false ≡ true → get_or (set taken p true) q false ≡ true
mark taken p q true is below old = let same : q ≡ p = grind (arith, nat_tests) in ap (λ x. get_or (set taken p true) x false) same ∙ get_or-set_same taken p true false below
mark taken p q false is below old = let apart : q ≢ p = grind (arith, nat_tests) in get_or-set_other taken p q true false apart ∙ old

mark_only : (seats : List Seated) (n : ℕ) (taken : List Bool) (s : Seated) (q : ℕ) (here : Bool) → (q == s.caller) ≡ here → s ≡ get_or seats n s → AreMarked seats n taken
    → get_or (set taken s.caller true) q false ≡ true → (i : ℕ) × (t : Seated) × (i < n + 1) × (t ≡ get_or seats i t) × (t.caller ≡ q)
mark_only seats n taken s q true is read marked new = let same : s.caller ≡ q = grind (arith, nat_tests) in (n, s, omega arith, read, same)
mark_only seats n taken s q false is read marked new =
    let apart : q ≢ s.caller = grind (arith, nat_tests) in
    let (i, t, before, at, same) = marked.only q (sym (get_or-set_other taken s.caller q true false apart) ∙ new) in (i, t, omega arith, at, same)

caller_at : (seats : List Seated) (n : ℕ) (s d : Seated) → n < length seats → s ≡ get_or seats n s → (get_or seats n d).caller ≡ s.caller
caller_at seats n s d below read = ap (λ (x : Seated). x.caller) (get_or_default seats n d s below ∙ sym read)

-- a seat whose caller has no mark, and gets one
pub marks_go : (seats : List Seated) (n : ℕ) (taken : List Bool) (s : Seated) → n < length seats → s ≡ get_or seats n s → s.caller < 2 ^ 16 → AreMarked seats n taken
    → get_or taken s.caller false ≡ false → AreMarked seats (n + 1) (set taken s.caller true)
marks_go seats n taken s below read fits marked is = record {
  long = length-set taken s.caller true ∙ marked.long;
  distinct = λ i j d order within. distinct_at i j d order (cases_lt j n) within;
  only = λ q new. mark_only seats n taken s q (q == s.caller) refl read marked new;
  all = λ i d within. all_at i d (cases_lt i n) within;
} where
  there : s.caller < length taken
  there = omega (arith, fits, marked.long)

  distinct_at : (i j : ℕ) (d : Seated) → i < j → (j < n) ⊎ (n ≤ j) → j < n + 1 → (get_or seats i d).caller ≢ (get_or seats j d).caller
  distinct_at i j d order (inl earlier) within same = marked.distinct i j d order earlier same
  distinct_at i j d order (inr late) within same =
      let here : j ≡ n = omega (arith, within, late) in
      let its : (get_or seats i d).caller ≡ s.caller = same ∙ ap (λ k. (get_or seats k d).caller) here ∙ caller_at seats n s d below read in
      false≢true (sym is ∙ ap (λ q. get_or taken q false) (sym its) ∙ marked.all i d (omega arith))

  all_at : (i : ℕ) (d : Seated) → (i < n) ⊎ (n ≤ i) → i < n + 1 → get_or (set taken s.caller true) (get_or seats i d).caller false ≡ true
  all_at i d (inl earlier) within = mark taken s.caller (get_or seats i d).caller ((get_or seats i d).caller == s.caller) refl there (marked.all i d earlier)
  all_at i d (inr late) within =
      let here : i ≡ n = omega (arith, within, late) in
      ap (λ k. get_or (set taken s.caller true) (get_or seats k d).caller false) here
      ∙ ap (λ q. get_or (set taken s.caller true) q false) (caller_at seats n s d below read) ∙ get_or-set_same taken s.caller true false there
