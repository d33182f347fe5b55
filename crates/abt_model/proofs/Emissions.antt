-- What was emitted, and at which rates.
use Rattle.std.proofs.Common.{◌≡◌, ℕ, ◌+◌, ◌≤◌, ◌<◌, inl, inr, refl, ap, true, false, List, [], ◌∷◌, sym, subst, arith}
use Rattle.std.specs.Prelude.{◌==◌}
use Rattle.std.proofs.lemmas.Bool.{ne_eqb, eq-eqb, cond-false, cond-true, cases_eq, cond_both}
use Rattle.abt_rate.specs.Rate.{IsRate, spacing_of}
use Rattle.abt_keep.specs.Record.{KeptRecord}
use Rattle.abt_facts.specs.declared.fact.Fact.{Fact}
use Rattle.abt_facts.specs.declared.fact.Fact.TheVariants.{Started, Crashed, Asked, Heard, Emitted}
use Rattle.abt_facts.specs.Requests.{floor_of, ask_of}
use Rattle.abt_facts.specs.Source.{rate_of, stored_of, clock_of, next_of}
use Rattle.abt_facts.specs.Cells.{emitted_of, moment_of, cell_rate_of}
use Rattle.abt_model.proofs.Spacings.{min_rate}
use Rattle.abt_model.proofs.Records.{recorded}
use Rattle.abt_model.proofs.Lawful.{Route, MayFollow, IsLawful}

pub record AreRates (fs : List Fact) : Type 0 where
  pub now : IsRate (rate_of fs)
  pub floors : (s : ℕ) → IsRate (floor_of fs s)
  pub asks : (s : ℕ) → IsRate (ask_of fs s)

pub are_rates : (l : Route) (fs : List Fact) → IsLawful l fs → AreRates fs
are_rates l [] lawful = record { now = inl refl; floors = λ s. inl refl; asks = λ s. inl refl }
are_rates l (Started t kept ∷ fs) lawful = let old = are_rates l fs lawful.1 in record { now = inl refl; floors = old.floors; asks = old.asks }
are_rates l (Crashed ∷ fs) lawful = let old = are_rates l fs lawful.1 in record { now = inl refl; floors = old.floors; asks = old.asks }
are_rates l (Asked t floor ask mark ∷ fs) lawful =
    let old = are_rates l fs lawful.1 in
    let mine : IsRate floor = subst IsRate (sym lawful.0.2) (min_rate (rate_of fs) ask old.now lawful.0.4) in
    record {
      now = mine;
      floors = λ s. cond_both (t == s) floor (floor_of fs s) IsRate (λ e. mine) (λ e. old.floors s);
      asks = λ s. cond_both (t == s) ask (ask_of fs s) IsRate (λ e. lawful.0.4) (λ e. old.asks s);
    }
are_rates l (Heard s true ∷ fs) lawful = let old = are_rates l fs lawful.1 in record { now = old.asks s; floors = old.floors; asks = old.asks }
are_rates l (Heard s false ∷ fs) lawful = let old = are_rates l fs lawful.1 in record { now = old.floors s; floors = old.floors; asks = old.asks }
are_rates l (f ∷ fs) lawful = let old = are_rates l fs lawful.1 in record { now = old.now; floors = old.floors; asks = old.asks }

-- what was sent stays
pub emitted_more : (f : Fact) (fs : List Fact) → emitted_of fs ≤ emitted_of (f ∷ fs)
emitted_more (Emitted n t r) fs = omega arith
emitted_more other fs = omega arith

pub sent_more : (l : Route) (f : Fact) (fs : List Fact) → MayFollow l fs f → (n : ℕ) → n < emitted_of fs → (moment_of (f ∷ fs) n ≡ moment_of fs n) × (cell_rate_of (f ∷ fs) n ≡ cell_rate_of fs n)
sent_more l (Emitted m t r) fs may n low = (cond-false _ _ _ (ne_eqb m n (λ e. omega arith)), cond-false _ _ _ (ne_eqb m n (λ e. omega arith)))
sent_more l other fs may n low = (refl, refl)

-- a cell that was sent has a rate, and its spacing ends before the next cell may leave, also over a restart
pub record IsSent (fs : List Fact) (n : ℕ) : Type 0 where
  pub rated : IsRate (cell_rate_of fs n)
  pub some : 0 < cell_rate_of fs n
  pub past : moment_of fs n ≤ clock_of fs
  pub gap : moment_of fs n + spacing_of (cell_rate_of fs n) ≤ next_of fs

pub sent_facts : (l : Route) (fs : List Fact) → IsLawful l fs → (n : ℕ) → n < emitted_of fs → IsSent fs n
sent_facts l [] lawful n low = absurd (omega arith)
sent_facts l (Started t kept ∷ fs) lawful n low =
    let old = sent_facts l fs lawful.1 n low in
    let held = recorded l fs lawful.1 in
    let same : kept.spacing ≡ (stored_of fs).spacing = ap (λ (r : KeptRecord). r.spacing) lawful.0.0 in
    record { rated = old.rated; some = old.some; past = omega (arith, old.past); gap = omega (arith, old.gap, held.due, held.stored.gap, same, lawful.0.1) }
sent_facts l (Emitted m t r ∷ fs) lawful n low = elim (cases_eq m n) [
  | inl e ↦ (
      let at : moment_of (Emitted m t r ∷ fs) n ≡ t = cond-true _ _ _ (eq-eqb m n e) in
      let with : cell_rate_of (Emitted m t r ∷ fs) n ≡ r = cond-true _ _ _ (eq-eqb m n e) in
      let rated : IsRate r = subst IsRate (sym lawful.0.1) (are_rates l fs lawful.1).now in
      let nonzero = lawful.0.2 in
      let some : 0 < r = omega arith in
      record { rated = subst IsRate (sym with) rated; some = omega (arith, with, some); past = omega (arith, at); gap = omega (arith, at, ap spacing_of with) })
  | inr differ ↦ (
      let less : n < emitted_of fs = omega (arith, lawful.0.0) in
      let old = sent_facts l fs lawful.1 n less in
      let same = sent_more l (Emitted m t r) fs lawful.0 n less in
      record { rated = subst IsRate (sym same.1) old.rated; some = omega (arith, same.1, old.some); past = omega (arith, same.0, old.past); gap = omega (arith, same.0, ap spacing_of same.1, old.gap, lawful.0.4) })
]
sent_facts l (f ∷ fs) lawful n low = let old = sent_facts l fs lawful.1 n low in record { rated = old.rated; some = old.some; past = old.past; gap = old.gap }

pub sent_order : (l : Route) (fs : List Fact) → IsLawful l fs → (n m : ℕ) → n < m → m < emitted_of fs → moment_of fs n + spacing_of (cell_rate_of fs n) ≤ moment_of fs m
sent_order l [] lawful n m less low = absurd (omega arith)
sent_order l (Emitted q t r ∷ fs) lawful n m less low =
    let early : n < emitted_of fs = omega (arith, lawful.0.0) in
    let same = sent_more l (Emitted q t r) fs lawful.0 n early in
    elim (cases_eq q m) [
      | inl e ↦ (
          let at : moment_of (Emitted q t r ∷ fs) m ≡ t = cond-true _ _ _ (eq-eqb q m e) in
          let old = sent_facts l fs lawful.1 n early in
          omega (arith, at, same.0, ap spacing_of same.1, old.gap, lawful.0.4))
      | inr differ ↦ (
          let before : m < emitted_of fs = omega (arith, lawful.0.0) in
          let also = sent_more l (Emitted q t r) fs lawful.0 m before in
          omega (arith, same.0, ap spacing_of same.1, also.0, sent_order l fs lawful.1 n m less before))
    ]
sent_order l (f ∷ fs) lawful n m less low = sent_order l fs lawful.1 n m less low
