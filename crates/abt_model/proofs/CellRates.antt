-- The first hop holds at least the rate of each cell that may still arrive.
use Rattle.std.proofs.Common.{◌≡◌, ap, ℕ, ◌+◌, ◌≤◌, ◌<◌, inl, inr, refl, true, List, [], ◌∷◌, ◌∙◌, sym, subst, arith}
use Rattle.std.proofs.lemmas.Bool.{eq-eqb, cond-true, cases_eq, cases_lt}
use Rattle.abt_keep.specs.Record.{KeptRecord}
use Rattle.abt_facts.specs.declared.fact.Fact.{Fact}
use Rattle.abt_facts.specs.declared.fact.Fact.TheVariants.{Started, Asked, Emitted}
use Rattle.abt_facts.specs.Requests.{was_asked, mark_of}
use Rattle.abt_facts.specs.Source.{rate_of, stored_of, last_of}
use Rattle.abt_facts.specs.Hop.{newest_of, held_of}
use Rattle.abt_facts.specs.Cells.{emitted_of, cell_rate_of, fence_of}
use Rattle.abt_model.proofs.Chain.{may_of, asked_last, newest_asked}
use Rattle.abt_model.proofs.Marks.{mark_more, newest_mark}
use Rattle.abt_model.proofs.Lawful.{Route, MayFollow, IsLawful}
use Rattle.abt_model.proofs.Cases.{asked_cases}
use Rattle.abt_model.proofs.Emissions.{sent_more}
use Rattle.abt_model.proofs.Backed.{IsBacked, IsBacked-more, rate_backed, backed_held}

-- the rate of a cell counts for each number that was asked before it was sent
pub record IsCellBacked (fs : List Fact) (n : ℕ) : Type 0 where
  pub bound : ℕ
  pub low : bound ≤ last_of fs + 1
  pub backed : IsBacked fs (cell_rate_of fs n) bound
  pub later : (s : ℕ) → was_asked fs s ≡ true → bound ≤ s → n < mark_of fs s

last_more : (l : Route) (f : Fact) (fs : List Fact) → MayFollow l fs f → IsLawful l fs → last_of fs ≤ last_of (f ∷ fs)
last_more l (Started t kept) fs may lawful =
    let low = (asked_last l fs lawful).0 in
    let same : kept.number ≡ (stored_of fs).number = ap (λ (r : KeptRecord). r.number) may.0 in
    omega arith
last_more l (Asked t floor ask mark) fs may lawful = omega arith
last_more l other fs may lawful = omega arith

IsCellBacked-more : (l : Route) (f : Fact) (fs : List Fact) → IsLawful l (f ∷ fs) → (n : ℕ) → n < emitted_of fs → IsCellBacked fs n → IsCellBacked (f ∷ fs) n
IsCellBacked-more l f fs lawful n sent old =
    let same = sent_more l f fs lawful.0 n sent in
    record {
      bound = old.bound;
      low = omega (arith, old.low, last_more l f fs lawful.0 lawful.1);
      backed = subst (λ x. IsBacked (f ∷ fs) x old.bound) (sym same.1) (IsBacked-more l f fs lawful (cell_rate_of fs n) old.bound old.low old.backed);
      later = λ s a high. elim (asked_cases s f fs a) [
        | inl new ↦ (
            let may = may_of l fs f (Asked s new.floor new.ask new.mark) new.is lawful.0 in
            let mine : mark_of (f ∷ fs) s ≡ new.mark = rw new.is (cond-true _ _ _ (eq-eqb s s refl)) in
            omega (arith, mine, may.3))
        | inr known ↦ (
            let within = (asked_last l fs lawful.1).1 s known in
            omega (arith, mark_more l f fs lawful.0 s within.1, old.later s known high))
      ];
    }

cell_backed : (l : Route) (fs : List Fact) → IsLawful l fs → (n : ℕ) → n < emitted_of fs → IsCellBacked fs n
cell_backed l [] lawful n sent = absurd (omega arith)
cell_backed l (Emitted m t r ∷ fs) lawful n sent = elim (cases_eq m n) [
  | inl e ↦ (
      let with : cell_rate_of (Emitted m t r ∷ fs) n ≡ rate_of fs = cond-true _ _ _ (eq-eqb m n e) ∙ lawful.0.1 in
      record {
        bound = last_of fs + 1;
        low = omega arith;
        backed = subst (λ x. IsBacked (Emitted m t r ∷ fs) x (last_of fs + 1)) (sym with) (IsBacked-more l (Emitted m t r) fs lawful (rate_of fs) (last_of fs + 1) (omega arith) (rate_backed l fs lawful.1));
        later = λ s a high. absurd (let within = (asked_last l fs lawful.1).1 s a in omega arith);
      })
  | inr differ ↦ (
      let less : n < emitted_of fs = omega (arith, lawful.0.0) in
      IsCellBacked-more l (Emitted m t r) fs lawful n less (cell_backed l fs lawful.1 n less))
]
cell_backed l (f ∷ fs) lawful n sent = IsCellBacked-more l f fs lawful n sent (cell_backed l fs lawful.1 n sent)

-- the first hop holds at least the rate of each cell that may still arrive
pub cell_held : (l : Route) (fs : List Fact) → IsLawful l fs → 1 ≤ l.hops → (n : ℕ) → n < emitted_of fs → fence_of fs ≤ n → cell_rate_of fs n ≤ held_of fs 1
cell_held l fs lawful some n sent open_yet =
    let cell = cell_backed l fs lawful n sent in
    let under : newest_of fs 1 < cell.bound = elim (newest_mark l fs lawful) [
      | inl z ↦ omega (arith, cell.backed.below)
      | inr marked ↦ elim (cases_lt (newest_of fs 1) cell.bound) [
        | inl lt ↦ lt
        | inr ge ↦ elim (newest_asked l fs lawful 1) [
          | inl z ↦ omega (arith, cell.backed.below)
          | inr a ↦ absurd (omega (arith, cell.later (newest_of fs 1) a ge))
        ]
      ]
    ] in
    backed_held l fs lawful (cell_rate_of fs n) cell.bound 1 cell.backed under (omega arith) some
