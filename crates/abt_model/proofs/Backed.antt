-- A number that each hop can bear: it is at most what the last yes raised to, and at most each floor since.
use Rattle.std.proofs.Common.{◌≡◌, ◌≢◌, ℕ, ◌+◌, ◌≤◌, ◌<◌, ◌⊎◌, inl, inr, refl, ap, true, false, List, [], ◌∷◌, ◌∙◌, sym, subst, arith}
use Rattle.std.specs.Prelude.{◌==◌}
use Rattle.std.proofs.lemmas.Bool.{false≢true, or_left, ne_eqb, eq-eqb, cond-false, cond-true, cases_Bool, cases_order, false_from_ne_true}
use Rattle.abt_facts.specs.declared.fact.Fact.{Fact}
use Rattle.abt_facts.specs.declared.fact.Fact.TheVariants.{Started, Crashed, Asked, Heard}
use Rattle.abt_facts.specs.Requests.{was_asked, floor_of, ask_of}
use Rattle.abt_facts.specs.Source.{Asking, state_of, rate_of, last_of, yes_was_heard}
use Rattle.abt_facts.specs.Sent.{was_shut}
use Rattle.abt_facts.specs.Hop.{newest_of, held_of}
use Rattle.abt_model.proofs.Chain.{may_of, asked_last, floor_more, ask_more, ask_zero, floor_low, heard_newest, heard_open, newest_asked}
use Rattle.abt_model.proofs.Lawful.{Route, IsLawful}
use Rattle.abt_model.proofs.Cases.{asked_cases, yes_heard_more}

-- x counts for the numbers below b
pub record IsBacked (fs : List Fact) (x b : ℕ) : Type 0 where
  pub from : ℕ
  pub heard : (from ≡ 0) ⊎ (yes_was_heard fs from ≡ true)
  pub below : from < b
  pub raised : x ≤ ask_of fs from
  pub floors : (s : ℕ) → was_asked fs s ≡ true → from < s → s < b → x ≤ floor_of fs s

pub IsBacked-less : (fs : List Fact) (x y b : ℕ) → y ≤ x → IsBacked fs x b → IsBacked fs y b
IsBacked-less fs x y b le backed = record {
  from = backed.from;
  heard = backed.heard;
  below = backed.below;
  raised = omega (arith, backed.raised);
  floors = λ s a above below. omega (arith, backed.floors s a above below);
}

pub IsBacked-zero : (fs : List Fact) (b : ℕ) → 1 ≤ b → IsBacked fs 0 b
IsBacked-zero fs b some = record { from = 0; heard = inl refl; below = omega arith; raised = omega arith; floors = λ s a above below. omega arith }

-- the numbers up to the last are as they were
pub IsBacked-more : (k : Route) (f : Fact) (fs : List Fact) → IsLawful k (f ∷ fs) → (x b : ℕ) → b ≤ last_of fs + 1 → IsBacked fs x b → IsBacked (f ∷ fs) x b
IsBacked-more k f fs lawful x b within backed =
    let same : ask_of (f ∷ fs) backed.from ≡ ask_of fs backed.from = ask_more k f fs lawful.0 backed.from (omega (arith, backed.below)) in
    record {
      from = backed.from;
      heard = elim backed.heard [ inl e ↦ inl e | inr h ↦ inr (yes_heard_more backed.from f fs h) ];
      below = backed.below;
      raised = omega (arith, same, backed.raised);
      floors = λ s a above below.
          let e : floor_of (f ∷ fs) s ≡ floor_of fs s = floor_more k f fs lawful.0 s (omega arith) in
          elim (asked_cases s f fs a) [
            | inl new ↦ (let may = may_of k fs f (Asked s new.floor new.ask new.mark) new.is lawful.0 in absurd (omega arith))
            | inr old ↦ omega (arith, e, backed.floors s old above below)
          ];
    }

-- an asking source shapes at the floor of its last number
pub asking : (k : Route) (fs : List Fact) → IsLawful k fs → (s : ℕ) → state_of fs ≡ Asking s → (s ≡ last_of fs) × (rate_of fs ≡ floor_of fs s) × (was_asked fs s ≡ true)
asking k [] lawful s e = absurd (cc)
asking k (Started t kept ∷ fs) lawful s e = absurd (cc)
asking k (Crashed ∷ fs) lawful s e = absurd (cc)
asking k (Heard t granted ∷ fs) lawful s e = absurd (cc)
asking k (Asked t floor ask mark ∷ fs) lawful s e =
    let d : t ≡ s = cc in
    let eq : (t == s) ≡ true = eq-eqb t s d in
    (sym d, sym (cond-true _ _ _ eq), or_left _ _ eq)
asking k (f ∷ fs) lawful s e =
    let old = asking k fs lawful.1 s e in
    (old.0, old.1, old.2)

-- the rate counts for each number that was asked
pub rate_backed : (k : Route) (fs : List Fact) → IsLawful k fs → IsBacked fs (rate_of fs) (last_of fs + 1)
rate_backed k [] lawful = IsBacked-zero [] 1 (omega arith)
rate_backed k (Started t kept ∷ fs) lawful = IsBacked-zero (Started t kept ∷ fs) (kept.number + 1) (omega arith)
rate_backed k (Crashed ∷ fs) lawful = IsBacked-zero (Crashed ∷ fs) (last_of fs + 1) (omega arith)
rate_backed k (Asked t floor ask mark ∷ fs) lawful =
    let may = lawful.0 in
    let old = IsBacked-more k (Asked t floor ask mark) fs lawful (rate_of fs) (last_of fs + 1) (omega arith) (rate_backed k fs lawful.1) in
    let mine : floor_of (Asked t floor ask mark ∷ fs) t ≡ floor = cond-true _ _ _ (eq-eqb t t refl) in
    record {
      from = old.from;
      heard = old.heard;
      below = omega (arith, old.below);
      raised = omega (arith, old.raised);
      floors = λ s a above below. elim (cases_order s t) [
        | inl e ↦ (let same : floor_of (Asked t floor ask mark ∷ fs) s ≡ floor = ap (λ q. floor_of (Asked t floor ask mark ∷ fs) q) e ∙ mine in omega arith)
        | inr (inl lt) ↦ omega (arith, old.floors s a above (omega arith))
        | inr (inr gt) ↦ absurd (omega arith)
      ];
    }
rate_backed k (Heard s true ∷ fs) lawful =
    let now = asking k fs lawful.1 s lawful.0.0 in
    record {
      from = s;
      heard = inr (or_left _ _ (eq-eqb s s refl));
      below = omega arith;
      raised = omega arith;
      floors = λ q a above below. absurd (omega arith);
    }
rate_backed k (Heard s false ∷ fs) lawful =
    let now = asking k fs lawful.1 s lawful.0.0 in
    let old = IsBacked-more k (Heard s false) fs lawful (rate_of fs) (last_of fs + 1) (omega arith) (rate_backed k fs lawful.1) in
    IsBacked-less (Heard s false ∷ fs) (rate_of fs) (floor_of fs s) (last_of fs + 1) (omega arith) old
rate_backed k (f ∷ fs) lawful = IsBacked-more k f fs lawful (rate_of fs) (last_of fs + 1) (omega arith) (rate_backed k fs lawful.1)

-- the floor of a request counts for each number that was asked before it
pub floor_backed : (k : Route) (fs : List Fact) → IsLawful k fs → (s : ℕ) → was_asked fs s ≡ true → IsBacked fs (floor_of fs s) s
floor_backed k [] lawful s a = absurd (false≢true a)
floor_backed k (f ∷ fs) lawful s a = elim (asked_cases s f fs a) [
  | inl new ↦ (
      let may = may_of k fs f (Asked s new.floor new.ask new.mark) new.is lawful.0 in
      let mine : floor_of (f ∷ fs) s ≡ new.floor = rw new.is (cond-true _ _ _ (eq-eqb s s refl)) in
      let b : last_of fs + 1 ≡ s = omega arith in
      let old = IsBacked-more k f fs lawful (rate_of fs) (last_of fs + 1) (omega arith) (rate_backed k fs lawful.1) in
      subst (λ n. IsBacked (f ∷ fs) (floor_of (f ∷ fs) s) n) b (IsBacked-less (f ∷ fs) (rate_of fs) (floor_of (f ∷ fs) s) (last_of fs + 1) (omega arith) old))
  | inr old ↦ (
      let low = (asked_last k fs lawful.1).1 s old in
      let same : floor_of (f ∷ fs) s ≡ floor_of fs s = floor_more k f fs lawful.0 s low.1 in
      subst (λ x. IsBacked (f ∷ fs) x s) (sym same) (IsBacked-more k f fs lawful (floor_of fs s) s (omega arith) (floor_backed k fs lawful.1 s old)))
]

held_shut : (fs : List Fact) (j : ℕ) → newest_of fs j ≢ 0 → was_shut fs (newest_of fs j) j ≡ true → held_of fs j ≡ floor_of fs (newest_of fs j)
held_shut fs j some h = cond-false _ _ _ (ne_eqb _ _ some) ∙ cond-true _ _ _ h

held_open : (fs : List Fact) (j : ℕ) → newest_of fs j ≢ 0 → was_shut fs (newest_of fs j) j ≡ false → held_of fs j ≡ ask_of fs (newest_of fs j)
held_open fs j some h = cond-false _ _ _ (ne_eqb _ _ some) ∙ cond-false _ _ _ h

-- what counts for the numbers up to the newest of a hop, the hop holds
pub backed_held : (k : Route) (fs : List Fact) → IsLawful k fs → (x b j : ℕ) → IsBacked fs x b → newest_of fs j < b → 1 ≤ j → j ≤ k.hops → x ≤ held_of fs j
backed_held k fs lawful x b j backed under low high =
    let reached : backed.from ≤ newest_of fs j = elim backed.heard [ inl e ↦ omega arith | inr h ↦ heard_newest k fs lawful backed.from j h low high ] in
    elim (newest_asked k fs lawful j) [
      | inl z ↦ (
          let zero_from : backed.from ≡ 0 = omega arith in
          let none : ask_of fs backed.from ≡ 0 = ap (λ q. ask_of fs q) zero_from ∙ ask_zero k fs lawful in
          omega (arith, backed.raised, none))
      | inr a ↦ (
          let low_m = (asked_last k fs lawful).1 (newest_of fs j) a in
          let some : newest_of fs j ≢ 0 = λ e. omega arith in
          elim (cases_order backed.from (newest_of fs j)) [
            | inl same ↦ (
                elim backed.heard [
                  | inl z ↦ absurd (omega arith)
                  | inr h ↦ (
                      let open_there : was_shut fs (newest_of fs j) j ≡ false = false_from_ne_true _ (λ t. heard_open k fs lawful backed.from j h (subst (λ q. was_shut fs q j ≡ true) (sym same) t)) in
                      let is = held_open fs j some open_there in
                      let raised : x ≤ ask_of fs (newest_of fs j) = subst (λ q. x ≤ ask_of fs q) same backed.raised in
                      omega (arith, is, raised))
                ])
            | inr (inl lt) ↦ (
                let floored : x ≤ floor_of fs (newest_of fs j) = backed.floors (newest_of fs j) a lt under in
                elim (cases_Bool (was_shut fs (newest_of fs j) j)) [
                  | inl t ↦ omega (arith, held_shut fs j some t, floored)
                  | inr f ↦ omega (arith, held_open fs j some f, floored, floor_low k fs lawful (newest_of fs j))
                ])
            | inr (inr gt) ↦ absurd (omega arith)
          ])
    ]

-- no source's rate is above what a hop holds
pub rate_held : (k : Route) (fs : List Fact) → IsLawful k fs → (j : ℕ) → 1 ≤ j → j ≤ k.hops → rate_of fs ≤ held_of fs j
rate_held k fs lawful j low high =
    let under : newest_of fs j < last_of fs + 1 = elim (newest_asked k fs lawful j) [ inl z ↦ omega arith | inr a ↦ (let n = (asked_last k fs lawful).1 (newest_of fs j) a in omega arith) ] in
    backed_held k fs lawful (rate_of fs) (last_of fs + 1) j (rate_backed k fs lawful) under low high

-- no request's floor is above what a hop holds that has not seen it
pub floor_held : (k : Route) (fs : List Fact) → IsLawful k fs → (s j : ℕ) → was_asked fs s ≡ true → newest_of fs j < s → 1 ≤ j → j ≤ k.hops → floor_of fs s ≤ held_of fs j
floor_held k fs lawful s j a above low high = backed_held k fs lawful (floor_of fs s) s j (floor_backed k fs lawful s a) above low high
