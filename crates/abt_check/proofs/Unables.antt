-- Lists that grow up to a length.
use Rattle.std.proofs.Common.{◌≡◌, ℕ, ◌+◌, ◌≤◌, ◌<◌, List, [], ◌∷◌, ◌++◌, inl, inr, refl, sym, subst, ap, ◌∙◌, arith, length, take, append_assoc, length-append}
use Rattle.std.specs.Prelude.{nat_lt, Option, Some}
use Rattle.std.proofs.lemmas.Bool.{cases_Bool, cond-true, cond-false, ltb-true, ltb-false}
use Rattle.std.proofs.Math.Seq.{take-append_seam}
use Rattle.abt_model.specs.declared.outcome.Outcome.{Outcome}
use Rattle.abt_model.specs.declared.outcome.Outcome.TheVariants.{EmitRefused, NotEnabled}
use Rattle.abt_shaper.specs.declared.fault.ShapeFault.TheVariants.{Zero}
use Rattle.abt_reason.specs.declared.grounds.Grounds.{Grounds}
use Rattle.abt_reason.specs.declared.sighting.Sought.{Sought}
use Rattle.abt_check.specs.Unable.{UnableView, unable_at, waiting_at, with_more}
use Rattle.abt_check.specs.declared.unable.Look.{Look}
use Rattle.abt_check.specs.declared.unable.Look.TheVariants.{Wide}

waiting_at_most : (look : Look) (index : ℕ) (grounds : Grounds) (p : Option Sought) → length (waiting_at look index grounds p) ≤ 1
waiting_at_most Wide index grounds (Some sought) = omega arith
waiting_at_most look index grounds p = omega arith

pub one_at_most : (look : Look) (index : ℕ) (grounds : Grounds) (p : Option Sought) (o : Outcome) → length (unable_at look index grounds p o) ≤ 1
one_at_most look index grounds p (NotEnabled cause) = omega arith
one_at_most look index grounds p (EmitRefused Zero) = waiting_at_most look index grounds p
one_at_most look index grounds p o = omega arith

-- a list of so many elements hides what stands behind it
full : (most : ℕ) (before rest : List UnableView) → length before ≡ most → take most (before ++ rest) ≡ before
full most before rest is = subst (λ n. take n (before ++ rest) ≡ before) is (take-append_seam before rest)

pub record IsGrown (most : ℕ) (after rest whole : List UnableView) : Type 0 where
  pub whole_is : take most (after ++ rest) ≡ whole
  pub within : length after ≤ most

pub grown : (most : ℕ) (before more after rest whole : List UnableView) → length before ≤ most → length more ≤ 1 →
    take most (before ++ (more ++ rest)) ≡ whole → after ≡ with_more most before more → IsGrown most after rest whole
grown most before more after rest whole within few all is = elim (cases_Bool (nat_lt (length before) most)) [
  | inl room ↦ (
      let low : length before < most = ltb-true _ _ room in
      let grows : after ≡ before ++ more = is ∙ cond-true _ _ _ room in
      record {
        whole_is = ap (λ (l : List UnableView). take most (l ++ rest)) grows ∙ ap (take most) (append_assoc before more rest) ∙ all;
        within = subst (λ (l : List UnableView). length l ≤ most) (sym grows) (omega (arith, length-append before more));
      })
  | inr none ↦ (
      let high : most ≤ length before = ltb-false _ _ none in
      let at : length before ≡ most = omega arith in
      let stays : after ≡ before = is ∙ cond-false _ _ _ none in
      record {
        whole_is = ap (λ (l : List UnableView). take most (l ++ rest)) stays ∙ full most before rest at ∙ sym (full most before (more ++ rest) at) ∙ all;
        within = subst (λ (l : List UnableView). length l ≤ most) (sym stays) within;
      })
]
