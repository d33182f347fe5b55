-- Bursts of cells at a policer.
use Rattle.std.proofs.Common.{◌≡◌, ◌≢◌, ℕ, ◌+◌, ◌<◌, ◌↔◌, List, Option, None, Some, length, set, refl, ap, subst, ◌∙◌, arith, add-one, get_or-set_other, get_or-set_same, below_more}
use Rattle.std.specs.Prelude.{IsNone, IfSome, slice_index}
use Rattle.std.proofs.lemmas.Bool.Decides.{nat_tests}
use Rattle.abt_rate.specs.Rate.{spacing_of}
use Rattle.abt_gcra.specs.Policing.{Policing, policed}
use Rattle.abt_gcra.specs.declared.verdict.Verdict.{Verdict}
use Rattle.abt_c.specs.Outcome.{verdict_number}
use Rattle.abt_c.specs.Bursts.{policed_by, kept_after, IsOnward, AreJudged}

-- the spacing of the rate that is held polices as that rate does
pub policed_by-rate : (p : Policing) (at held : ℕ) (spacing : Option ℕ) → (IsNone spacing ↔ (held ≡ 0)) → IfSome spacing (λ t. t ≡ spacing_of held) → policed_by p at spacing ≡ policed p at held
unfolding policed
policed_by-rate p at held None none some = let zero : held ≡ 0 = none.0 refl in grind (arith, nat_tests)
policed_by-rate p at held (Some t) none some =
    let other : held ≢ 0 = λ zero. let no : IsNone (Some t) = none.1 zero in cc in
    let same : t ≡ spacing_of held = some in
    grind (arith, nat_tests)

-- no cell got a verdict yet
pub none_judged : (p : Policing) (held : ℕ) (at verdicts : List ℕ) → AreJudged p p held at verdicts verdicts 0
unfolding kept_after
none_judged p held at verdicts = record {
  within = omega arith;
  onward = λ i below. absurd (omega arith);
  kept = refl;
  verdicts = λ i below. absurd (omega arith);
  rest = λ i above. refl;
}

-- one cell more gets its verdict
pub one_more_judged : (old now new : Policing) (held : ℕ) (at before after : List ℕ) (n : ℕ) (verdict : Verdict) → AreJudged old now held at before after n → n < length at → n < length after
    → IsOnward now (slice_index at n) → (verdict, new) ≡ policed now (slice_index at n) held → AreJudged old new held at before (set after n (verdict_number verdict)) (n + 1)
unfolding kept_after
one_more_judged old now new held at before after n verdict judged low room onward is =
    let moved : (verdict, new) ≡ policed (kept_after old held at n) (slice_index at n) held = is ∙ ap (λ (p : Policing). policed p (slice_index at n) held) judged.kept in
    record {
      within = omega arith;
      onward = below_more _ _ judged.onward (subst (λ (p : Policing). IsOnward p (slice_index at n)) judged.kept onward);
      kept = rw add-one (ap (λ (q : Verdict × Policing). q.1) moved);
      verdicts = below_more _ _
          (λ i below. let other : i ≢ n = omega arith in get_or-set_other after n i (verdict_number verdict) 0 other ∙ judged.verdicts i below)
          (get_or-set_same after n (verdict_number verdict) 0 room ∙ ap (λ (q : Verdict × Policing). verdict_number q.0) moved);
      rest = λ i above. let other : i ≢ n = omega arith in get_or-set_other after n i (verdict_number verdict) 0 other ∙ judged.rest i (omega arith);
    }
