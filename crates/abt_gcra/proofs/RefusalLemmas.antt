-- The first cell that is refused is one.
use Rattle.std.proofs.Common.{◌≡◌, ℕ, ◌+◌, ◌<◌, ◌≤◌, List, length, get_or, inl, inr, arith, sym, subst, ◌∙◌, add-one}
use Rattle.std.specs.Prelude.{slice_index}
use Rattle.std.proofs.lemmas.List.{get_or-map, length-map}
use Rattle.std.proofs.lemmas.Bool.{cases_order, cases_lt}
use Rattle.abt_gcra.specs.declared.fault.GcraFault.{GcraFault}
use Rattle.abt_gcra.specs.declared.fault.GcraFault.TheVariants.{ClockBack, TimeRange}
use Rattle.abt_rate.specs.Limits.{arrive_max}
use Rattle.abt_gcra.specs.Refusal.{moments_in, clock_before, IsRefused, IsFirstRefused}

pub one_index : (moments : List ℕ) (i j : ℕ) (f g : GcraFault) → IsFirstRefused moments i f → IsFirstRefused moments j g → i ≡ j
one_index moments i j f g a b =
    elim (cases_order i j) as (λ _. i ≡ j) [
      | inl same ↦ same
      | inr other ↦ elim other as (λ _. i ≡ j) [
        | inl less ↦ absurd (b.first i f less a.refused)
        | inr more ↦ absurd (a.first j g more b.refused)
      ]
    ]

pub one_fault : (moments : List ℕ) (i j : ℕ) → IsFirstRefused moments i ClockBack → IsFirstRefused moments j TimeRange → ⊥
one_fault moments i j a b =
    let same = one_index moments i j ClockBack TimeRange a b in
    let back = a.refused in
    let on = subst (λ k. IsRefused moments k TimeRange) (sym same) b.refused in
    let later = on.0 in
    absurd (omega arith)

-- ---- one cell of a list of pairs

pub moment-at : (pairs : List (ℕ × ℕ)) (index : ℕ) → index < length pairs → slice_index (moments_in pairs) index ≡ (get_or pairs index (0, 0)).0
moment-at pairs index within = get_or-map (λ pair. pair.0) pairs index (0, 0) 0 within

-- all cells below an index were taken or found too early
abbrev pub AreAccepted : List ℕ → ℕ → Type 0
AreAccepted moments index = (before : ℕ) (fault : GcraFault) → before < index → IsRefused moments before fault → ⊥

pub accepted_more : (moments : List ℕ) (index : ℕ) → AreAccepted moments index → (IsRefused moments index ClockBack → ⊥) → (IsRefused moments index TimeRange → ⊥) → AreAccepted moments (index + 1)
accepted_more moments index accepted onward in_range before ClockBack below refused =
    elim (cases_lt before index) as (λ _. ⊥) [
      | inl less ↦ accepted before ClockBack less refused
      | inr here ↦ let same : before ≡ index = omega arith in onward (subst (λ k. IsRefused moments k ClockBack) same refused)
    ]
accepted_more moments index accepted onward in_range before TimeRange below refused =
    elim (cases_lt before index) as (λ _. ⊥) [
      | inl less ↦ accepted before TimeRange less refused
      | inr here ↦ let same : before ≡ index = omega arith in in_range (subst (λ k. IsRefused moments k TimeRange) same refused)
    ]

pub first_back : (pairs : List (ℕ × ℕ)) (index clock : ℕ) → index < length pairs → clock ≡ clock_before (moments_in pairs) index → AreAccepted (moments_in pairs) index → (get_or pairs index (0, 0)).0 < clock → IsFirstRefused (moments_in pairs) index ClockBack
first_back pairs index clock within clock_is accepted back =
    let at = moment-at pairs index within in
    record {
      within = rw length-map within;
      refused = omega arith;
      first = λ before other below refused. accepted before other below refused;
    }

pub first_late : (pairs : List (ℕ × ℕ)) (index clock : ℕ) → index < length pairs → clock ≡ clock_before (moments_in pairs) index → AreAccepted (moments_in pairs) index → clock ≤ (get_or pairs index (0, 0)).0 → arrive_max < (get_or pairs index (0, 0)).0 → IsFirstRefused (moments_in pairs) index TimeRange
first_late pairs index clock within clock_is accepted onward late =
    let at = moment-at pairs index within in
    record {
      within = rw length-map within;
      refused = (omega arith, omega arith);
      first = λ before other below refused. accepted before other below refused;
    }

-- one more cell is accepted, and the clock is its arrival
pub accepted_next : (pairs : List (ℕ × ℕ)) (index clock : ℕ) → index < length pairs → clock ≡ clock_before (moments_in pairs) index → AreAccepted (moments_in pairs) index → ((get_or pairs index (0, 0)).0 < clock → ⊥) → ((clock ≤ (get_or pairs index (0, 0)).0) × (arrive_max < (get_or pairs index (0, 0)).0) → ⊥) → AreAccepted (moments_in pairs) (index + 1)
accepted_next pairs index clock within clock_is accepted onward in_range =
    let at = moment-at pairs index within in
    accepted_more (moments_in pairs) index accepted (λ back. onward (omega (arith, back))) (
    λ late. let after = late.0 in let above = late.1 in in_range (omega arith, omega arith)
    )

pub clock_next : (pairs : List (ℕ × ℕ)) (index clock : ℕ) → index < length pairs → clock ≡ (get_or pairs index (0, 0)).0 → clock ≡ clock_before (moments_in pairs) (index + 1)
clock_next pairs index clock within clock_is = rw add-one (clock_is ∙ sym (moment-at pairs index within))

-- none is refused
pub none_first : (pairs : List (ℕ × ℕ)) (end index : ℕ) (fault : GcraFault) → length pairs ≤ end → AreAccepted (moments_in pairs) end → IsFirstRefused (moments_in pairs) index fault → ⊥
none_first pairs end index fault all accepted first =
    let within : index < length pairs = rw length-map at first.within in
    accepted index fault (omega arith) first.refused
