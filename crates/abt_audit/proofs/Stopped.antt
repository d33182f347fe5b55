-- If an entry before an open write doesn't fit, it doesn't matter how that write is settled.
use Rattle.std.proofs.Common.{◌≡◌, ◌∙◌, ℕ, Bool, true, false, zero, suc, ◌<◌, ◌≤◌, List, [], ◌∷◌, length, get_or, take, inl, inr, refl, sym, ap, subst, arith}
use Rattle.std.specs.Prelude.{IfSome, None, Some, if◌then◌else◌, nat_lt}
use Rattle.std.proofs.lemmas.Bool.{cases_lt}
use Rattle.std.proofs.lemmas.Bool.Decides.{nat_tests}
use Rattle.abt_cell.specs.Channel.{Channel}
use Rattle.abt_facts.specs.declared.fact.Fact.{Fact}
use Rattle.abt_keep.specs.declared.plan.StorePlan.{StorePlan}
use Rattle.abt_keep.specs.declared.plan.StorePlan.TheVariants.{FailsBefore, FailsAfter}
use Rattle.abt_model.specs.declared.entry.SourceEntry.{SourceEntry}
use Rattle.abt_audit.specs.Protocol.{facts_past}
use Rattle.abt_audit.specs.Deciding.{AreAbove, IsWay, shown_by}
use Rattle.abt_audit.specs.Settling.{with_plan, planned, IsSettled, FitsFrom, FitsTo, IsFarthest, IsReach, Prefers}
use Rattle.abt_audit.specs.declared.deciding.Way.{Way}
use Rattle.abt_audit.proofs.Settled.{farthest_none, fits_fewer, prefers_before}

-- the entries before a place stay
planned_behind : (plan : StorePlan) (place : ℕ) (entries : List SourceEntry) → take place (planned plan place entries) ≡ take place entries
planned_behind plan zero entries = refl
planned_behind plan (suc n) [] = refl
planned_behind plan (suc n) (entry ∷ entries) = ap (λ (es : List SourceEntry). entry ∷ es) (planned_behind plan n entries)

take_planned : (plan : StorePlan) (n place : ℕ) (entries : List SourceEntry) → take n (planned plan place entries) ≡ planned plan place (take n entries)
take_planned plan zero zero [] = refl
take_planned plan zero zero (entry ∷ entries) = refl
take_planned plan zero (suc place) [] = refl
take_planned plan zero (suc place) (entry ∷ entries) = refl
take_planned plan (suc n) place [] = refl
take_planned plan (suc n) zero (entry ∷ entries) = refl
take_planned plan (suc n) (suc place) (entry ∷ entries) = ap (λ (es : List SourceEntry). entry ∷ es) (take_planned plan n place entries)

alike_planned : (plan : StorePlan) (n place : ℕ) (one two : List SourceEntry) → take n one ≡ take n two → take n (planned plan place one) ≡ take n (planned plan place two)
alike_planned plan n place one two same =
    take_planned plan n place one ∙ ap (planned plan place) same ∙ sym (take_planned plan n place two)

-- Lists that are alike up to a place are settled alike up to there.
pub record Twin (n : ℕ) (places : List ℕ) (two other : List SourceEntry) : Type 0 where
  pub twin : List SourceEntry
  pub settles : IsSettled places two twin
  pub same : take n other ≡ take n twin

twin_of : (n : ℕ) (places : List ℕ) (one two other : List SourceEntry) → take n one ≡ take n two → IsSettled places one other → Twin n places two other
twin_of n [] one two other same is = record { twin = two; settles = refl; same = ap (take n) is ∙ same }
twin_of n (place ∷ places) one two other same (inl is) =
    let t = twin_of n places (planned FailsBefore place one) (planned FailsBefore place two) other (alike_planned FailsBefore n place one two same) is in
    record { twin = t.twin; settles = inl t.settles; same = t.same }
twin_of n (place ∷ places) one two other same (inr is) =
    let t = twin_of n places (planned FailsAfter place one) (planned FailsAfter place two) other (alike_planned FailsAfter n place one two same) is in
    record { twin = t.twin; settles = inr t.settles; same = t.same }

-- as many of entries that are alike fit
fits_alike : (vc : Channel) (facts : List Fact) (k n : ℕ) (one two : List SourceEntry) → k ≤ n → take n one ≡ take n two → FitsFrom vc facts one k → FitsFrom vc facts two k
fits_alike vc facts zero n one two low same fits = tt
fits_alike vc facts (suc k) zero one two low same fits = absurd (omega (arith, low))
fits_alike vc facts (suc k) (suc n) [] two low same fits = absurd fits
fits_alike vc facts (suc k) (suc n) (x ∷ one) [] low same fits = absurd (cc)
fits_alike vc facts (suc k) (suc n) (x ∷ one) (y ∷ two) low same fits =
    let first : x ≡ y = cc in
    let rest : take n one ≡ take n two = cc in
    subst (λ (e : SourceEntry). FitsFrom vc facts (e ∷ two) (suc k)) first
    (fits.0, fits_alike vc (facts_past vc facts x) k n one two (omega (arith, low)) rest fits.1)

-- an entry before the place doesn't fit
pub farthest_early : (vc : Channel) (place : ℕ) (places : List ℕ) (entries : List SourceEntry) (n : ℕ) → n < place
    → IsFarthest vc places (planned FailsBefore place entries) n → IsFarthest vc (place ∷ places) entries n
farthest_early vc place places entries n low far = record {
  settled = far.settled;
  settles = inl far.settles;
  fits = far.fits;
  most = most;
}
  where
    most : (other : List SourceEntry) (m : ℕ) → IsSettled (place ∷ places) entries other → FitsTo vc other m → m ≤ n
    most other m (inl is) fits = far.most other m is fits
    most other m (inr is) fits = elim (cases_lt n m) [
      | inl more ↦ (
          let t = twin_of place places (planned FailsAfter place entries) (planned FailsBefore place entries) other
          (planned_behind FailsAfter place entries ∙ sym (planned_behind FailsBefore place entries)) is in
          let here = fits_fewer vc [] other (suc n) m (omega (arith, more)) fits in
          let there = fits_alike vc [] (suc n) place other t.twin (omega (arith, low)) t.same here in
          let high = far.most t.twin (suc n) t.settles there in
          absurd (omega (arith, high)))
      | inr least ↦ omega (arith, least)
    ]

pub prefers_early : (vc : Channel) (place : ℕ) (next : List ℕ) (entries : List SourceEntry) (n : ℕ) → n < place
    → IsFarthest vc next (planned FailsBefore place entries) n → Prefers vc place next entries FailsBefore
prefers_early vc place next entries n low far = prefers_before vc place next entries n (farthest_early vc place next entries n low far) far

-- an entry behind those that fit, and the next, may be planned otherwise
reach_planned : (vc : Channel) (place : ℕ) (entries : List SourceEntry) (plan : StorePlan) (n : ℕ) → n < place → IsReach vc entries n
    → IsReach vc (planned plan place entries) n
reach_planned vc place entries plan n low reach =
    let same = planned_behind plan place entries in
    record {
      fits = fits_alike vc [] n place entries (planned plan place entries) (omega (arith, low)) (sym same) reach.fits;
      no_more = λ fits. reach.no_more (fits_alike vc [] (suc n) place (planned plan place entries) entries (omega (arith, low)) same fits);
    }

-- none of the places matters
pub farthest_still : (vc : Channel) (places : List ℕ) (entries : List SourceEntry) (n : ℕ) → AreAbove n places → IsReach vc entries n
    → IsFarthest vc places entries n
farthest_still vc [] entries n above reach = farthest_none vc entries n reach
farthest_still vc (place ∷ places) entries n above reach =
    farthest_early vc place places entries n above.0
    (farthest_still vc places (planned FailsBefore place entries) n above.1 (reach_planned vc place entries FailsBefore n above.0 reach))

planned_same : (plan : StorePlan) (place : ℕ) (entries : List SourceEntry) (one : SourceEntry) → place < length entries → one ≡ get_or entries place one
    → with_plan plan one ≡ one → planned plan place entries ≡ entries
planned_same plan place [] one low is same = absurd (omega (arith, low))
planned_same plan zero (entry ∷ entries) one low is same =
    ap (λ (e : SourceEntry). e ∷ entries) (subst (λ (e : SourceEntry). with_plan plan e ≡ e) is same)
planned_same plan (suc n) (entry ∷ entries) one low is same = ap (λ (es : List SourceEntry). entry ∷ es) (planned_same plan n entries one (omega (arith, low)) is same)

-- one write more wasn't stored
pub unstored_more : (place : ℕ) (places : List ℕ) (entries : List SourceEntry) (one : SourceEntry) → place < length entries → one ≡ get_or entries place one
    → with_plan FailsBefore one ≡ one → IsSettled places entries entries → IsSettled (place ∷ places) entries entries
unstored_more place places entries one low is same rest =
    inl (subst (λ (es : List SourceEntry). IsSettled places es entries) (sym (planned_same FailsBefore place entries one low is same)) rest)

-- of two ways the one is preferred after which more entries fit, if the other one can't go on
pub before_shown : (vc : Channel) (place : ℕ) (next : List ℕ) (entries : List SourceEntry) (before after : Way) → after.count ≤ before.count
    → IsWay vc next (planned FailsBefore place entries) before → IsFarthest vc next (planned FailsAfter place entries) after.count
    → Prefers vc place next entries FailsBefore
before_shown vc place next entries before after low one far = record {
  failed = inl refl;
  as_far = as_far;
  needed = λ is. absurd (cc);
}
  where
    as_far : (other : List SourceEntry) (n : ℕ) → IsSettled (place ∷ next) entries other → FitsTo vc other n
        → (settled : List SourceEntry) × IsSettled next (planned FailsBefore place entries) settled × FitsTo vc settled n
    as_far other n (inl is) fits = (other, is, fits)
    as_far other n (inr is) fits =
        let most = far.most other n is fits in
        (planned FailsBefore place entries, one.settled, fits_fewer vc [] (planned FailsBefore place entries) n before.count (omega (arith, most, low)) one.reach.fits)

pub after_shown : (vc : Channel) (place : ℕ) (next : List ℕ) (entries : List SourceEntry) (before after : Way) → before.count < after.count
    → IsFarthest vc next (planned FailsBefore place entries) before.count → IsWay vc next (planned FailsAfter place entries) after
    → Prefers vc place next entries FailsAfter
after_shown vc place next entries before after more far two = record {
  failed = inr refl;
  as_far = as_far;
  needed = λ is. (
    planned FailsAfter place entries,
    two.settled,
    record {
      count = after.count;
      fits = two.reach.fits;
      not_before = λ other so fits. (let most = far.most other after.count so fits in absurd (omega (arith, most, more)));
    },
  );
}
  where
    as_far : (other : List SourceEntry) (n : ℕ) → IsSettled (place ∷ next) entries other → FitsTo vc other n
        → (settled : List SourceEntry) × IsSettled next (planned FailsAfter place entries) settled × FitsTo vc settled n
    as_far other n (inr is) fits = (other, is, fits)
    as_far other n (inl is) fits =
        let most = far.most other n is fits in
        (planned FailsAfter place entries, two.settled, fits_fewer vc [] (planned FailsAfter place entries) n after.count (omega (arith, most, more)) two.reach.fits)

-- what two ways show is right
pub shown_right : (vc : Channel) (place : ℕ) (next : List ℕ) (entries : List SourceEntry) (before after : Way)
    → IsWay vc next (planned FailsBefore place entries) before → IsWay vc next (planned FailsAfter place entries) after
    → IfSome (shown_by before after) (Prefers vc place next entries)
shown_right vc place next entries before after one two = by (nat_lt before.count after.count) before.is_farthest after.is_farthest refl refl refl
  where
    by : (more near far : Bool) → nat_lt before.count after.count ≡ more → before.is_farthest ≡ near → after.is_farthest ≡ far
        → IfSome (if more then (if near then Some FailsAfter else None) else (if far then Some FailsBefore else None)) (Prefers vc place next entries)
    by true true far is near_is far_is = after_shown vc place next entries before after (grind (arith, nat_tests)) (one.farthest near_is) two
    by true false far is near_is far_is = tt
    by false near true is near_is far_is = before_shown vc place next entries before after (grind (arith, nat_tests)) one (two.farthest far_is)
    by false near false is near_is far_is = tt
