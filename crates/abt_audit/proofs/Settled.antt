-- Open writes are settled so that as many entries fit as can.
use Rattle.std.proofs.Common.{◌≡◌, ◌⊎◌, inl, inr, ℕ, zero, suc, ◌+◌, ◌<◌, ◌≤◌, ◌∙◌, List, [], ◌∷◌, length, take, get_or, refl, sym, ap, subst, arith}
use Rattle.std.specs.Prelude.{slice_set}
use Rattle.std.proofs.lemmas.Bool.{cases_lt}
use Rattle.abt_cell.specs.Channel.{Channel}
use Rattle.abt_facts.specs.declared.fact.Fact.{Fact}
use Rattle.abt_keep.specs.declared.plan.StorePlan.{StorePlan}
use Rattle.abt_keep.specs.declared.plan.StorePlan.TheVariants.{FailsBefore, FailsAfter}
use Rattle.abt_model.specs.declared.entry.SourceEntry.{SourceEntry}
use Rattle.abt_model.specs.declared.entry.SourceEntry.TheVariants.{Did, Sent, Arrived}
use Rattle.abt_model.specs.declared.event.Event.TheVariants.{Start, Ask, Again, Crash, Emit, Arrive, Request, Turn, Answer, Told, Capacity}
use Rattle.abt_audit.specs.Protocol.{answer_in, facts_past}
use Rattle.abt_audit.specs.Settling.{with_plan, plan_of, planned, IsSettled, told_in, FitsFrom, FitsTo, IsReach, IsFarthest, Prefers, FitsAsFar, StoredIfNeeded, SettlesSource}

-- if so many entries fit, fewer do
pub fits_fewer : (vc : Channel) (facts : List Fact) (entries : List SourceEntry) (k n : ℕ) → k ≤ n → FitsFrom vc facts entries n → FitsFrom vc facts entries k
fits_fewer vc facts entries zero n low fits = tt
fits_fewer vc facts entries (suc k) zero low fits = absurd (omega (arith, low))
fits_fewer vc facts [] (suc k) (suc n) low fits = absurd fits
fits_fewer vc facts (entry ∷ entries) (suc k) (suc n) low fits =
    (fits.0, fits_fewer vc (facts_past vc facts entry) entries k n (omega (arith, low)) fits.1)

-- no more fit than there are
pub fits_within : (vc : Channel) (facts : List Fact) (entries : List SourceEntry) (n : ℕ) → FitsFrom vc facts entries n → n ≤ length entries
fits_within vc facts entries zero fits = omega arith
fits_within vc facts [] (suc n) fits = absurd fits
fits_within vc facts (entry ∷ entries) (suc n) fits = let more = fits_within vc (facts_past vc facts entry) entries n fits.1 in omega (arith, more)

pub fits_at_most : (vc : Channel) (entries : List SourceEntry) (m n : ℕ) → IsReach vc entries n → FitsTo vc entries m → m ≤ n
fits_at_most vc entries m n reach fits = elim (cases_lt n m) [
  | inl more ↦ absurd (reach.no_more (fits_fewer vc [] entries (suc n) m (omega (arith, more)) fits))
  | inr most ↦ omega (arith, most)
]

pub planned_length : (plan : StorePlan) (place : ℕ) (entries : List SourceEntry) → length (planned plan place entries) ≡ length entries
planned_length plan place [] = refl
planned_length plan zero (entry ∷ entries) = refl
planned_length plan (suc n) (entry ∷ entries) = ap suc (planned_length plan n entries)

pub settled_length : (places : List ℕ) (entries settled : List SourceEntry) → IsSettled places entries settled → length settled ≡ length entries
settled_length [] entries settled is = ap length is
settled_length (place ∷ places) entries settled (inl is) = settled_length places (planned FailsBefore place entries) settled is ∙ planned_length FailsBefore place entries
settled_length (place ∷ places) entries settled (inr is) = settled_length places (planned FailsAfter place entries) settled is ∙ planned_length FailsAfter place entries

-- behind the end there is nothing to plan
pub planned_past : (plan : StorePlan) (place : ℕ) (entries : List SourceEntry) → length entries ≤ place → planned plan place entries ≡ entries
planned_past plan place [] past = refl
planned_past plan zero (entry ∷ entries) past = absurd (omega (arith, past))
planned_past plan (suc n) (entry ∷ entries) past = ap (λ (more : List SourceEntry). entry ∷ more) (planned_past plan n entries (omega (arith, past)))

-- the entry of a place is put under a plan
pub set_planned : (plan : StorePlan) (place : ℕ) (entries : List SourceEntry) (one new : SourceEntry) → place < length entries
    → new ≡ with_plan plan (get_or entries place one) → slice_set entries place new ≡ planned plan place entries
set_planned plan place [] one new low put = absurd (omega (arith, low))
set_planned plan zero (entry ∷ entries) one new low put = ap (λ (e : SourceEntry). e ∷ entries) put
set_planned plan (suc n) (entry ∷ entries) one new low put = ap (λ (more : List SourceEntry). entry ∷ more) (set_planned plan n entries one new (omega (arith, low)) put)

pub no_places : (places : List ℕ) → length places ≡ 0 → places ≡ []
no_places [] is = refl
no_places (place ∷ places) is = absurd (omega (arith, is))

pub farthest_none : (vc : Channel) (entries : List SourceEntry) (n : ℕ) → IsReach vc entries n → IsFarthest vc [] entries n
farthest_none vc entries n reach = record {
  settled = entries;
  settles = refl;
  fits = reach.fits;
  most = λ other m is fits. fits_at_most vc entries m n reach (subst (λ (es : List SourceEntry). FitsTo vc es m) is fits);
}

-- a place behind the end doesn't matter
settled_past : (place : ℕ) (places : List ℕ) (entries settled : List SourceEntry) → length entries ≤ place → IsSettled (place ∷ places) entries settled
    → IsSettled places entries settled
settled_past place places entries settled past (inl is) = subst (λ (es : List SourceEntry). IsSettled places es settled) (planned_past FailsBefore place entries past) is
settled_past place places entries settled past (inr is) = subst (λ (es : List SourceEntry). IsSettled places es settled) (planned_past FailsAfter place entries past) is

past_settled : (place : ℕ) (places : List ℕ) (entries settled : List SourceEntry) → length entries ≤ place → IsSettled places entries settled
    → IsSettled (place ∷ places) entries settled
past_settled place places entries settled past is =
    inl (subst (λ (es : List SourceEntry). IsSettled places es settled) (sym (planned_past FailsBefore place entries past)) is)

pub farthest_past : (vc : Channel) (place : ℕ) (places : List ℕ) (entries : List SourceEntry) (n : ℕ) → length entries ≤ place
    → IsFarthest vc places entries n → IsFarthest vc (place ∷ places) entries n
farthest_past vc place places entries n past far = record {
  settled = far.settled;
  settles = past_settled place places entries far.settled past far.settles;
  fits = far.fits;
  most = λ other m is fits. far.most other m (settled_past place places entries other past is) fits;
}

-- no way fits further than to the end
within : (vc : Channel) (places : List ℕ) (entries other : List SourceEntry) (m : ℕ) → IsSettled places entries other → FitsTo vc other m → m ≤ length entries
within vc places entries other m is fits = subst (λ (k : ℕ). m ≤ k) (settled_length places entries other is) (fits_within vc [] other m fits)

most_of_both : (vc : Channel) (place : ℕ) (places : List ℕ) (entries : List SourceEntry) (n : ℕ)
    → ((other : List SourceEntry) (m : ℕ) → IsSettled places (planned FailsBefore place entries) other → FitsTo vc other m → m ≤ n)
    → ((other : List SourceEntry) (m : ℕ) → IsSettled places (planned FailsAfter place entries) other → FitsTo vc other m → m ≤ n)
    → (other : List SourceEntry) (m : ℕ) → IsSettled (place ∷ places) entries other → FitsTo vc other m → m ≤ n
most_of_both vc place places entries n before after other m (inl is) fits = before other m is fits
most_of_both vc place places entries n before after other m (inr is) fits = after other m is fits

pub farthest_whole : (vc : Channel) (place : ℕ) (places : List ℕ) (entries : List SourceEntry) (n : ℕ) → n ≡ length entries
    → IsFarthest vc places (planned FailsBefore place entries) n → IsFarthest vc (place ∷ places) entries n
farthest_whole vc place places entries n all far = record {
  settled = far.settled;
  settles = inl far.settles;
  fits = far.fits;
  most = λ other m is fits. subst (λ (k : ℕ). m ≤ k) (sym all) (within vc (place ∷ places) entries other m is fits);
}

pub farthest_before : (vc : Channel) (place : ℕ) (places : List ℕ) (entries : List SourceEntry) (before after : ℕ) → after ≤ before
    → IsFarthest vc places (planned FailsBefore place entries) before → IsFarthest vc places (planned FailsAfter place entries) after
    → IsFarthest vc (place ∷ places) entries before
farthest_before vc place places entries before after low one two = record {
  settled = one.settled;
  settles = inl one.settles;
  fits = one.fits;
  most = most_of_both vc place places entries before one.most (λ other m is fits. let most = two.most other m is fits in omega (arith, most, low));
}

pub farthest_after : (vc : Channel) (place : ℕ) (places : List ℕ) (entries : List SourceEntry) (before after : ℕ) → before ≤ after
    → IsFarthest vc places (planned FailsBefore place entries) before → IsFarthest vc places (planned FailsAfter place entries) after
    → IsFarthest vc (place ∷ places) entries after
farthest_after vc place places entries before after low one two = record {
  settled = two.settled;
  settles = inr two.settles;
  fits = two.fits;
  most = most_of_both vc place places entries after (λ other m is fits. let most = one.most other m is fits in omega (arith, most, low)) two.most;
}

-- under a plan of a place as many entries fit as can
as_far_as_can : (vc : Channel) (place : ℕ) (next : List ℕ) (entries : List SourceEntry) (plan : StorePlan) (n : ℕ) → IsFarthest vc (place ∷ next) entries n
    → IsFarthest vc next (planned plan place entries) n → (other : List SourceEntry) (m : ℕ) → IsSettled (place ∷ next) entries other → FitsTo vc other m
    → (settled : List SourceEntry) × IsSettled next (planned plan place entries) settled × FitsTo vc settled m
as_far_as_can vc place next entries plan n all far other m is fits =
    (far.settled, far.settles, fits_fewer vc [] far.settled m n (all.most other m is fits) far.fits)

pub prefers_before : (vc : Channel) (place : ℕ) (next : List ℕ) (entries : List SourceEntry) (n : ℕ)
    → IsFarthest vc (place ∷ next) entries n → IsFarthest vc next (planned FailsBefore place entries) n → Prefers vc place next entries FailsBefore
prefers_before vc place next entries n all far = record {
  failed = inl refl;
  as_far = as_far_as_can vc place next entries FailsBefore n all far;
  needed = λ is. absurd (cc);
}

pub prefers_after : (vc : Channel) (place : ℕ) (next : List ℕ) (entries : List SourceEntry) (before after : ℕ) → before < after
    → IsFarthest vc (place ∷ next) entries after → IsFarthest vc next (planned FailsBefore place entries) before
    → IsFarthest vc next (planned FailsAfter place entries) after → Prefers vc place next entries FailsAfter
prefers_after vc place next entries before after more all one two = record {
  failed = inr refl;
  as_far = as_far_as_can vc place next entries FailsAfter after all two;
  needed = λ is. (
    two.settled,
    two.settles,
    record {
      count = after;
      fits = two.fits;
      not_before = λ other so fits. (let most = one.most other after so fits in absurd (omega (arith, most, more)));
    },
  );
}

-- The writes that are left are settled of what they leave so far, which is one way to settle all; and if there are few, as many entries fit, and
-- each that is taken as stored has to be, if as many fit in the end.
pub record IsUnderWay (vc : Channel) (places : List ℕ) (entries : List SourceEntry) (left : List ℕ) (now : List SourceEntry) : Type 0 where
  pub settles : (settled : List SourceEntry) → IsSettled left now settled → IsSettled places entries settled
  pub few : length left ≤ length places
  pub as_far : length places ≤ 8 → (other : List SourceEntry) (n : ℕ) → IsSettled places entries other → FitsTo vc other n
      → (settled : List SourceEntry) × IsSettled left now settled × FitsTo vc settled n
  pub needed : length places ≤ 8 → (settled : List SourceEntry) → FitsAsFar vc left now settled → StoredIfNeeded vc left now settled
      → StoredIfNeeded vc places entries settled

pub under_way_first : (vc : Channel) (places : List ℕ) (entries : List SourceEntry) → IsUnderWay vc places entries places entries
under_way_first vc places entries = record {
  settles = λ settled is. is;
  few = omega arith;
  as_far = λ few other n is fits. (other, is, fits);
  needed = λ few settled far is. is;
}

-- the next place is behind the end
pub under_way_past : (vc : Channel) (places : List ℕ) (entries : List SourceEntry) (place : ℕ) (rest : List ℕ) (now : List SourceEntry) → length now ≤ place
    → IsUnderWay vc places entries (place ∷ rest) now → IsUnderWay vc places entries rest now
under_way_past vc places entries place rest now past p = record {
  settles = λ settled is. p.settles settled (past_settled place rest now settled past is);
  few = let few = p.few in omega (arith, few);
  as_far = λ few other n is fits. (let far = p.as_far few other n is fits in (far.0, settled_past place rest now far.0 past far.1, far.2));
  needed = λ few settled far is. p.needed few settled (λ other n so fits. far other n (settled_past place rest now other past so) fits)
      (inl (subst (λ (es : List SourceEntry). StoredIfNeeded vc rest es settled) (sym (planned_past FailsBefore place now past)) is));
}

take_few : (n : ℕ) (xs : List ℕ) → length xs ≤ n → take n xs ≡ xs
take_few zero [] few = refl
take_few zero (x ∷ xs) few = absurd (omega (arith, few))
take_few (suc n) [] few = refl
take_few (suc n) (x ∷ xs) few = ap (λ (more : List ℕ). x ∷ more) (take_few n xs (omega (arith, few)))

one_way : (place : ℕ) (rest : List ℕ) (now settled : List SourceEntry) (plan : StorePlan) → (plan ≡ FailsBefore) ⊎ (plan ≡ FailsAfter)
    → IsSettled rest (planned plan place now) settled → IsSettled (place ∷ rest) now settled
one_way place rest now settled plan (inl before) is = inl (subst (λ (p : StorePlan). IsSettled rest (planned p place now) settled) before is)
one_way place rest now settled plan (inr after) is = inr (subst (λ (p : StorePlan). IsSettled rest (planned p place now) settled) after is)

-- a way that fits as far under a preferred plan does so however else all are settled
fits_preferred : (vc : Channel) (place : ℕ) (rest : List ℕ) (now settled : List SourceEntry) (plan : StorePlan) → Prefers vc place rest now plan
    → FitsAsFar vc rest (planned plan place now) settled → FitsAsFar vc (place ∷ rest) now settled
fits_preferred vc place rest now settled plan best far other n is fits = let so = best.as_far other n is fits in far so.0 n so.1 so.2

-- the write of a place is taken as stored only where it has to be
stored_if_needed : (vc : Channel) (place : ℕ) (rest : List ℕ) (now settled : List SourceEntry) (plan : StorePlan) → Prefers vc place rest now plan
    → (plan ≡ FailsBefore) ⊎ (plan ≡ FailsAfter) → FitsAsFar vc rest (planned plan place now) settled
    → StoredIfNeeded vc rest (planned plan place now) settled → StoredIfNeeded vc (place ∷ rest) now settled
stored_if_needed vc place rest now settled plan best (inl before) far is =
    inl (subst (λ (p : StorePlan). StoredIfNeeded vc rest (planned p place now) settled) before is)
stored_if_needed vc place rest now settled plan best (inr after) far is =
    let so = best.needed after in
    let need = so.2 in
    let same = ap (λ (p : StorePlan). planned p place now) after in
    let tried = subst (λ (es : List SourceEntry). IsSettled rest es so.0) (sym same) so.1 in
    inr (
      subst (λ (es : List SourceEntry). StoredIfNeeded vc rest es settled) same is,
      record {
        count = need.count;
        fits = far so.0 need.count tried need.fits;
        not_before = need.not_before;
      },
    )

-- the write of the next place is settled so that as many entries fit as can
pub under_way_more : (vc : Channel) (places : List ℕ) (entries : List SourceEntry) (place : ℕ) (rest : List ℕ) (now : List SourceEntry) (plan : StorePlan)
    → Prefers vc place (take 7 rest) now plan → IsUnderWay vc places entries (place ∷ rest) now
    → IsUnderWay vc places entries rest (planned plan place now)
under_way_more vc places entries place rest now plan best p = record {
  settles = λ settled is. p.settles settled (one_way place rest now settled plan best.failed is);
  few = let few = p.few in omega (arith, few);
  as_far = λ few other n is fits. (
      let far = p.as_far few other n is fits in
      let left = p.few in
      let short : length rest ≤ 7 = omega (arith, few, left) in
      let all : take 7 rest ≡ rest = take_few 7 rest short in
      let tried : IsSettled (place ∷ take 7 rest) now far.0 = subst (λ (ps : List ℕ). IsSettled (place ∷ ps) now far.0) (sym all) far.1 in
      let so = best.as_far far.0 n tried far.2 in
      (so.0, subst (λ (ps : List ℕ). IsSettled ps (planned plan place now) so.0) all so.1, so.2));
  needed = λ few settled far is. (
      let left = p.few in
      let short : length rest ≤ 7 = omega (arith, few, left) in
      let best_of_all = subst (λ (ps : List ℕ). Prefers vc place ps now plan) (take_few 7 rest short) best in
      p.needed few settled (fits_preferred vc place rest now settled plan best_of_all far)
      (stored_if_needed vc place rest now settled plan best_of_all best.failed far is));
}

pub settles_all : (vc : Channel) (places : List ℕ) (entries now : List SourceEntry) → IsUnderWay vc places entries [] now → SettlesSource vc places entries now
settles_all vc places entries now p = record {
  settles = p.settles now refl;
  farthest = λ few other n is fits. (let far = p.as_far few other n is fits in subst (λ (es : List SourceEntry). FitsTo vc es n) far.1 far.2);
  needed = λ few. p.needed few now (λ other n is fits. subst (λ (es : List SourceEntry). FitsTo vc es n) is fits) refl;
}

-- Entries fit so far, and no more than the others do.
pub record FitsOn (vc : Channel) (entries : List SourceEntry) (place : ℕ) (facts : List Fact) (left : List SourceEntry) : Type 0 where
  pub on : (k : ℕ) → FitsFrom vc facts left k → FitsTo vc entries (place + k)
  pub back : (k : ℕ) → FitsTo vc entries (place + k) → FitsFrom vc facts left k

pub fits_first : (vc : Channel) (entries : List SourceEntry) (place : ℕ) → place ≡ 0 → FitsOn vc entries place [] entries
fits_first vc entries place is = record {
  on = λ k fits. (let same : k ≡ place + k = omega (arith, is) in subst (FitsTo vc entries) same fits);
  back = λ k fits. (let same : place + k ≡ k = omega (arith, is) in subst (FitsTo vc entries) same fits);
}

pub fits_more : (vc : Channel) (entries : List SourceEntry) (place : ℕ) (facts : List Fact) (entry : SourceEntry) (left : List SourceEntry)
    → FitsOn vc entries place facts (entry ∷ left) → answer_in vc facts entry ≡ told_in entry → FitsOn vc entries (place + 1) (facts_past vc facts entry) left
fits_more vc entries place facts entry left p is = record {
  on = λ k fits. (let same : place + suc k ≡ place + 1 + k = omega arith in subst (FitsTo vc entries) same (p.on (suc k) (is, fits)));
  back = λ k fits. (let same : place + 1 + k ≡ place + suc k = omega arith in (p.back (suc k) (subst (FitsTo vc entries) same fits)).1);
}

pub reach_here : (vc : Channel) (entries : List SourceEntry) (place : ℕ) (facts : List Fact) (entry : SourceEntry) (left : List SourceEntry)
    → FitsOn vc entries place facts (entry ∷ left) → (answer_in vc facts entry ≡ told_in entry → ⊥) → IsReach vc entries place
reach_here vc entries place facts entry left p differs = record {
  fits = (let same : place + 0 ≡ place = omega arith in subst (FitsTo vc entries) same (p.on 0 tt));
  no_more = λ fits. (let same : suc place ≡ place + 1 = omega arith in differs (p.back 1 (subst (FitsTo vc entries) same fits)).0);
}

pub reach_end : (vc : Channel) (entries : List SourceEntry) (place : ℕ) (facts : List Fact) → FitsOn vc entries place facts [] → IsReach vc entries place
reach_end vc entries place facts p = record {
  fits = (let same : place + 0 ≡ place = omega arith in subst (FitsTo vc entries) same (p.on 0 tt));
  no_more = λ fits. (let same : suc place ≡ place + 1 = omega arith in p.back 1 (subst (FitsTo vc entries) same fits));
}

plan_again : (plan : StorePlan) (entry : SourceEntry) → with_plan (plan_of entry) (with_plan plan entry) ≡ entry
plan_again plan (Did (Start c now) told) = refl
plan_again plan (Did (Ask c rate old) told) = refl
plan_again plan (Did (Again c) told) = refl
plan_again plan (Did (Crash c) told) = refl
plan_again plan (Did (Emit c now) told) = refl
plan_again plan (Did (Arrive c cell at) told) = refl
plan_again plan (Did (Request c hop seq) told) = refl
plan_again plan (Did (Turn c seq) told) = refl
plan_again plan (Did (Answer c hop seq granted) told) = refl
plan_again plan (Did (Told c seq granted) told) = refl
plan_again plan (Did (Capacity p units) told) = refl
plan_again plan (Sent place) = refl
plan_again plan (Arrived cell place) = refl

-- the entry of a place is put under its own plan again
planned_back : (plan : StorePlan) (place : ℕ) (entries : List SourceEntry) (one : SourceEntry) → place < length entries
    → planned (plan_of (get_or entries place one)) place (planned plan place entries) ≡ entries
planned_back plan place [] one low = absurd (omega (arith, low))
planned_back plan zero (entry ∷ entries) one low = ap (λ (e : SourceEntry). e ∷ entries) (plan_again plan entry)
planned_back plan (suc n) (entry ∷ entries) one low = ap (λ (more : List SourceEntry). entry ∷ more) (planned_back plan n entries one (omega (arith, low)))

pub put_back : (place : ℕ) (entries : List SourceEntry) (one : SourceEntry) (kept plan : StorePlan) (first far second : List SourceEntry) → place < length entries
    → kept ≡ plan_of (get_or entries place one) → first ≡ planned plan place entries → far ≡ first → second ≡ planned kept place far → second ≡ entries
put_back place entries one kept plan first far second low own put stays back =
    back ∙ ap (planned kept place) (stays ∙ put) ∙ ap (λ (p : StorePlan). planned p place (planned plan place entries)) own ∙ planned_back plan place entries one low

pub reach_whole : (vc : Channel) (entries : List SourceEntry) (place : ℕ) (facts : List Fact) → length entries ≤ place → FitsOn vc entries place facts []
    → IsReach vc entries (length entries)
reach_whole vc entries place facts past p =
    let here = reach_end vc entries place facts p in
    let low = fits_within vc [] entries place here.fits in
    let same : place ≡ length entries = omega (arith, low, past) in
    subst (IsReach vc entries) same here
