-- The first items of a list, and those behind them, are its parts.
use Rattle.std.proofs.Common.{◌≡◌, ℕ, ◌+◌, ◌-◌, ◌≤◌, ◌++◌, Bool, true, false, cond, List, [], ◌∷◌, length, take, refl, ap, subst, arith, add-one}
use Rattle.abt_derive.specs.Lists.{behind_first, first_ones}

parts : {A : Type 0} (test : A → Bool) (items : List A) → first_ones test items ++ behind_first test items ≡ items
parts test [] = refl
parts test (item ∷ items) = by_test (test item) item items (first_ones test items) (behind_first test items) (parts test items)
  where
    by_test : {A : Type 0} (b : Bool) (item : A) (items first behind : List A) → first ++ behind ≡ items
        → cond b (item ∷ first) [] ++ cond b behind (item ∷ items) ≡ item ∷ items
    by_test true item items first behind is = ap (λ more. item ∷ more) is
    by_test false item items first behind is = refl

taken_front : {A : Type 0} (xs ys : List A) → take (length (xs ++ ys) - length ys) (xs ++ ys) ≡ xs
taken_front [] ys = (let none : length ys - length ys ≡ 0 = omega arith in rw none refl)
taken_front (x ∷ xs) ys = front_more x xs ys (length (xs ++ ys)) (length ys) refl refl (taken_front xs ys)
  where
    longer : {A : Type 0} (xs ys : List A) → length ys ≤ length (xs ++ ys)
    longer [] ys = omega arith
    longer (x ∷ xs) ys = (let more = longer xs ys in omega (arith, more))

    front_more : {A : Type 0} (x : A) (xs ys : List A) (n m : ℕ) → length (xs ++ ys) ≡ n → length ys ≡ m
        → take (length (xs ++ ys) - length ys) (xs ++ ys) ≡ xs → take (length (x ∷ (xs ++ ys)) - length ys) (x ∷ (xs ++ ys)) ≡ x ∷ xs
    front_more x xs ys n m here there is =
        let low = longer xs ys in
        let one : length (x ∷ (xs ++ ys)) - length ys ≡ (length (xs ++ ys) - length ys) + 1 = omega (arith, low) in
        rw (one, add-one) (ap (λ more. x ∷ more) is)

-- no more are behind the first ones than there are
pub behind_first_is : {A : Type 0} (test : A → Bool) (items : List A) → length (behind_first test items) ≤ length items
behind_first_is test items =
    subst (λ whole. length (behind_first test items) ≤ length whole) (parts test items) (longer (first_ones test items) (behind_first test items))
  where
    longer : {A : Type 0} (xs ys : List A) → length ys ≤ length (xs ++ ys)
    longer [] ys = omega arith
    longer (x ∷ xs) ys = (let more = longer xs ys in omega (arith, more))

-- the first ones are what is before those behind
pub first_ones_are : {A : Type 0} (test : A → Bool) (items : List A) → take (length items - length (behind_first test items)) items ≡ first_ones test items
first_ones_are test items =
    subst (λ whole. take (length whole - length (behind_first test items)) whole ≡ first_ones test items) (parts test items)
    (taken_front (first_ones test items) (behind_first test items))
