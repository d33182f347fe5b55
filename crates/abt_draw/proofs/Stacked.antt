-- Blocks, one upon the other.
use Rattle.std.proofs.Common.{◌≡◌, ◌==◌, ℕ, zero, suc, ◌+◌, ◌*◌, ◌/◌, ◌<◌, ◌≤◌, ◌⊎◌, inl, inr, List, [], ◌∷◌, ◌++◌, length, take, arith, refl, sym, subst, ap, ◌∙◌, get_or}
use Rattle.std.specs.Prelude.{sum, slice_get, Some}
use Rattle.std.proofs.Math.Nat.{div-mul-le_self}
use Rattle.std.proofs.lemmas.Bool.{cases_Bool, eqb-false}
use Rattle.std.proofs.lemmas.List.{length_push}
use Rattle.std.proofs.lemmas.List.Sums.{sum_by_more, sum_by-take-le}
use Rattle.std.proofs.lemmas.Nat.{le-div}
use Rattle.abt_draw.specs.Blocks.{IsBlock, AreBlocks, AreBelow, height_of}
use Rattle.abt_draw.specs.declared.block.Block.{Block}

some_same : {A : Type 0} (x y : A) → Some x ≡ Some y → x ≡ y
some_same x y same = cc

-- a list with one item more
at_push : (xs : List Block) (x : Block) (k : ℕ) (y : Block) → slice_get (xs ++ x ∷ []) k ≡ Some y →
    (slice_get xs k ≡ Some y) ⊎ ((k ≡ length xs) × (y ≡ x))
at_push [] x zero y at = inr (refl, sym (some_same x y at))
at_push [] x (suc k) y at = absurd (let e = at in cc)
at_push (z ∷ xs) x zero y at = inl at
at_push (z ∷ xs) x (suc k) y at = elim (at_push xs x k y at) [
  | inl there ↦ inl there
  | inr last ↦ inr (ap suc last.0, last.1)
]

-- of a stack that has room: the blocks of the first so many connections, and what these hold
pub record AreStacked (stack : List ℕ) (most : ℕ) (blocks : List Block) (below n : ℕ) : Type 0 where
  pub count : length blocks ≡ n
  pub sum_is : below ≡ sum (take n stack)
  pub each : (c : ℕ) (block : Block) → slice_get blocks c ≡ Some block → IsBlock stack most c block

abbrev pub IsStacked : List ℕ → (most : ℕ) → List Block → (below n : ℕ) → Type 0
IsStacked stack most blocks below n = sum stack ≤ most → AreStacked stack most blocks below n

each_more : (stack : List ℕ) (most : ℕ) (blocks : List Block) (below n : ℕ) (block : Block) → AreStacked stack most blocks below n →
    IsBlock stack most n block → (c : ℕ) (other : Block) → slice_get (blocks ++ block ∷ []) c ≡ Some other → IsBlock stack most c other
each_more stack most blocks below n block are is c other at = elim (at_push blocks block c other at) [
  | inl there ↦ are.each c other there
  | inr last ↦ (
      let place : c ≡ n = last.0 ∙ are.count in
      subst (λ k. IsBlock stack most k other) (sym place) (subst (λ (one : Block). IsBlock stack most n one) (sym last.1) is))
]

-- what the connections up to this one hold is no more than there is room for
pub sum_more : (stack : List ℕ) (n held : ℕ) → n < length stack → held ≡ get_or stack n 0 → sum (take n stack) + held ≡ sum (take (n + 1) stack)
sum_more stack n held low is = rw is (sym (sum_by_more (λ x. x) stack n 0 low))

pub sum_within : (stack : List ℕ) (n : ℕ) → sum (take n stack) ≤ sum stack
sum_within stack n = sum_by-take-le (λ x. x) stack n

-- a block more
pub stacked_more : (stack : List ℕ) (most : ℕ) (blocks : List Block) (below n above : ℕ) (block : Block) → AreStacked stack most blocks below n →
    above ≡ sum (take (n + 1) stack) → block.bottom ≡ height_of below most → block.top ≡ height_of above most →
    AreStacked stack most (blocks ++ block ∷ []) above (n + 1)
stacked_more stack most blocks below n above block are sum_is bottom top = record {
  count = length_push blocks block ∙ ap (λ k. k + 1) are.count;
  sum_is = sum_is;
  each = each_more stack most blocks below n block are (record {
    bottom = bottom ∙ ap (λ k. height_of k most) are.sum_is;
    top = top ∙ ap (λ k. height_of k most) sum_is;
  });
}

-- what is more stands no lower
pub height-le : (a b most : ℕ) → a ≤ b → height_of a most ≤ height_of b most
height-le a b most le = elim (cases_Bool (most == 0)) [
  | inl is ↦ rw is (omega arith)
  | inr other ↦ (
      let some : 0 < most = let ne = eqb-false most 0 other in omega (ne, arith) in
      rw other (le-div (a * 600 / most) (b * 600) most some (omega (div-mul-le_self (a * 600) most, le, arith))))
]

-- no block of a stack is above the height of what the stack doesn't exceed
pub are_below : (stack : List ℕ) (most capacity : ℕ) (blocks : List Block) → AreBlocks stack most blocks → sum stack ≤ capacity →
    AreBelow blocks (height_of capacity most)
are_below stack most capacity blocks are le = record {
  each = λ c block at. rw ((are.each c block at).top) (height-le _ _ _ (omega (sum_within stack (c + 1), le, arith)));
}
