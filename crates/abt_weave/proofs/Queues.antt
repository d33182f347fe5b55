-- Queues of actors, as they are woken and taken out.
use Rattle.std.proofs.Common.{◌≡◌, ◌≢◌, ℕ, zero, suc, ◌<◌, ◌+◌, inl, inr, refl, ap, Bool, true, false, List, [], ◌∷◌, ◌++◌, length, ◌∙◌, sym, subst, Some, arith}
use Rattle.std.specs.Prelude.{◌⊎◌, nat_lt, slice_get, All, Contains}
use Rattle.std.proofs.Math.ListN.{set, length-set, replicate, length-replicate}
use Rattle.std.proofs.lemmas.Bool.{cases_Bool, cases_eq, false≢true}
use Rattle.std.proofs.lemmas.List.{get_or-set_same, get_or-set_other, get_or-replicate}
use Rattle.std.proofs.lemmas.List.Elements.{All-append, All-cons, All-nil, Contains-append_left, Contains-append_right}
use Rattle.std.proofs.lemmas.Option.{slice_get-get_or, slice_get_past, slice_get_within}
use Rattle.abt_weave.specs.declared.queue.Queue.{Queue}
use Rattle.abt_weave.specs.Queue.{IsQueue, AreAllReady, IsFirst, IsUp, Wakes}
use Rattle.abt_weave.proofs.Numbers.{below_if, below_else}
use Rattle.abt_weave.proofs.PortEvents.{some_same}

pub get_set : (xs : List Bool) (i : ℕ) (y : Bool) → i < length xs → slice_get (set xs i y) i ≡ Some y
get_set xs i y low =
    let there : i < length (set xs i y) = subst (λ n. i < n) (sym (length-set xs i y)) low in
    slice_get-get_or (set xs i y) i y there ∙ ap (λ b. Some b) (get_or-set_same xs i y y low)

pub get_set_other : (xs : List Bool) (i j : ℕ) (y : Bool) → j ≢ i → slice_get (set xs i y) j ≡ slice_get xs j
get_set_other xs i j y differ = elim (cases_Bool (nat_lt j (length xs))) [
  | inl less ↦ (
      let low = below_if j (length xs) less in
      let there : j < length (set xs i y) = subst (λ n. j < n) (sym (length-set xs i y)) low in
      slice_get-get_or (set xs i y) j y there ∙ ap (λ b. Some b) (get_or-set_other xs i j y y differ) ∙ sym (slice_get-get_or xs j y low))
  | inr more ↦ (
      let high = below_else j (length xs) more in
      slice_get_past (set xs i y) j (let e = length-set xs i y in omega (arith, e, high)) ∙ sym (slice_get_past xs j high))
]

contains_rest : (x : ℕ) (xs : List ℕ) (i : ℕ) → i ≢ x → Contains (x ∷ xs) i → Contains xs i
contains_rest x xs i differ (zero, low, is) = absurd (differ (sym is))
contains_rest x xs i differ (suc k, low, is) = (k, omega (arith, low), is)

pub not_both : (xs : List Bool) (i : ℕ) → slice_get xs i ≡ Some true → slice_get xs i ≡ Some false → ⊥
not_both xs i is also = false≢true (some_same (sym also ∙ is))

-- the first is taken out
pub taken_out : (old new : Queue) (number k : ℕ) → IsQueue (length old.woken.items) old → old.ready.items ≡ number ∷ new.ready.items → new.woken.items ≡ set old.woken.items k false → new.marks.items ≡ old.marks.items → k ≡ number → IsFirst old new number
taken_out old new number k queue first woken marks same =
    let n = length old.woken.items in
    let is : new.woken.items ≡ set old.woken.items number false = woken ∙ ap (λ j. set old.woken.items j false) same in
    let all : All (λ i. i < n) (number ∷ new.ready.items) = subst (All (λ i. i < n)) first queue.low in
    let low : number < n = all 0 number (omega arith) in
    let taken : slice_get new.woken.items number ≡ Some false = ap (λ l. slice_get l number) is ∙ get_set old.woken.items number false low in
    let others : (i : ℕ) → (i ≡ number → ⊥) → slice_get new.woken.items i ≡ slice_get old.woken.items i = λ i differ. ap (λ l. slice_get l i) is ∙ get_set_other old.woken.items number i false differ in
    let was : (i : ℕ) → slice_get new.woken.items i ≡ Some true → (i ≢ number) × (slice_get old.woken.items i ≡ Some true)
    = λ i up. (let differ : i ≢ number = λ e. not_both new.woken.items number (subst (λ j. slice_get new.woken.items j ≡ Some true) e up) taken in (differ, sym (others i differ) ∙ up)) in
    record {
      first = first;
      queue_is = record {
        woken_count = ap (λ l. length l) is ∙ length-set old.woken.items number false;
        mark_count = ap (λ l. length l) marks ∙ queue.mark_count;
        low = λ i d less. all (suc i) d (omega (arith, less));
        listed = λ i up. (let before = was i up in contains_rest number new.ready.items i before.0 (subst (λ l. Contains l i) first (queue.listed i before.1)));
        unmarked = λ i up. ap (λ l. slice_get l i) marks ∙ queue.unmarked i (was i up).1;
      };
      marks = marks;
      taken = taken;
      others = others;
    }

-- one is woken
pub woken_too : (old new : Queue) (number k : ℕ) → IsQueue (length old.woken.items) old → number < length old.woken.items → slice_get old.marks.items number ≡ Some false → new.ready.items ≡ old.ready.items ++ number ∷ [] →
    new.woken.items ≡ set old.woken.items k true → new.marks.items ≡ old.marks.items → k ≡ number → IsQueue (length old.woken.items) new × Wakes (λ i. i ≡ number) old new
woken_too old new number k queue low unmarked ready woken marks same =
    let n = length old.woken.items in
    let is : new.woken.items ≡ set old.woken.items number true = woken ∙ ap (λ j. set old.woken.items j true) same in
    let count : length new.woken.items ≡ n = ap (λ l. length l) is ∙ length-set old.woken.items number true in
    let here : slice_get new.woken.items number ≡ Some true = ap (λ l. slice_get l number) is ∙ get_set old.woken.items number true low in
    let others : (i : ℕ) → i ≢ number → slice_get new.woken.items i ≡ slice_get old.woken.items i = λ i differ. ap (λ l. slice_get l i) is ∙ get_set_other old.woken.items number i true differ in (
      record {
        woken_count = count;
        mark_count = ap (λ l. length l) marks ∙ queue.mark_count;
        low = subst (All (λ i. i < n)) (sym ready) (All-append (λ i. i < n) old.ready.items (number ∷ []) queue.low (All-cons (λ i. i < n) number [] low (All-nil (λ i. i < n))));
        listed = λ i up. elim (cases_eq i number) [
          | inl e ↦ subst (λ l. Contains l i) (sym ready) (Contains-append_right old.ready.items (number ∷ []) i (0, omega arith, sym e))
          | inr differ ↦ subst (λ l. Contains l i) (sym ready) (Contains-append_left old.ready.items (number ∷ []) i (queue.listed i (sym (others i differ) ∙ up)))
        ];
        unmarked = λ i up. elim (cases_eq i number) [
          | inl e ↦ ap (λ l. slice_get l i) marks ∙ ap (slice_get old.marks.items) e ∙ unmarked
          | inr differ ↦ ap (λ l. slice_get l i) marks ∙ queue.unmarked i (sym (others i differ) ∙ up)
        ];
      },
      record {
        marks = marks;
        count = count;
        keeps = λ i up. elim (cases_eq i number) [
          | inl e ↦ subst (λ j. slice_get new.woken.items j ≡ Some true) (sym e) here
          | inr differ ↦ others i differ ∙ up
        ];
        wakes = λ i e. inl (subst (λ j. slice_get new.woken.items j ≡ Some true) (sym e) here);
      },
    )

-- those below a number are listed
abbrev pub AreListed : ℕ → List ℕ → Type 0
AreListed n xs = All (λ i. i < n) xs × ((i : ℕ) → i < n → Contains xs i)

pub listed_more : (n : ℕ) (old new : List ℕ) → new ≡ old ++ n ∷ [] → AreListed n old → AreListed (n + 1) new
listed_more n old new is are = subst (AreListed (n + 1)) (sym is) (
  All-append (λ i. i < n + 1) old (n ∷ []) (λ k d low. (let less = are.0 k d low in omega (arith, less))) (All-cons (λ i. i < n + 1) n [] (omega arith) (All-nil (λ i. i < n + 1))),
  λ i low. elim (cases_eq i n) [
    | inl e ↦ Contains-append_right old (n ∷ []) i (0, omega arith, sym e)
    | inr differ ↦ Contains-append_left old (n ∷ []) i (are.1 i (omega (arith, low, differ)))
  ],
)

get_replicated : (n i : ℕ) (b : Bool) → i < n → slice_get (replicate n b) i ≡ Some b
get_replicated n i b low =
    let within : i < length (replicate n b) = subst (λ m. i < m) (sym (length-replicate n b)) low in
    slice_get-get_or (replicate n b) i b within ∙ ap (λ x. Some x) (get_or-replicate n i b b low)

-- all of so many
pub all_ready : (n : ℕ) (queue : Queue) → AreListed n queue.ready.items → queue.woken.items ≡ replicate n true → queue.marks.items ≡ replicate n false → AreAllReady n queue
all_ready n queue listed woken marks =
    let count : length queue.woken.items ≡ n = ap (λ l. length l) woken ∙ length-replicate n true in
    let low : (i : ℕ) → slice_get queue.woken.items i ≡ Some true → i < n = λ i up. subst (λ m. i < m) count (slice_get_within queue.woken.items i true up) in
    record {
      queue_is = record {
        woken_count = count;
        mark_count = ap (λ l. length l) marks ∙ length-replicate n false;
        low = listed.0;
        listed = λ i up. listed.1 i (low i up);
        unmarked = λ i up. ap (λ l. slice_get l i) marks ∙ get_replicated n i false (low i up);
      };
      all = λ i less. ap (λ l. slice_get l i) woken ∙ get_replicated n i true less;
    }

-- who is up stays so
pub up_on : (whom : ℕ → Type 0) (old new : Queue) → Wakes whom old new → (i : ℕ) → IsUp old i → IsUp new i
up_on whom old new more i (inl woken) = inl (more.keeps i woken)
up_on whom old new more i (inr marked) = inr (ap (λ l. slice_get l i) more.marks ∙ marked)

pub wakes_none : (whom : ℕ → Type 0) (queue : Queue) → ((i : ℕ) → whom i → IsUp queue i) → Wakes whom queue queue
wakes_none whom queue none = record { marks = refl; count = refl; keeps = λ i up. up; wakes = none }

-- one after the other
pub wakes_both : (one other whom : ℕ → Type 0) (old now new : Queue) → Wakes one old now → Wakes other now new → ((i : ℕ) → whom i → one i ⊎ other i) → Wakes whom old new
wakes_both one other whom old now new first second covers = record {
  marks = second.marks ∙ first.marks;
  count = second.count ∙ first.count;
  keeps = λ i up. second.keeps i (first.keeps i up);
  wakes = λ i w. elim (covers i w) [
    | inl a ↦ up_on other now new second i (first.wakes i a)
    | inr b ↦ second.wakes i b
  ];
}

pub sized : (n : ℕ) (queue : Queue) → IsQueue n queue → IsQueue (length queue.woken.items) queue
sized n queue is = subst (λ m. IsQueue m queue) (sym is.woken_count) is

pub resized : (n : ℕ) (old new : Queue) → IsQueue n old → IsQueue (length old.woken.items) new → IsQueue n new
resized n old new is after = subst (λ m. IsQueue m new) is.woken_count after
