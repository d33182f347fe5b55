-- What a test of the facts says after one more fact.
use Rattle.std.proofs.Common.{◌≡◌, ℕ, ◌≤◌, ◌⊎◌, inl, inr, refl, Bool, true, List, [], ◌∷◌, sym, subst, arith}
use Rattle.std.specs.Prelude.{◌||◌, ◌&&◌, ◌==◌}
use Rattle.std.proofs.lemmas.Bool.{false≢true, or_cases, or_right, eqb-true, eq-eqb, and_from, and_parts}
use Rattle.std.proofs.lemmas.Bool.Decides.{nat_tests}
use Rattle.abt_facts.specs.declared.fact.Fact.{Fact}
use Rattle.abt_facts.specs.declared.fact.Fact.TheVariants.{Asked, Heard, Delivered, Passed, Shut, Turned, Back}
use Rattle.abt_facts.specs.Requests.{is_ask_of, was_asked}
use Rattle.abt_facts.specs.Source.{is_yes_to, yes_was_heard}
use Rattle.abt_facts.specs.Sent.{is_sending, was, was_delivered, was_passed, was_shut, was_turned, was_back}
use Rattle.abt_facts.specs.Hop.{newest_of}

or_left' : (x y : Bool) → x ≡ true → (x || y) ≡ true
or_left' x y h = rw h refl

at_hop-true : (fact : ℕ → ℕ → Fact) (s j t i : ℕ) → (t == s && i == j) ≡ true → fact t i ≡ fact s j
at_hop-true fact s j t i h =
    let both = and_parts _ _ h in
    let e : t ≡ s = eqb-true t s both.0 in
    let d : i ≡ j = eqb-true i j both.1 in
    cc

-- a fact that is a sending is the one that was asked for
is_sending-true : (sent f : Fact) → is_sending sent f ≡ true → f ≡ sent
is_sending-true (Delivered s) (Delivered t) h = let e : t ≡ s = eqb-true t s h in cc
is_sending-true (Passed s j) (Passed t i) h = at_hop-true Passed s j t i h
is_sending-true (Shut s j) (Shut t i) h = at_hop-true Shut s j t i h
is_sending-true (Turned s) (Turned t) h = let e : t ≡ s = eqb-true t s h in cc
is_sending-true (Back s j) (Back t i) h = at_hop-true Back s j t i h
is_sending-true sent other h = absurd (false≢true h)

pub is_yes_heard-true : (s : ℕ) (f : Fact) → is_yes_to s f ≡ true → f ≡ Heard s true
is_yes_heard-true s (Heard t true) h = let e : t ≡ s = eqb-true t s h in cc
is_yes_heard-true s other h = absurd (false≢true h)

pub record IsAskedFact (s : ℕ) (f : Fact) : Type 0 where
  pub floor : ℕ
  pub ask : ℕ
  pub mark : ℕ
  pub is : f ≡ Asked s floor ask mark

pub is_asked-true : (s : ℕ) (f : Fact) → is_ask_of s f ≡ true → IsAskedFact s f
is_asked-true s (Asked t floor ask mark) h = let e : t ≡ s = eqb-true t s h in record { floor = floor; ask = ask; mark = mark; is = cc }
is_asked-true s other h = absurd (false≢true h)

-- what was sent was sent by the newest fact, or by an earlier one
pub sent_cases : (sent f : Fact) (fs : List Fact) → was (f ∷ fs) sent ≡ true → (f ≡ sent) ⊎ (was fs sent ≡ true)
sent_cases sent f fs h = elim (or_cases (is_sending sent f) (was fs sent) h) [ inl t ↦ inl (is_sending-true sent f t) | inr t ↦ inr t ]

pub passed_cases : (s j : ℕ) (f : Fact) (fs : List Fact) → was_passed (f ∷ fs) s j ≡ true → (f ≡ Passed s j) ⊎ (was_passed fs s j ≡ true)
passed_cases s j f fs h = sent_cases (Passed s j) f fs h

pub shut_cases : (s j : ℕ) (f : Fact) (fs : List Fact) → was_shut (f ∷ fs) s j ≡ true → (f ≡ Shut s j) ⊎ (was_shut fs s j ≡ true)
shut_cases s j f fs h = sent_cases (Shut s j) f fs h

pub back_cases : (s j : ℕ) (f : Fact) (fs : List Fact) → was_back (f ∷ fs) s j ≡ true → (f ≡ Back s j) ⊎ (was_back fs s j ≡ true)
back_cases s j f fs h = sent_cases (Back s j) f fs h

pub turned_cases : (s : ℕ) (f : Fact) (fs : List Fact) → was_turned (f ∷ fs) s ≡ true → (f ≡ Turned s) ⊎ (was_turned fs s ≡ true)
turned_cases s f fs h = sent_cases (Turned s) f fs h

pub yes_heard_cases : (s : ℕ) (f : Fact) (fs : List Fact) → yes_was_heard (f ∷ fs) s ≡ true → (f ≡ Heard s true) ⊎ (yes_was_heard fs s ≡ true)
yes_heard_cases s f fs h = elim (or_cases (is_yes_to s f) (yes_was_heard fs s) h) [ inl t ↦ inl (is_yes_heard-true s f t) | inr t ↦ inr t ]

pub asked_cases : (s : ℕ) (f : Fact) (fs : List Fact) → was_asked (f ∷ fs) s ≡ true → (IsAskedFact s f) ⊎ (was_asked fs s ≡ true)
asked_cases s f fs h = elim (or_cases (is_ask_of s f) (was_asked fs s) h) [ inl t ↦ inl (is_asked-true s f t) | inr t ↦ inr t ]

-- what was true of the others stays true
pub sent_more : (sent f : Fact) (fs : List Fact) → was fs sent ≡ true → was (f ∷ fs) sent ≡ true
sent_more sent f fs h = or_right (is_sending sent f) (was fs sent) h

pub passed_more : (s j : ℕ) (f : Fact) (fs : List Fact) → was_passed fs s j ≡ true → was_passed (f ∷ fs) s j ≡ true
passed_more s j f fs h = sent_more (Passed s j) f fs h

pub shut_more : (s j : ℕ) (f : Fact) (fs : List Fact) → was_shut fs s j ≡ true → was_shut (f ∷ fs) s j ≡ true
shut_more s j f fs h = sent_more (Shut s j) f fs h

pub back_more : (s j : ℕ) (f : Fact) (fs : List Fact) → was_back fs s j ≡ true → was_back (f ∷ fs) s j ≡ true
back_more s j f fs h = sent_more (Back s j) f fs h

pub turned_more : (s : ℕ) (f : Fact) (fs : List Fact) → was_turned fs s ≡ true → was_turned (f ∷ fs) s ≡ true
turned_more s f fs h = sent_more (Turned s) f fs h

pub yes_heard_more : (s : ℕ) (f : Fact) (fs : List Fact) → yes_was_heard fs s ≡ true → yes_was_heard (f ∷ fs) s ≡ true
yes_heard_more s f fs h = or_right (is_yes_to s f) (yes_was_heard fs s) h

pub asked_more : (s : ℕ) (f : Fact) (fs : List Fact) → was_asked fs s ≡ true → was_asked (f ∷ fs) s ≡ true
asked_more s f fs h = or_right (is_ask_of s f) (was_asked fs s) h

-- newest only rises
pub newest_more : (f : Fact) (fs : List Fact) (j : ℕ) → newest_of fs j ≤ newest_of (f ∷ fs) j
newest_more (Passed s i) fs j = grind (arith, nat_tests)
newest_more (Shut s i) fs j = grind (arith, nat_tests)
newest_more other fs j = omega arith

newest_at-passed : (s j : ℕ) (fs : List Fact) → s ≤ newest_of (Passed s j ∷ fs) j
newest_at-passed s j fs = grind (arith, nat_tests)

newest_at-shut : (s j : ℕ) (fs : List Fact) → s ≤ newest_of (Shut s j ∷ fs) j
newest_at-shut s j fs = grind (arith, nat_tests)

-- newest is at least each number that was kept there
pub passed_newest : (s j : ℕ) (fs : List Fact) → was_passed fs s j ≡ true → s ≤ newest_of fs j
passed_newest s j [] h = absurd (false≢true h)
passed_newest s j (f ∷ fs) h = elim (passed_cases s j f fs h) [
  | inl e ↦ rw e (newest_at-passed s j fs)
  | inr t ↦ omega (arith, passed_newest s j fs t, newest_more f fs j)
]

pub shut_newest : (s j : ℕ) (fs : List Fact) → was_shut fs s j ≡ true → s ≤ newest_of fs j
shut_newest s j [] h = absurd (false≢true h)
shut_newest s j (f ∷ fs) h = elim (shut_cases s j f fs h) [
  | inl e ↦ rw e (newest_at-shut s j fs)
  | inr t ↦ omega (arith, shut_newest s j fs t, newest_more f fs j)
]

-- and it is one of them, or 0
abbrev pub IsKept : List Fact → ℕ → ℕ → Type 0
IsKept fs j m = (m ≡ 0) ⊎ ((was_passed fs m j ≡ true) ⊎ (was_shut fs m j ≡ true))

IsKept-more : (f : Fact) (fs : List Fact) (j m : ℕ) → IsKept fs j m → IsKept (f ∷ fs) j m
IsKept-more f fs j m kept = elim kept [
  | inl e ↦ inl e
  | inr (inl h) ↦ inr (inl (passed_more m j f fs h))
  | inr (inr h) ↦ inr (inr (shut_more m j f fs h))
]

newest_passed_cases : (s i j : ℕ) (fs : List Fact) → (newest_of (Passed s i ∷ fs) j ≡ newest_of fs j) ⊎ ((newest_of (Passed s i ∷ fs) j ≡ s) × (i ≡ j))
newest_passed_cases s i j fs = grind (arith, nat_tests)

newest_shut_cases : (s i j : ℕ) (fs : List Fact) → (newest_of (Shut s i ∷ fs) j ≡ newest_of fs j) ⊎ ((newest_of (Shut s i ∷ fs) j ≡ s) × (i ≡ j))
newest_shut_cases s i j fs = grind (arith, nat_tests)

itself : (s i j : ℕ) → i ≡ j → ((s == s) && (i == j)) ≡ true
itself s i j e = and_from _ _ (eq-eqb s s refl) (eq-eqb i j e)

pub newest_kept : (fs : List Fact) (j : ℕ) → IsKept fs j (newest_of fs j)
newest_kept [] j = inl refl
newest_kept (Passed s i ∷ fs) j = elim (newest_passed_cases s i j fs) [
  | inl e ↦ subst (IsKept (Passed s i ∷ fs) j) (sym e) (IsKept-more (Passed s i) fs j _ (newest_kept fs j))
  | inr e ↦ subst (IsKept (Passed s i ∷ fs) j) (sym e.0) (inr (inl (or_left' _ _ (itself s i j e.1))))
]
newest_kept (Shut s i ∷ fs) j = elim (newest_shut_cases s i j fs) [
  | inl e ↦ subst (IsKept (Shut s i ∷ fs) j) (sym e) (IsKept-more (Shut s i) fs j _ (newest_kept fs j))
  | inr e ↦ subst (IsKept (Shut s i ∷ fs) j) (sym e.0) (inr (inr (or_left' _ _ (itself s i j e.1))))
]
newest_kept (f ∷ fs) j = newest_kept fs j

pub delivered_cases : (s : ℕ) (f : Fact) (fs : List Fact) → was_delivered (f ∷ fs) s ≡ true → (f ≡ Delivered s) ⊎ (was_delivered fs s ≡ true)
delivered_cases s f fs h = sent_cases (Delivered s) f fs h

pub delivered_more : (s : ℕ) (f : Fact) (fs : List Fact) → was_delivered fs s ≡ true → was_delivered (f ∷ fs) s ≡ true
delivered_more s f fs h = sent_more (Delivered s) f fs h
