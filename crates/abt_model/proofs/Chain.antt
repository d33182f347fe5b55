-- What the facts of a lawful list say of one another.
use Rattle.std.proofs.Common.{◌≡◌, ℕ, zero, suc, ap, min, ◌+◌, ◌-◌, ◌≤◌, ◌⊎◌, inl, inr, refl, true, List, [], ◌∷◌, ◌∙◌, sym, subst, arith}
use Rattle.std.specs.Prelude.{◌==◌}
use Rattle.std.proofs.lemmas.Bool.{false≢true, or_cases, eqb-true, ne_eqb, cond-false}
use Rattle.std.proofs.lemmas.Bool.Decides.{nat_tests}
use Rattle.abt_keep.specs.Record.{KeptRecord}
use Rattle.abt_facts.specs.declared.fact.Fact.{Fact}
use Rattle.abt_facts.specs.declared.fact.Fact.TheVariants.{Started, Stored, Asked, Heard, Passed, Shut, Turned, Back}
use Rattle.abt_facts.specs.Requests.{was_asked, floor_of, ask_of}
use Rattle.abt_facts.specs.Source.{stored_of, last_of, yes_was_heard}
use Rattle.abt_facts.specs.Sent.{was_passed, was_shut, was_turned, was_back}
use Rattle.abt_facts.specs.Hop.{newest_of}
use Rattle.abt_rate.specs.Limits.{number_max}
use Rattle.abt_model.proofs.Lawful.{Route, IsAtHop, IsYesAtHop, MayFollow, IsLawful}
use Rattle.abt_model.proofs.Cases.{passed_cases, shut_cases, back_cases, turned_cases, yes_heard_cases, passed_more, shut_more, back_more, turned_more, asked_more, passed_newest, shut_newest, newest_kept}

-- the law under which the newest fact was added, where we know that fact
pub may_of : (k : Route) (fs : List Fact) (f g : Fact) → f ≡ g → MayFollow k fs f → MayFollow k fs g
may_of k fs f g e may = subst (MayFollow k fs) e may

pub IsAtHop-more : (f : Fact) (fs : List Fact) (s j : ℕ) → IsAtHop fs s j → IsAtHop (f ∷ fs) s j
IsAtHop-more f fs s j at = elim at [
  | inl h ↦ inl (h.0, asked_more s f fs h.1)
  | inr h ↦ inr (h.0, h.1, h.2, passed_more s h.0 f fs h.3)
]

pub IsYesAtHop-more : (k : Route) (f : Fact) (fs : List Fact) (s j : ℕ) → IsYesAtHop k.hops fs s j → IsYesAtHop k.hops (f ∷ fs) s j
IsYesAtHop-more k f fs s j at = elim at [
  | inl h ↦ inl (h.0, turned_more s f fs h.1)
  | inr h ↦ inr (back_more s (j + 1) f fs h)
]

-- a request passed where it came to
pub passed_at : (k : Route) (fs : List Fact) → IsLawful k fs → (s j : ℕ) → was_passed fs s j ≡ true → IsAtHop fs s j × (1 ≤ j) × (j ≤ k.hops)
passed_at k [] lawful s j h = absurd (false≢true h)
passed_at k (f ∷ fs) lawful s j h = elim (passed_cases s j f fs h) [
  | inl e ↦ (let may = may_of k fs f (Passed s j) e lawful.0 in (IsAtHop-more f fs s j may.0, may.1, may.2))
  | inr t ↦ (let old = passed_at k fs lawful.1 s j t in (IsAtHop-more f fs s j old.0, old.1, old.2))
]

-- where it passed a hop, it was asked, and passed each hop before
pub passed_before : (k : Route) (fs : List Fact) → IsLawful k fs → (s j : ℕ) → was_passed fs s (j + 1) ≡ true → (j ≡ 0) ⊎ (was_passed fs s j ≡ true)
passed_before k fs lawful s j h = elim (passed_at k fs lawful s (j + 1) h).0 [
  | inl at ↦ inl (omega arith)
  | inr at ↦ (let e : at.0 ≡ j = omega arith in inr (subst (λ i. was_passed fs s i ≡ true) e at.3))
]

pub passed_all : (k : Route) (fs : List Fact) → IsLawful k fs → (s j i n : ℕ) → was_passed fs s j ≡ true → 1 ≤ i → i + n ≡ j → was_passed fs s i ≡ true
passed_all k fs lawful s j i zero h low e = (let d : j ≡ i = omega arith in subst (λ l. was_passed fs s l ≡ true) d h)
passed_all k fs lawful s j i (suc n) h low e =
    let d : j ≡ (i + n) + 1 = omega arith in
    elim (passed_before k fs lawful s (i + n) (subst (λ l. was_passed fs s l ≡ true) d h)) [
      | inl z ↦ absurd (omega arith)
      | inr p ↦ passed_all k fs lawful s (i + n) i n p low refl
    ]

pub passed_asked : (k : Route) (fs : List Fact) → IsLawful k fs → (s j : ℕ) → was_passed fs s j ≡ true → was_asked fs s ≡ true
passed_asked k fs lawful s j h =
    let at = passed_at k fs lawful s j h in
    let first : was_passed fs s 1 ≡ true = passed_all k fs lawful s j 1 (j - 1) h (omega arith) (omega arith) in
    elim (passed_at k fs lawful s 1 first).0 [
      | inl at1 ↦ at1.1
      | inr at1 ↦ absurd (omega arith)
    ]

pub at_asked : (k : Route) (fs : List Fact) → IsLawful k fs → (s j : ℕ) → IsAtHop fs s j → was_asked fs s ≡ true
at_asked k fs lawful s j at = elim at [
  | inl h ↦ h.1
  | inr h ↦ passed_asked k fs lawful s h.0 h.3
]

-- a number that is shut somewhere came there
pub shut_at : (k : Route) (fs : List Fact) → IsLawful k fs → (s j : ℕ) → was_shut fs s j ≡ true → IsAtHop fs s j × (1 ≤ j) × (j ≤ k.hops)
shut_at k [] lawful s j h = absurd (false≢true h)
shut_at k (f ∷ fs) lawful s j h = elim (shut_cases s j f fs h) [
  | inl e ↦ (
      let may = may_of k fs f (Shut s j) e lawful.0 in
      elim may.2 [
        | inl first ↦ (IsAtHop-more f fs s j first.0, may.0, may.1)
        | inr (inl again) ↦ (IsAtHop-more f fs s j (shut_at k fs lawful.1 s j again).0, may.0, may.1)
        | inr (inr refused) ↦ (
            let after = (shut_at k fs lawful.1 s (j + 1) refused.0).0 in
            let there : was_passed fs s j ≡ true = elim after [
              | inl z ↦ absurd (omega arith)
              | inr at ↦ (let d : at.0 ≡ j = omega arith in subst (λ l. was_passed fs s l ≡ true) d at.3)
            ] in
            (IsAtHop-more f fs s j (passed_at k fs lawful.1 s j there).0, may.0, may.1))
      ])
  | inr t ↦ (let old = shut_at k fs lawful.1 s j t in (IsAtHop-more f fs s j old.0, old.1, old.2))
]

pub shut_next_passed : (k : Route) (fs : List Fact) → IsLawful k fs → (s j : ℕ) → 1 ≤ j → was_shut fs s (j + 1) ≡ true → was_passed fs s j ≡ true
shut_next_passed k fs lawful s j low h = elim (shut_at k fs lawful s (j + 1) h).0 [
  | inl z ↦ absurd (omega arith)
  | inr at ↦ (let d : at.0 ≡ j = omega arith in subst (λ l. was_passed fs s l ≡ true) d at.3)
]

-- what was turned passed the last hop, and what passed back was turned
pub turned_passed : (k : Route) (fs : List Fact) → IsLawful k fs → (s : ℕ) → was_turned fs s ≡ true → was_passed fs s k.hops ≡ true
turned_passed k [] lawful s h = absurd (false≢true h)
turned_passed k (f ∷ fs) lawful s h = elim (turned_cases s f fs h) [
  | inl e ↦ passed_more s k.hops f fs (may_of k fs f (Turned s) e lawful.0)
  | inr t ↦ passed_more s k.hops f fs (turned_passed k fs lawful.1 s t)
]

pub back_at : (k : Route) (fs : List Fact) → IsLawful k fs → (s j : ℕ) → was_back fs s j ≡ true → IsYesAtHop k.hops fs s j × (1 ≤ j) × (j ≤ k.hops)
back_at k [] lawful s j h = absurd (false≢true h)
back_at k (f ∷ fs) lawful s j h = elim (back_cases s j f fs h) [
  | inl e ↦ (let may = may_of k fs f (Back s j) e lawful.0 in (IsYesAtHop-more k f fs s j may.0, may.1, may.2))
  | inr t ↦ (let old = back_at k fs lawful.1 s j t in (IsYesAtHop-more k f fs s j old.0, old.1, old.2))
]

pub back_turned : (k : Route) (fs : List Fact) → IsLawful k fs → (s j n : ℕ) → k.hops ≤ j + n → was_back fs s j ≡ true → was_turned fs s ≡ true
back_turned k fs lawful s j zero e h = elim (back_at k fs lawful s j h).0 [
  | inl t ↦ t.1
  | inr more ↦ (let up = back_at k fs lawful s (j + 1) more in absurd (omega arith))
]
back_turned k fs lawful s j (suc n) e h = elim (back_at k fs lawful s j h).0 [
  | inl t ↦ t.1
  | inr more ↦ back_turned k fs lawful s (j + 1) n (omega arith) more
]

-- the one way in which a number that passed a hop is shut there: by a no from the next hop
pub shut_next : (k : Route) (fs : List Fact) → IsLawful k fs → (s j : ℕ) → was_passed fs s j ≡ true → was_shut fs s j ≡ true → was_shut fs s (j + 1) ≡ true
shut_next k [] lawful s j p h = absurd (false≢true h)
shut_next k (f ∷ fs) lawful s j p h =
    elim (passed_cases s j f fs p) [
      | inl e ↦ (
          let may = may_of k fs f (Passed s j) e lawful.0 in
          let old : was_shut fs s j ≡ true = elim (shut_cases s j f fs h) [
            | inl d ↦ (let bad : Passed s j ≡ Shut s j = sym e ∙ d in absurd (cc))
            | inr t ↦ t
          ] in
          elim may.3 [
            | inl above ↦ (let low = shut_newest s j fs old in absurd (omega arith))
            | inr equal ↦ absurd (false≢true (sym equal.1 ∙ old))
          ])
      | inr q ↦ elim (shut_cases s j f fs h) [
        | inl d ↦ (
            let may = may_of k fs f (Shut s j) d lawful.0 in
            elim may.2 [
              | inl first ↦ (let low = passed_newest s j fs q in absurd (omega arith))
              | inr (inl again) ↦ shut_more s (j + 1) f fs (shut_next k fs lawful.1 s j q again)
              | inr (inr refused) ↦ shut_more s (j + 1) f fs refused.0
            ])
        | inr t ↦ shut_more s (j + 1) f fs (shut_next k fs lawful.1 s j q t)
      ]
    ]

-- a number that passed the last hop is shut nowhere
pub passed_end_open : (k : Route) (fs : List Fact) → IsLawful k fs → (s j n : ℕ) → k.hops ≤ j + n → was_passed fs s k.hops ≡ true → was_shut fs s j ≡ true → ⊥
passed_end_open k fs lawful s j zero far p h =
    let at = shut_at k fs lawful s j h in
    let here : was_passed fs s j ≡ true = passed_all k fs lawful s k.hops j (k.hops - j) p at.1 (omega arith) in
    let after = shut_at k fs lawful s (j + 1) (shut_next k fs lawful s j here h) in
    omega arith
passed_end_open k fs lawful s j (suc n) far p h =
    let at = shut_at k fs lawful s j h in
    let here : was_passed fs s j ≡ true = passed_all k fs lawful s k.hops j (k.hops - j) p at.1 (omega arith) in
    passed_end_open k fs lawful s (j + 1) n (omega arith) p (shut_next k fs lawful s j here h)

-- no number has both a yes and a no
pub turned_open : (k : Route) (fs : List Fact) → IsLawful k fs → (s j : ℕ) → was_turned fs s ≡ true → was_shut fs s j ≡ true → ⊥
turned_open k fs lawful s j t h = passed_end_open k fs lawful s j k.hops (omega arith) (turned_passed k fs lawful s t) h

pub back_open : (k : Route) (fs : List Fact) → IsLawful k fs → (s j i : ℕ) → was_back fs s j ≡ true → was_shut fs s i ≡ true → ⊥
back_open k fs lawful s j i b h = turned_open k fs lawful s i (back_turned k fs lawful s j k.hops (omega arith) b) h

-- asked numbers are above 0 and up to the last, and that is in the store
pub asked_last : (k : Route) (fs : List Fact) → IsLawful k fs → (last_of fs ≤ (stored_of fs).number) × ((s : ℕ) → was_asked fs s ≡ true → (1 ≤ s) × (s ≤ last_of fs))
asked_last k [] lawful = (omega arith, λ s h. absurd (false≢true h))
asked_last k (Started t kept ∷ fs) lawful =
    let old = asked_last k fs lawful.1 in
    let same : kept.number ≡ (stored_of fs).number = ap (λ (r : KeptRecord). r.number) lawful.0.0 in
    (omega arith, λ s h. (let o = old.1 s h in (o.0, omega arith)))
asked_last k (Stored kept ∷ fs) lawful =
    let old = asked_last k fs lawful.1 in
    let most = lawful.0.3 in
    let is : kept.number ≡ min (last_of fs + 64) number_max = ap (λ (r : KeptRecord). r.number) lawful.0.1 in
    (omega arith, old.1)
asked_last k (Asked t floor ask mark ∷ fs) lawful =
    let old = asked_last k fs lawful.1 in
    let may = lawful.0 in (
      omega arith,
      λ s h. elim (or_cases (t == s) (was_asked fs s) h) [
        | inl e ↦ (let d : t ≡ s = eqb-true t s e in (omega arith, omega arith))
        | inr o ↦ (let low = old.1 s o in (low.0, omega arith))
      ],
    )
asked_last k (f ∷ fs) lawful = asked_last k fs lawful.1

-- a new request leaves what was asked before
pub floor_more : (k : Route) (f : Fact) (fs : List Fact) → MayFollow k fs f → (s : ℕ) → s ≤ last_of fs → floor_of (f ∷ fs) s ≡ floor_of fs s
floor_more k (Asked t floor ask mark) fs may s low = cond-false _ _ _ (ne_eqb t s (λ e. omega arith))
floor_more k other fs may s low = refl

pub ask_more : (k : Route) (f : Fact) (fs : List Fact) → MayFollow k fs f → (s : ℕ) → s ≤ last_of fs → ask_of (f ∷ fs) s ≡ ask_of fs s
ask_more k (Asked t floor ask mark) fs may s low = cond-false _ _ _ (ne_eqb t s (λ e. omega arith))
ask_more k other fs may s low = refl

-- nothing was asked under 0
pub ask_zero : (k : Route) (fs : List Fact) → IsLawful k fs → ask_of fs 0 ≡ 0
ask_zero k [] lawful = refl
ask_zero k (f ∷ fs) lawful = ask_more k f fs lawful.0 0 (omega arith) ∙ ask_zero k fs lawful.1

-- a floor is at most the rate that was asked
pub floor_low : (k : Route) (fs : List Fact) → IsLawful k fs → (s : ℕ) → floor_of fs s ≤ ask_of fs s
floor_low k [] lawful s = omega arith
floor_low k (Asked t floor ask mark ∷ fs) lawful s =
    let may = lawful.0 in
    let low : floor ≤ ask = omega arith in
    let old = floor_low k fs lawful.1 s in
    grind (arith, nat_tests)
floor_low k (f ∷ fs) lawful s = floor_low k fs lawful.1 s

-- a yes that was heard was sent, and its number was asked
pub heard_back : (k : Route) (fs : List Fact) → IsLawful k fs → (s : ℕ) → yes_was_heard fs s ≡ true → was_back fs s 1 ≡ true
heard_back k [] lawful s h = absurd (false≢true h)
heard_back k (f ∷ fs) lawful s h = elim (yes_heard_cases s f fs h) [
  | inl e ↦ back_more s 1 f fs (may_of k fs f (Heard s true) e lawful.0).1
  | inr t ↦ back_more s 1 f fs (heard_back k fs lawful.1 s t)
]

-- when a yes was heard each hop has seen that number pass
pub heard_passed : (k : Route) (fs : List Fact) → IsLawful k fs → (s j : ℕ) → yes_was_heard fs s ≡ true → 1 ≤ j → j ≤ k.hops → was_passed fs s j ≡ true
heard_passed k fs lawful s j h low high =
    let b = heard_back k fs lawful s h in
    let t = back_turned k fs lawful s 1 k.hops (omega arith) b in
    passed_all k fs lawful s k.hops j (k.hops - j) (turned_passed k fs lawful s t) low (omega arith)

pub heard_newest : (k : Route) (fs : List Fact) → IsLawful k fs → (s j : ℕ) → yes_was_heard fs s ≡ true → 1 ≤ j → j ≤ k.hops → s ≤ newest_of fs j
heard_newest k fs lawful s j h low high = passed_newest s j fs (heard_passed k fs lawful s j h low high)

pub heard_open : (k : Route) (fs : List Fact) → IsLawful k fs → (s j : ℕ) → yes_was_heard fs s ≡ true → was_shut fs s j ≡ true → ⊥
heard_open k fs lawful s j h shut_there = back_open k fs lawful s 1 j (heard_back k fs lawful s h) shut_there

-- the newest number of a hop was asked
pub newest_asked : (k : Route) (fs : List Fact) → IsLawful k fs → (j : ℕ) → (newest_of fs j ≡ 0) ⊎ (was_asked fs (newest_of fs j) ≡ true)
newest_asked k fs lawful j = elim (newest_kept fs j) [
  | inl e ↦ inl e
  | inr (inl p) ↦ inr (passed_asked k fs lawful (newest_of fs j) j p)
  | inr (inr h) ↦ inr (at_asked k fs lawful (newest_of fs j) j (shut_at k fs lawful (newest_of fs j) j h).0)
]
