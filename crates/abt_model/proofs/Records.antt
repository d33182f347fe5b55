-- What is kept of a source, in its store and to its own knowledge, is never behind it.
use Rattle.std.proofs.Common.{◌≡◌, ◌≢◌, ℕ, ◌+◌, ◌≤◌, ◌<◌, ◌⊎◌, inl, inr, refl, ap, Bool, true, false, List, [], ◌∷◌, ◌∙◌, sym, subst, arith}
use Rattle.std.specs.Prelude.{◌==◌, ◌||◌, nat_lt, min, max, if◌then◌else◌}
use Rattle.std.proofs.lemmas.Bool.{eq-eqb, cond-true, cond-false, or_cases, ltb-true, ltb-false, false≢true}
use Rattle.abt_rate.specs.Rate.{IsRate, spacing_of}
use Rattle.abt_rate.specs.Limits.{number_max, spacing_max}
use Rattle.abt_keep.specs.Record.{KeptRecord}
use Rattle.abt_facts.specs.declared.fact.Fact.{Fact}
use Rattle.abt_facts.specs.declared.fact.Fact.TheVariants.{Started, Crashed, Stored, Asked, Heard, Emitted}
use Rattle.abt_facts.specs.Requests.{floor_of, ask_of}
use Rattle.abt_facts.specs.Keeping.{counted, need_by, writes_by}
use Rattle.abt_facts.specs.Source.{SourceState, Down, Idle, Asking, open_ask, state_of, rate_of, stored_of, kept_of, last_of, clock_of, gap_of, next_of, need_of, writes, written_for}
use Rattle.abt_facts.proofs.Keeps.{open_same}
use Rattle.abt_model.specs.Promises.{Covers}
use Rattle.abt_model.proofs.Spacings.{counted_bound, counted_some, counted_min}
use Rattle.abt_model.proofs.Lawful.{Route, MayFollow, IsLawful}
use Rattle.abt_model.proofs.Backed.{asking}

-- The kept number is at most 63 ahead of the last, the stored one is not behind it, and both spacings cover the source. The stored
-- spacing is below the kept one only where the next ask writes in any case.
pub record IsRecorded (fs : List Fact) : Type 0 where
  pub ahead : last_of fs ≤ (kept_of fs).number
  pub near : (kept_of fs).number ≤ last_of fs + 63
  pub behind : (kept_of fs).number ≤ (stored_of fs).number
  pub within : (stored_of fs).number ≤ number_max
  pub spaced : ((kept_of fs).spacing ≤ (stored_of fs).spacing) ⊎ ((kept_of fs).number ≤ last_of fs)
  pub kept : Covers fs (kept_of fs).spacing
  pub stored : Covers fs (stored_of fs).spacing
  pub most : (stored_of fs).spacing ≤ spacing_max
  pub due : next_of fs ≤ clock_of fs + gap_of fs

-- the facts that leave the source leave what covers it
covers_same : (f : Fact) (fs : List Fact) (w : ℕ) → ((s : ℕ) → ask_of (f ∷ fs) s ≡ ask_of fs s) → gap_of (f ∷ fs) ≡ gap_of fs →
    rate_of (f ∷ fs) ≡ rate_of fs → state_of (f ∷ fs) ≡ state_of fs → Covers fs w → Covers (f ∷ fs) w
covers_same f fs w asks gap rate state old =
    let waiting : open_ask (f ∷ fs) (state_of (f ∷ fs)) ≡ open_ask fs (state_of fs) = ap (open_ask (f ∷ fs)) state ∙ open_same f fs (state_of fs) asks in
    record {
      gap = subst (λ (n : ℕ). n ≤ w) (sym gap) old.gap;
      rate = subst (λ (r : ℕ). counted r ≤ w) (sym rate) old.rate;
      waiting = subst (λ (r : ℕ). counted r ≤ w) (sym waiting) old.waiting;
    }

-- what an ask writes covers the source, also when it asks
pub need_covers : (fs : List Fact) (ask w : ℕ) → need_of fs ask ≤ w → Covers fs w × (counted ask ≤ w)
need_covers fs ask w enough = (
  record { gap = omega (arith, enough); rate = omega (arith, enough); waiting = omega (arith, enough) },
  omega (arith, enough),
)

asked_covers : (fs : List Fact) (s floor ask mark w : ℕ) → floor ≡ min (rate_of fs) ask → Covers fs w → counted ask ≤ w → Covers (Asked s floor ask mark ∷ fs) w
asked_covers fs s floor ask mark w is old enough =
    let waiting : ask_of (Asked s floor ask mark ∷ fs) s ≡ ask = cond-true _ _ _ (eq-eqb s s refl) in
    record {
      gap = old.gap;
      rate = subst (λ (r : ℕ). counted r ≤ w) (sym is) (counted_min (rate_of fs) ask w old.rate enough);
      waiting = subst (λ (r : ℕ). counted r ≤ w) (sym waiting) enough;
    }

need_most : (fs : List Fact) (ask : ℕ) → IsRate ask → IsRecorded fs → need_of fs ask ≤ spacing_max
need_most fs ask rate old =
    omega (arith, old.stored.gap, old.stored.rate, old.stored.waiting, old.most, counted_bound ask rate)

or_false : (x y : Bool) → (x || y) ≡ false → (x ≡ false) × (y ≡ false)
or_false true y h = absurd (false≢true (sym h))
or_false false y h = (refl, h)

number_is : (a b : KeptRecord) → a ≡ b → a.number ≡ b.number
number_is a b is = ap (λ (r : KeptRecord). r.number) is

spacing_is : (a b : KeptRecord) → a ≡ b → a.spacing ≡ b.spacing
spacing_is a b is = ap (λ (r : KeptRecord). r.spacing) is

started : (l : Route) (t : ℕ) (kept : KeptRecord) (fs : List Fact) → MayFollow l fs (Started t kept) → IsRecorded fs → IsRecorded (Started t kept ∷ fs)
started l t kept fs may old =
    let number = number_is kept (stored_of fs) may.0 in
    let spacing = spacing_is kept (stored_of fs) may.0 in
    let within = old.within in
    let most = old.most in
    record {
      ahead = omega arith;
      near = omega arith;
      behind = omega arith;
      within = within;
      spaced = inl (omega arith);
      kept = record { gap = omega arith; rate = omega arith; waiting = omega arith };
      stored = record { gap = omega arith; rate = omega arith; waiting = omega arith };
      most = most;
      due = omega arith;
    }

wrote : (l : Route) (written : KeptRecord) (fs : List Fact) → MayFollow l fs (Stored written) → IsRecorded fs → IsRecorded (Stored written ∷ fs)
wrote l written fs may old =
    let ask = may.0 in
    let number : written.number ≡ min (last_of fs + 64) number_max = number_is written (written_for fs ask) may.1 in
    let spacing : written.spacing ≡ need_of fs ask = spacing_is written (written_for fs ask) may.1 in
    let most = need_most fs ask may.4 old in
    let room = may.3 in
    record {
      ahead = old.ahead;
      near = old.near;
      behind = omega (arith, number, old.near, old.behind, old.within, room);
      within = omega (arith, number);
      spaced = elim (or_cases (nat_lt (kept_of fs).number (last_of fs + 1)) (nat_lt (kept_of fs).spacing (need_of fs ask)) may.2) [
        | inl used ↦ (let low = ltb-true (kept_of fs).number (last_of fs + 1) used in inr (omega (arith, low)))
        | inr above ↦ (let low = ltb-true (kept_of fs).spacing (need_of fs ask) above in inl (omega (arith, low, spacing)))
      ];
      kept = covers_same (Stored written) fs (kept_of fs).spacing (λ s. refl) refl refl refl old.kept;
      stored = covers_same (Stored written) fs written.spacing (λ s. refl) refl refl refl (need_covers fs ask written.spacing (omega (arith, spacing))).0;
      most = omega (arith, spacing, most);
      due = old.due;
    }

-- an ask that doesn't write finds its number and its need kept
pub not_above : (kept : KeptRecord) (last need : ℕ) → writes_by kept last need ≡ false → (last + 1 ≤ kept.number) × (need ≤ kept.spacing)
not_above kept last need does =
    let both = or_false (nat_lt kept.number (last + 1)) (nat_lt kept.spacing need) does in
    (ltb-false kept.number (last + 1) both.0, ltb-false kept.spacing need both.1)

-- an ask that wrote, and one that found its number and its need kept
asked_by : (l : Route) (s floor ask mark : ℕ) (fs : List Fact) → MayFollow l fs (Asked s floor ask mark) → IsRecorded fs → (b : Bool) → writes fs ask ≡ b →
    IsRecorded (Asked s floor ask mark ∷ fs)
asked_by l s floor ask mark fs may old true does =
    let is = may.5 does in
    let number : (stored_of fs).number ≡ min (last_of fs + 64) number_max = number_is (stored_of fs) (written_for fs ask) is in
    let spacing : (stored_of fs).spacing ≡ need_of fs ask = spacing_is (stored_of fs) (written_for fs ask) is in
    let known : kept_of (Asked s floor ask mark ∷ fs) ≡ stored_of fs = cond-true _ _ _ does in
    let known_number = number_is (kept_of (Asked s floor ask mark ∷ fs)) (stored_of fs) known in
    let known_spacing = spacing_is (kept_of (Asked s floor ask mark ∷ fs)) (stored_of fs) known in
    let enough = need_covers fs ask (stored_of fs).spacing (omega (arith, spacing)) in
    let covers = asked_covers fs s floor ask mark (stored_of fs).spacing may.2 enough.0 enough.1 in
    let after = may.0 in
    let low = may.1 in
    record {
      ahead = omega (arith, known_number, low);
      near = omega (arith, known_number, number, after);
      behind = omega (arith, known_number);
      within = old.within;
      spaced = inl (omega (arith, known_spacing));
      kept = subst (λ (w : ℕ). Covers (Asked s floor ask mark ∷ fs) w) (sym known_spacing) covers;
      stored = covers;
      most = old.most;
      due = old.due;
    }
asked_by l s floor ask mark fs may old false does =
    let known : kept_of (Asked s floor ask mark ∷ fs) ≡ kept_of fs = cond-false _ _ _ does in
    let known_number = number_is (kept_of (Asked s floor ask mark ∷ fs)) (kept_of fs) known in
    let known_spacing = spacing_is (kept_of (Asked s floor ask mark ∷ fs)) (kept_of fs) known in
    let parts = not_above (kept_of fs) (last_of fs) (need_of fs ask) does in
    let enough = need_covers fs ask (kept_of fs).spacing parts.1 in
    let covers = asked_covers fs s floor ask mark (kept_of fs).spacing may.2 enough.0 enough.1 in
    let after = may.0 in
    let room = parts.0 in
    let spaced : (kept_of fs).spacing ≤ (stored_of fs).spacing = elim old.spaced [ inl le ↦ le | inr used ↦ absurd (omega (arith, used, room)) ] in
    let more = need_covers fs ask (stored_of fs).spacing (omega (arith, parts.1, spaced)) in
    record {
      ahead = omega (arith, known_number, room, after);
      near = omega (arith, known_number, old.near, after);
      behind = omega (arith, known_number, old.behind);
      within = old.within;
      spaced = inl (omega (arith, known_spacing, spaced));
      kept = subst (λ (w : ℕ). Covers (Asked s floor ask mark ∷ fs) w) (sym known_spacing) covers;
      stored = asked_covers fs s floor ask mark (stored_of fs).spacing may.2 more.0 more.1;
      most = old.most;
      due = old.due;
    }

-- a source that hears an answer gets the rate that it asked for, or stays at the floor
heard : (k : Route) (fs : List Fact) → IsLawful k fs → (s : ℕ) (granted : Bool) → state_of fs ≡ Asking s → (w : ℕ) → Covers fs w → Covers (Heard s granted ∷ fs) w
heard k fs lawful s true is w old = record {
  gap = old.gap;
  rate = subst (λ (st : SourceState). counted (open_ask fs st) ≤ w) is old.waiting;
  waiting = omega arith;
}
heard k fs lawful s false is w old = record {
  gap = old.gap;
  rate = subst (λ (r : ℕ). counted r ≤ w) (asking k fs lawful s is).1 old.rate;
  waiting = omega arith;
}

heard_recorded : (fs : List Fact) (s : ℕ) (granted : Bool) → IsRecorded fs → Covers (Heard s granted ∷ fs) (kept_of fs).spacing → Covers (Heard s granted ∷ fs) (stored_of fs).spacing →
    IsRecorded (Heard s granted ∷ fs)
heard_recorded fs s granted old kept stored = record {
  ahead = old.ahead;
  near = old.near;
  behind = old.behind;
  within = old.within;
  spaced = old.spaced;
  kept = kept;
  stored = stored;
  most = old.most;
  due = old.due;
}

emitted_covers : (fs : List Fact) (n t r w : ℕ) → r ≡ rate_of fs → r ≢ 0 → Covers fs w → Covers (Emitted n t r ∷ fs) w
emitted_covers fs n t r w is some old =
    let mine : counted r ≤ w = subst (λ (x : ℕ). counted x ≤ w) (sym is) old.rate in
    record {
      gap = subst (λ (x : ℕ). x ≤ w) (counted_some r some) mine;
      rate = old.rate;
      waiting = subst (λ (x : ℕ). counted x ≤ w) (sym (open_same (Emitted n t r) fs (state_of fs) (λ s. refl))) old.waiting;
    }

-- any other fact leaves the source
other_recorded : (f : Fact) (fs : List Fact) → IsRecorded fs → Covers (f ∷ fs) (kept_of fs).spacing → Covers (f ∷ fs) (stored_of fs).spacing →
    kept_of (f ∷ fs) ≡ kept_of fs → stored_of (f ∷ fs) ≡ stored_of fs → last_of (f ∷ fs) ≡ last_of fs → clock_of (f ∷ fs) ≡ clock_of fs →
    gap_of (f ∷ fs) ≡ gap_of fs → next_of (f ∷ fs) ≡ next_of fs → IsRecorded (f ∷ fs)
other_recorded f fs old kept stored k s l c g n =
    let kn = number_is (kept_of (f ∷ fs)) (kept_of fs) k in
    let ks = spacing_is (kept_of (f ∷ fs)) (kept_of fs) k in
    let sn = number_is (stored_of (f ∷ fs)) (stored_of fs) s in
    let ss = spacing_is (stored_of (f ∷ fs)) (stored_of fs) s in
    record {
      ahead = omega (arith, kn, l, old.ahead);
      near = omega (arith, kn, l, old.near);
      behind = omega (arith, kn, sn, old.behind);
      within = omega (arith, sn, old.within);
      spaced = elim old.spaced [ inl le ↦ inl (omega (arith, ks, ss, le)) | inr used ↦ inr (omega (arith, kn, l, used)) ];
      kept = subst (λ (w : ℕ). Covers (f ∷ fs) w) (sym ks) kept;
      stored = subst (λ (w : ℕ). Covers (f ∷ fs) w) (sym ss) stored;
      most = omega (arith, ss, old.most);
      due = omega (arith, c, g, n, old.due);
    }

pub recorded : (l : Route) (fs : List Fact) → IsLawful l fs → IsRecorded fs
recorded l [] lawful = record {
  ahead = omega arith;
  near = omega arith;
  behind = omega arith;
  within = omega arith;
  spaced = inl (omega arith);
  kept = record { gap = omega arith; rate = omega arith; waiting = omega arith };
  stored = record { gap = omega arith; rate = omega arith; waiting = omega arith };
  most = omega arith;
  due = omega arith;
}
recorded l (Started t kept ∷ fs) lawful = started l t kept fs lawful.0 (recorded l fs lawful.1)
recorded l (Crashed ∷ fs) lawful =
    let old = recorded l fs lawful.1 in
    other_recorded Crashed fs old (record { gap = old.kept.gap; rate = omega arith; waiting = omega arith })
    (record { gap = old.stored.gap; rate = omega arith; waiting = omega arith }) refl refl refl refl refl refl
recorded l (Stored written ∷ fs) lawful = wrote l written fs lawful.0 (recorded l fs lawful.1)
recorded l (Asked s floor ask mark ∷ fs) lawful = asked_by l s floor ask mark fs lawful.0 (recorded l fs lawful.1) (writes fs ask) refl
recorded l (Heard s true ∷ fs) lawful =
    let old = recorded l fs lawful.1 in
    heard_recorded fs s true old (heard l fs lawful.1 s true lawful.0.0 _ old.kept) (heard l fs lawful.1 s true lawful.0.0 _ old.stored)
recorded l (Heard s false ∷ fs) lawful =
    let old = recorded l fs lawful.1 in
    heard_recorded fs s false old (heard l fs lawful.1 s false lawful.0.0 _ old.kept) (heard l fs lawful.1 s false lawful.0.0 _ old.stored)
recorded l (Emitted n t r ∷ fs) lawful =
    let old = recorded l fs lawful.1 in
    record {
      ahead = old.ahead;
      near = old.near;
      behind = old.behind;
      within = old.within;
      spaced = old.spaced;
      kept = emitted_covers fs n t r (kept_of fs).spacing lawful.0.1 lawful.0.2 old.kept;
      stored = emitted_covers fs n t r (stored_of fs).spacing lawful.0.1 lawful.0.2 old.stored;
      most = old.most;
      due = omega arith;
    }
recorded l (f ∷ fs) lawful =
    let old = recorded l fs lawful.1 in
    other_recorded f fs old (covers_same f fs _ (λ s. refl) refl refl refl old.kept) (covers_same f fs _ (λ s. refl) refl refl refl old.stored) refl refl refl refl refl refl
