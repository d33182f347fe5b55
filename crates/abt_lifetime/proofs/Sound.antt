-- What a store holds is never behind its source.
use Rattle.std.proofs.Common.{◌≡◌, ◌≢◌, ℕ, ◌+◌, ◌≤◌, ◌⊎◌, inl, inr, refl, ap, min, Bool, true, false, sym, subst, arith}
use Rattle.std.specs.Prelude.{◌||◌, nat_lt, if◌then◌else◌, Option, None, Some}
use Rattle.std.proofs.lemmas.Bool.{false≢true, cond-true, cond-false, ne_eqb, or_cases, ltb-true, ltb-false}
use Rattle.abt_rate.specs.Limits.{number_max}
use Rattle.abt_rate.specs.Rate.{spacing_of}
use Rattle.abt_cell.specs.Message.{Terms}
use Rattle.abt_facts.specs.Keeping.{counted}
use Rattle.abt_keep.specs.Record.{KeptRecord}
use Rattle.abt_source.specs.SourceView.{SourceView}
use Rattle.abt_source.specs.Calls.{asked_in, started_source, crashed_source, need_for, has_to_write, record_to_write, kept_after, next_request, asking_source}
use Rattle.abt_lifetime.specs.Sound.{IsAhead}
use Rattle.abt_lifetime.specs.Numbers.{CoversSource}

-- one that just started knows what is held
pub started_ahead : (s : SourceView) (held : KeptRecord) (now : ℕ) → held.number ≤ number_max → IsAhead (started_source s held now) held
started_ahead s held now within = record {
  within = within;
  ahead = omega arith;
  near = omega arith;
  behind = omega arith;
  spaced = inl (omega arith);
  known = record { gap = omega arith; rate = omega arith; waiting = omega arith };
  covers = record { gap = omega arith; rate = omega arith; waiting = omega arith };
}

-- a spacing that is enough for an ask covers the source, and the asked rate too
need_covers : (s : SourceView) (ask w : ℕ) → need_for s ask ≤ w → CoversSource s w × (counted ask ≤ w)
need_covers s ask w enough = (
  record { gap = omega (arith, enough); rate = omega (arith, enough); waiting = omega (arith, enough) },
  omega (arith, enough),
)

counted_min : (a b w : ℕ) → counted a ≤ w → counted b ≤ w → counted (min a b) ≤ w
counted_min a b w one two = elim (least a b) [
  | inl e ↦ subst (λ (r : ℕ). counted r ≤ w) (sym e) one
  | inr e ↦ subst (λ (r : ℕ). counted r ≤ w) (sym e) two
]
  where
    least : (x y : ℕ) → (min x y ≡ x) ⊎ (min x y ≡ y)
    least x y = grind arith

asking_covers : (s : SourceView) (ask w : ℕ) → CoversSource s w → counted ask ≤ w → CoversSource (asking_source s (next_request s ask)) w
asking_covers s ask w old enough = record { gap = old.gap; rate = counted_min s.rate ask w old.rate enough; waiting = enough }

or_false : (x y : Bool) → (x || y) ≡ false → (x ≡ false) × (y ≡ false)
or_false true y h = absurd (false≢true (sym h))
or_false false y h = (refl, h)

-- an ask that doesn't write finds its number and its need known to be kept
kept_enough : (s : SourceView) (ask : ℕ) → has_to_write s ask ≡ false → (s.last + 1 ≤ s.kept.number) × (need_for s ask ≤ s.kept.spacing)
kept_enough s ask does =
    let both = or_false (nat_lt s.kept.number (s.last + 1)) (nat_lt s.kept.spacing (need_for s ask)) does in
    (ltb-false s.kept.number (s.last + 1) both.0, ltb-false s.kept.spacing (need_for s ask) both.1)

pub asked_ahead : (s : SourceView) (held : KeptRecord) (ask : ℕ) → has_to_write s ask ≡ false → IsAhead s held → IsAhead (asking_source s (next_request s ask)) held
asked_ahead s held ask does old =
    let known : kept_after s ask ≡ s.kept = cond-false _ _ _ does in
    let known_number : (kept_after s ask).number ≡ s.kept.number = ap (λ (r : KeptRecord). r.number) known in
    let known_spacing : (kept_after s ask).spacing ≡ s.kept.spacing = ap (λ (r : KeptRecord). r.spacing) known in
    let enough = kept_enough s ask does in
    let room = enough.0 in
    let near = old.near in
    let behind = old.behind in
    let spaced : s.kept.spacing ≤ held.spacing = elim old.spaced [ inl le ↦ le | inr used ↦ absurd (omega arith) ] in
    let by_known = need_covers s ask s.kept.spacing enough.1 in
    let by_held = need_covers s ask held.spacing (omega (arith, enough.1, spaced)) in
    record {
      within = old.within;
      ahead = omega arith;
      near = omega arith;
      behind = omega arith;
      spaced = inl (omega (arith, known_spacing, spaced));
      known = subst (λ (w : ℕ). CoversSource (asking_source s (next_request s ask)) w) (sym known_spacing) (asking_covers s ask s.kept.spacing by_known.0 by_known.1);
      covers = asking_covers s ask held.spacing by_held.0 by_held.1;
    }

-- an ask that writes, and whose request goes out
pub written_ahead : (s : SourceView) (held : KeptRecord) (ask : ℕ) → has_to_write s ask ≡ true → s.last + 1 ≤ number_max → IsAhead s held → IsAhead (asking_source s (next_request s ask)) (record_to_write s ask)
written_ahead s held ask does room old =
    let known : kept_after s ask ≡ record_to_write s ask = cond-true _ _ _ does in
    let known_number : (kept_after s ask).number ≡ min (s.last + 64) number_max = ap (λ (r : KeptRecord). r.number) known in
    let known_spacing : (kept_after s ask).spacing ≡ need_for s ask = ap (λ (r : KeptRecord). r.spacing) known in
    let by_need = need_covers s ask (need_for s ask) (omega arith) in
    let covers = asking_covers s ask (need_for s ask) by_need.0 by_need.1 in
    record {
      within = omega arith;
      ahead = omega arith;
      near = omega arith;
      behind = omega arith;
      spaced = inl (omega (arith, known_spacing));
      known = subst (λ (w : ℕ). CoversSource (asking_source s (next_request s ask)) w) (sym known_spacing) covers;
      covers = covers;
    }

-- an ask that writes, and whose write was stored and failed
pub failed_ahead : (s : SourceView) (held : KeptRecord) (ask : ℕ) → has_to_write s ask ≡ true → s.last + 1 ≤ number_max → IsAhead s held → IsAhead s (record_to_write s ask)
failed_ahead s held ask does room old =
    let near = old.near in
    let behind = old.behind in
    let within = old.within in
    record {
      within = omega arith;
      ahead = old.ahead;
      near = old.near;
      behind = omega arith;
      spaced = elim (or_cases (nat_lt s.kept.number (s.last + 1)) (nat_lt s.kept.spacing (need_for s ask)) does) [
        | inl used ↦ (let low = ltb-true s.kept.number (s.last + 1) used in inr (omega arith))
        | inr above ↦ (let low = ltb-true s.kept.spacing (need_for s ask) above in inl (omega (arith, low)))
      ];
      known = old.known;
      covers = (need_covers s ask (need_for s ask) (omega arith)).0;
    }

-- an answer that is heard gives the rate that was waited for, or leaves the floor
heard_covers : (s : SourceView) (request : Terms) (w : ℕ) → s.newest ≡ Some request → CoversSource s w → (granted : Bool) →
    CoversSource (record s { rate = if granted then request.ask else s.rate; newest = None }) w
heard_covers s request w is old true = record {
  gap = old.gap;
  rate = subst (λ (o : Option Terms). counted (asked_in o) ≤ w) is old.waiting;
  waiting = omega arith;
}
heard_covers s request w is old false = record { gap = old.gap; rate = old.rate; waiting = omega arith }

pub raised_ahead : (s : SourceView) (held : KeptRecord) (request : Terms) → s.newest ≡ Some request → IsAhead s held → IsAhead (record s { rate = request.ask; newest = None }) held
raised_ahead s held request is old = record {
  within = old.within;
  ahead = old.ahead;
  near = old.near;
  behind = old.behind;
  spaced = old.spaced;
  known = heard_covers s request s.kept.spacing is old.known true;
  covers = heard_covers s request held.spacing is old.covers true;
}

pub refused_ahead : (s : SourceView) (held : KeptRecord) → IsAhead s held → IsAhead (record s { newest = None }) held
refused_ahead s held old = record {
  within = old.within;
  ahead = old.ahead;
  near = old.near;
  behind = old.behind;
  spaced = old.spaced;
  known = record { gap = old.known.gap; rate = old.known.rate; waiting = omega arith };
  covers = record { gap = old.covers.gap; rate = old.covers.rate; waiting = omega arith };
}

-- a cell leaves at a rate that isn't zero, and its gap is running then
emitted_covers : (s : SourceView) (now next w : ℕ) → s.rate ≢ 0 → CoversSource s w → CoversSource (record s { gap = spacing_of s.rate; next = next; emitted = Some now }) w
emitted_covers s now next w some old =
    let is : counted s.rate ≡ spacing_of s.rate = cond-false _ _ _ (ne_eqb s.rate 0 some) in
    record { gap = subst (λ (x : ℕ). x ≤ w) is old.rate; rate = old.rate; waiting = old.waiting }

pub emitted_ahead : (s : SourceView) (held : KeptRecord) (now next : ℕ) → s.rate ≢ 0 → IsAhead s held → IsAhead (record s { gap = spacing_of s.rate; next = next; emitted = Some now }) held
emitted_ahead s held now next some old = record {
  within = old.within;
  ahead = old.ahead;
  near = old.near;
  behind = old.behind;
  spaced = old.spaced;
  known = emitted_covers s now next s.kept.spacing some old.known;
  covers = emitted_covers s now next held.spacing some old.covers;
}

-- a crash leaves the gap that is running, and no rate
pub crashed_covers : (s : SourceView) (w : ℕ) → CoversSource s w → CoversSource (crashed_source s) w
crashed_covers s w old = record { gap = old.gap; rate = omega arith; waiting = omega arith }
