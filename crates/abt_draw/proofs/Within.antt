-- Texts that grow, and what they hold.
use Rattle.std.proofs.Common.{◌≡◌, ◌∙◌, ◌++◌, ℕ, List, [], ap, sym, append_assoc, append-nil}
use Rattle.std.specs.Prelude.{Result, Ok, Err, is_ok, OnOk, if◌then◌else◌}
use Rattle.std.proofs.lemmas.Result.{on_ok_weaker}
use Rattle.abt_draw.specs.Elements.{line_text}
use Rattle.abt_draw.specs.Within.{Holds, Grows}
use Rattle.abt_draw.specs.declared.point.Point.{Point}

pub grows_by : (old new more : List ℕ) → new ≡ old ++ more → Grows old new
grows_by old new more is = record { more = more; is = is }

pub grows_not : (text : List ℕ) → Grows text text
grows_not text = record { more = []; is = sym (append-nil text) }

pub grows_on : (a b c : List ℕ) → Grows a b → Grows b c → Grows a c
grows_on a b c p q = record { more = p.more ++ q.more; is = rw (q.is, p.is) (append_assoc a p.more q.more) }

-- what was added is held
pub holds_added : (old new part : List ℕ) → new ≡ old ++ part → Holds new part
holds_added old new part is = record { before = old; behind = []; is = is ∙ ap (λ p. old ++ p) (sym (append-nil part)) }

-- what a text holds it holds when it has grown
pub holds_still : (old new part : List ℕ) → Grows old new → Holds old part → Holds new part
holds_still old new part grows held = record {
  before = held.before;
  behind = held.behind ++ grows.more;
  is = rw (grows.is, held.is) (append_assoc held.before (part ++ held.behind) grows.more ∙ ap (λ t. held.before ++ t) (append_assoc part held.behind grows.more));
}

-- what a part holds is held by the whole
pub holds_within : (text part small : List ℕ) → Holds text part → Holds part small → Holds text small
holds_within text part small outer inner = record {
  before = outer.before ++ inner.before;
  behind = inner.behind ++ outer.behind;
  is = rw (outer.is, inner.is) (ap (λ t. outer.before ++ t) (append_assoc inner.before (small ++ inner.behind) outer.behind ∙ ap (λ t. inner.before ++ t) (append_assoc small inner.behind outer.behind))
      ∙ sym (append_assoc outer.before inner.before (small ++ (inner.behind ++ outer.behind))));
}

pub grows_last : {E : Type 0} (r : Result (Unit {0}) E) (a b c : List ℕ) → Grows a b → OnOk r (Grows b c) → OnOk r (Grows a c)
grows_last r a b c p q = on_ok_weaker r (grows_on a b c p) q

pub grows_by_last : {E : Type 0} (r : Result (Unit {0}) E) (a b c more : List ℕ) → Grows a b → OnOk r (c ≡ b ++ more) → OnOk r (Grows a c)
grows_by_last r a b c more p q = on_ok_weaker r (λ is. grows_on a b c p (grows_by b c more is)) q

pub grows_first : {E : Type 0} (r : Result (Unit {0}) E) (a b more : List ℕ) → OnOk r (b ≡ a ++ more) → OnOk r (Grows a b)
grows_first r a b more q = on_ok_weaker r (grows_by a b more) q

-- a text to which another one was added
pub grows_pushed : {T E : Type 0} (r : Result T E) (old new said : List ℕ) → new ≡ (if is_ok r then old ++ said else old) → OnOk r (Grows old new)
grows_pushed (Ok value) old new said is = grows_by old new said is
grows_pushed (Err error) old new said is = tt

pub ruleset growing = (grows_by, grows_not, grows_on, holds_added, holds_still, grows_last, grows_by_last, grows_first)

-- a line that was added is held when the text has grown
pub holds_line : (class its : List ℕ) (p q from to : Point) (t0 t1 t2 : List ℕ) → class ≡ its → p ≡ from → q ≡ to
    → t1 ≡ t0 ++ line_text class p q → Grows t1 t2 → Holds t2 (line_text its from to)
holds_line class its p q from to t0 t1 t2 class_is p_is q_is added grows =
    holds_still t1 t2 _ grows (holds_added t0 t1 _ (rw (class_is, p_is, q_is) at added))
