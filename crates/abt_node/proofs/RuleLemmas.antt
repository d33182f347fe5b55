-- The decisions that are computed are those that the rule says, and no others.
use Rattle.std.proofs.Common.{◌≡◌, ◌≢◌, ℕ, ◌+◌, ◌<◌, ◌≤◌, ◌⊎◌, inl, inr, Bool, true, false, cond, not, ◌&&◌, ◌||◌, ◌==◌, nat_lt, nat_le, refl, sym, ap, ◌∙◌, arith}
use Rattle.std.proofs.lemmas.Bool.{eq-eqb, eqb-true, eqb-false, leb-true, leb-false, le-leb, lt-leb, ltb-true, ltb-false, lt-ltb, le-ltb}
use Rattle.abt_cell.specs.Message.{Terms, Reply}
use Rattle.abt_node.specs.declared.reply.Onward.{Onward}
use Rattle.abt_node.specs.declared.reply.Onward.TheVariants as onward
use Rattle.abt_node.specs.declared.reply.Back.{Back}
use Rattle.abt_node.specs.declared.reply.Back.TheVariants as back
use Rattle.abt_node.specs.declared.reply.DropCause.TheVariants.{UnknownVc, Stale, Conflict, FloorAbove}
use Rattle.abt_node.specs.declared.reply.DropCause.{DropCause}
use Rattle.abt_node.specs.Reservation.{Reservation, held_by, is_of, no_to, pass_or_refuse, decided_as, decision_of, answer_of}
use Rattle.abt_node.specs.Rule.{IsRepeat, IsCovered, IsDecision, IsAnswered}

pub both : (s t : Bool) → (s && t) ≡ true → (s ≡ true) × (t ≡ true)
both true t e = (refl, e)
both false t e = let bad : false ≡ true = e in cc

pub repeat_from : (r : Reservation) (q : Terms) → q.seq ≡ r.newest → is_of r q ≡ true → IsRepeat r q
repeat_from r q same is =
    let parts = both (q.floor == r.floor) (q.ask == r.ask) is in
    record { number = same; floor = eqb-true q.floor r.floor parts.0; ask = eqb-true q.ask r.ask parts.1 }

is_of-repeat : (r : Reservation) (q : Terms) → IsRepeat r q → is_of r q ≡ true
is_of-repeat r q repeat = λ i. eq-eqb q.floor r.floor repeat.floor i && eq-eqb q.ask r.ask repeat.ask i

-- The line of a request by its tests, from the last to the first.
abbrev pub newest_line : Reservation → Terms → Bool → Onward × Reservation
newest_line r q b = cond b (pass_or_refuse r.is_open q, r) (onward.Drop Conflict, r)

abbrev pub newer_line : (capacity others : ℕ) → Reservation → Terms → Bool → Onward × Reservation
newer_line capacity others r q b =
    cond b (onward.Drop FloorAbove, r) (pass_or_refuse (nat_le (others + q.ask) capacity) q, decided_as (nat_le (others + q.ask) capacity) q)

abbrev pub line_from_newest : (capacity others : ℕ) → Reservation → Terms → Bool → Onward × Reservation
line_from_newest capacity others r q b = cond b (newest_line r q (is_of r q)) (newer_line capacity others r q (nat_lt (held_by r) q.floor))

abbrev pub line_of : (capacity others : ℕ) → Reservation → Terms → Bool → Onward × Reservation
line_of capacity others r q b = cond b (onward.Drop Stale, r) (line_from_newest capacity others r q (q.seq == r.newest))

-- a request that was decided before
repeated : (capacity others : ℕ) (r : Reservation) (q : Terms) (b : Bool) → r.is_open ≡ b → IsRepeat r q → IsDecision capacity others r q (pass_or_refuse b q)
repeated capacity others r q true is repeat = inl (repeat, is)
repeated capacity others r q false is repeat = (refl, inl (repeat, is))

-- a newer request that is covered
decided : (capacity others : ℕ) (r : Reservation) (q : Terms) (b : Bool) → nat_le (others + q.ask) capacity ≡ b → IsCovered r q → IsDecision capacity others r q (pass_or_refuse b q)
decided capacity others r q true is covered = inr (covered, leb-true (others + q.ask) capacity is)
decided capacity others r q false is covered = (refl, inr (covered, leb-false (others + q.ask) capacity is))

of_newest : (capacity others : ℕ) (r : Reservation) (q : Terms) (b : Bool) → is_of r q ≡ b → q.seq ≡ r.newest
    → IsDecision capacity others r q (newest_line r q b).0
of_newest capacity others r q true is same = repeated capacity others r q r.is_open refl (repeat_from r q same is)
of_newest capacity others r q false is same = (same, λ repeat. let bad : true ≡ false = sym (is_of-repeat r q repeat) ∙ is in cc)

of_newer : (capacity others : ℕ) (r : Reservation) (q : Terms) (b : Bool) → nat_lt (held_by r) q.floor ≡ b → r.newest < q.seq
    → IsDecision capacity others r q (newer_line capacity others r q b).0
of_newer capacity others r q true is newer = (newer, ltb-true (held_by r) q.floor is)
of_newer capacity others r q false is newer =
    decided capacity others r q (nat_le (others + q.ask) capacity) refl (record { newer = newer; floor = ltb-false (held_by r) q.floor is })

not_below : (capacity others : ℕ) (r : Reservation) (q : Terms) (b : Bool) → (q.seq == r.newest) ≡ b → r.newest ≤ q.seq
    → IsDecision capacity others r q (line_from_newest capacity others r q b).0
not_below capacity others r q true is least = of_newest capacity others r q (is_of r q) refl (eqb-true q.seq r.newest is)
not_below capacity others r q false is least =
    let differs : q.seq ≢ r.newest = eqb-false q.seq r.newest is in
    of_newer capacity others r q (nat_lt (held_by r) q.floor) refl (omega (arith, differs))

any_number : (capacity others : ℕ) (r : Reservation) (q : Terms) (b : Bool) → nat_lt q.seq r.newest ≡ b
    → IsDecision capacity others r q (line_of capacity others r q b).0
any_number capacity others r q true is = ltb-true q.seq r.newest is
any_number capacity others r q false is = not_below capacity others r q (q.seq == r.newest) refl (ltb-false q.seq r.newest is)

-- what is computed for a request is its decision
pub decision_of-IsDecision : (capacity others : ℕ) (r : Reservation) (q : Terms) → IsDecision capacity others r q (decision_of capacity others r q).0
decision_of-IsDecision capacity others r q = any_number capacity others r q (nat_lt q.seq r.newest) refl

clash : (b : Bool) → b ≡ true → b ≡ false → ⊥
clash b is isn't = let bad : true ≡ false = sym is ∙ isn't in cc

pass_only : (capacity others : ℕ) (r : Reservation) (q : Terms) (y : Onward) → IsDecision capacity others r q onward.Pass → IsDecision capacity others r q y → onward.Pass ≡ y
pass_only capacity others r q onward.Pass a b = refl
pass_only capacity others r q (onward.Refuse n) (inl a) (e, inl b) = absurd (clash r.is_open a.1 b.1)
pass_only capacity others r q (onward.Refuse n) (inl a) (e, inr b) = absurd (omega (arith, a.0.number, b.0.newer))
pass_only capacity others r q (onward.Refuse n) (inr a) (e, inl b) = absurd (omega (arith, a.0.newer, b.0.number))
pass_only capacity others r q (onward.Refuse n) (inr a) (e, inr b) = absurd (omega (arith, a.1, b.1))
pass_only capacity others r q (onward.Drop UnknownVc) a b = absurd b
pass_only capacity others r q (onward.Drop Stale) (inl a) b = absurd (omega (arith, a.0.number, b))
pass_only capacity others r q (onward.Drop Stale) (inr a) b = absurd (omega (arith, a.0.newer, b))
pass_only capacity others r q (onward.Drop Conflict) (inl a) b = absurd (b.1 a.0)
pass_only capacity others r q (onward.Drop Conflict) (inr a) b = absurd (omega (arith, a.0.newer, b.0))
pass_only capacity others r q (onward.Drop FloorAbove) (inl a) b = absurd (omega (arith, a.0.number, b.0))
pass_only capacity others r q (onward.Drop FloorAbove) (inr a) b = absurd (omega (arith, a.0.floor, b.1))

refuse_only : (capacity others : ℕ) (r : Reservation) (q : Terms) (m : Reply) (y : Onward) → IsDecision capacity others r q (onward.Refuse m) → IsDecision capacity others r q y → onward.Refuse m ≡ y
refuse_only capacity others r q m onward.Pass a b = sym (pass_only capacity others r q (onward.Refuse m) b a)
refuse_only capacity others r q m (onward.Refuse n) a b = ap onward.Refuse (a.0 ∙ sym b.0)
refuse_only capacity others r q m (onward.Drop UnknownVc) a b = absurd b
refuse_only capacity others r q m (onward.Drop Stale) (e, inl a) b = absurd (omega (arith, a.0.number, b))
refuse_only capacity others r q m (onward.Drop Stale) (e, inr a) b = absurd (omega (arith, a.0.newer, b))
refuse_only capacity others r q m (onward.Drop Conflict) (e, inl a) b = absurd (b.1 a.0)
refuse_only capacity others r q m (onward.Drop Conflict) (e, inr a) b = absurd (omega (arith, a.0.newer, b.0))
refuse_only capacity others r q m (onward.Drop FloorAbove) (e, inl a) b = absurd (omega (arith, a.0.number, b.0))
refuse_only capacity others r q m (onward.Drop FloorAbove) (e, inr a) b = absurd (omega (arith, a.0.floor, b.1))

drop_only : (capacity others : ℕ) (r : Reservation) (q : Terms) (d : DropCause) (y : Onward) → IsDecision capacity others r q (onward.Drop d) → IsDecision capacity others r q y → onward.Drop d ≡ y
drop_only capacity others r q d onward.Pass a b = sym (pass_only capacity others r q (onward.Drop d) b a)
drop_only capacity others r q d (onward.Refuse n) a b = sym (refuse_only capacity others r q n (onward.Drop d) b a)
drop_only capacity others r q UnknownVc (onward.Drop d) a b = absurd a
drop_only capacity others r q Stale (onward.Drop UnknownVc) a b = absurd b
drop_only capacity others r q Stale (onward.Drop Stale) a b = refl
drop_only capacity others r q Stale (onward.Drop Conflict) a b = absurd (omega (arith, a, b.0))
drop_only capacity others r q Stale (onward.Drop FloorAbove) a b = absurd (omega (arith, a, b.0))
drop_only capacity others r q Conflict (onward.Drop UnknownVc) a b = absurd b
drop_only capacity others r q Conflict (onward.Drop Stale) a b = absurd (omega (arith, a.0, b))
drop_only capacity others r q Conflict (onward.Drop Conflict) a b = refl
drop_only capacity others r q Conflict (onward.Drop FloorAbove) a b = absurd (omega (arith, a.0, b.0))
drop_only capacity others r q FloorAbove (onward.Drop UnknownVc) a b = absurd b
drop_only capacity others r q FloorAbove (onward.Drop Stale) a b = absurd (omega (arith, a.0, b))
drop_only capacity others r q FloorAbove (onward.Drop Conflict) a b = absurd (omega (arith, a.0, b.0))
drop_only capacity others r q FloorAbove (onward.Drop FloorAbove) a b = refl

-- a request has one decision
pub only_decision : (capacity others : ℕ) (r : Reservation) (q : Terms) (x y : Onward) → IsDecision capacity others r q x → IsDecision capacity others r q y → x ≡ y
only_decision capacity others r q onward.Pass y a b = pass_only capacity others r q y a b
only_decision capacity others r q (onward.Refuse m) y a b = refuse_only capacity others r q m y a b
only_decision capacity others r q (onward.Drop d) y a b = drop_only capacity others r q d y a b

-- An answer

-- whether it passes, from the newest number on
abbrev pub is_passed : Reservation → Reply → Bool
is_passed r a = (a.terms.seq == r.newest) && is_of r a.terms && (r.is_open || not a.granted)

-- The line of an answer by its tests, from the last to the first.
abbrev pub tested_line : Reservation → Reply → Bool → Back × Reservation
tested_line r a b = cond b (back.Pass, record r { is_open = r.is_open && a.granted }) (back.Drop Conflict, r)

abbrev pub answer_line : Reservation → Reply → Bool → Back × Reservation
answer_line r a b = cond b (back.Drop Stale, r) (tested_line r a (is_passed r a))

or_left : (s t : Bool) → (s || not t) ≡ true → t ≡ true → s ≡ true
or_left true t e is = refl
or_left false true e is = e
or_left false false e is = is

neither : (s t : Bool) → (s || not t) ≡ false → (t ≡ true) × (s ≡ false)
neither true t e = let bad : true ≡ false = e in cc
neither false true e = (refl, refl)
neither false false e = let bad : true ≡ false = e in cc

-- an answer that isn't of the newest request
refused_test : (r : Reservation) (a : Reply) (b : Bool) → ((a.terms.seq == r.newest) && is_of r a.terms) ≡ b → (b && (r.is_open || not a.granted)) ≡ false
    → ¬ (IsRepeat r a.terms) ⊎ ((a.granted ≡ true) × (r.is_open ≡ false))
refused_test r a true is e = inr (neither r.is_open a.granted e)
refused_test r a false is e =
    inl (λ repeat.
    let same : ((a.terms.seq == r.newest) && is_of r a.terms) ≡ true = λ i. eq-eqb a.terms.seq r.newest repeat.number i && is_of-repeat r a.terms repeat i in
    let bad : true ≡ false = sym same ∙ is in cc)

tested : (r : Reservation) (a : Reply) (b : Bool) → is_passed r a ≡ b → r.newest ≤ a.terms.seq
    → IsAnswered r a (tested_line r a b).0
tested r a true is least =
    let parts = both ((a.terms.seq == r.newest) && is_of r a.terms) (r.is_open || not a.granted) is in
    let same = both (a.terms.seq == r.newest) (is_of r a.terms) parts.0 in
    (repeat_from r a.terms (eqb-true a.terms.seq r.newest same.0) same.1, λ granted. or_left r.is_open a.granted parts.1 granted)
tested r a false is least = (least, refused_test r a ((a.terms.seq == r.newest) && is_of r a.terms) refl is)

any_answer : (r : Reservation) (a : Reply) (b : Bool) → nat_lt a.terms.seq r.newest ≡ b
    → IsAnswered r a (answer_line r a b).0
any_answer r a true is = ltb-true a.terms.seq r.newest is
any_answer r a false is = tested r a (is_passed r a) refl (ltb-false a.terms.seq r.newest is)

-- what is computed for an answer is what the rule says
pub answer_of-IsAnswered : (r : Reservation) (a : Reply) → IsAnswered r a (answer_of r a).0
answer_of-IsAnswered r a = any_answer r a (nat_lt a.terms.seq r.newest) refl

refuted : (r : Reservation) (a : Reply) → IsAnswered r a back.Pass → ¬ (IsRepeat r a.terms) ⊎ ((a.granted ≡ true) × (r.is_open ≡ false)) → ⊥
refuted r a pass (inl other) = other pass.0
refuted r a pass (inr shut) = clash r.is_open (pass.1 shut.0) shut.1

passed_only : (r : Reservation) (a : Reply) (y : Back) → IsAnswered r a back.Pass → IsAnswered r a y → back.Pass ≡ y
passed_only r a back.Pass x b = refl
passed_only r a (back.Drop UnknownVc) x b = absurd b
passed_only r a (back.Drop Stale) x b = absurd (omega (arith, x.0.number, b))
passed_only r a (back.Drop Conflict) x b = absurd (refuted r a x b.1)
passed_only r a (back.Drop FloorAbove) x b = absurd b

-- an answer comes to one thing
pub only_answered : (r : Reservation) (a : Reply) (x y : Back) → IsAnswered r a x → IsAnswered r a y → x ≡ y
only_answered r a back.Pass y b c = passed_only r a y b c
only_answered r a (back.Drop d) back.Pass b c = sym (passed_only r a (back.Drop d) c b)
only_answered r a (back.Drop UnknownVc) (back.Drop d) b c = absurd b
only_answered r a (back.Drop FloorAbove) (back.Drop d) b c = absurd b
only_answered r a (back.Drop Stale) (back.Drop UnknownVc) b c = absurd c
only_answered r a (back.Drop Stale) (back.Drop Stale) b c = refl
only_answered r a (back.Drop Stale) (back.Drop Conflict) b c = absurd (omega (arith, b, c.0))
only_answered r a (back.Drop Stale) (back.Drop FloorAbove) b c = absurd c
only_answered r a (back.Drop Conflict) (back.Drop UnknownVc) b c = absurd c
only_answered r a (back.Drop Conflict) (back.Drop Stale) b c = absurd (omega (arith, b.0, c))
only_answered r a (back.Drop Conflict) (back.Drop Conflict) b c = refl
only_answered r a (back.Drop Conflict) (back.Drop FloorAbove) b c = absurd c
