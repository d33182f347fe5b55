-- What a message leaves of a table: a drop changes nothing, a repeat repeats, and other connections are untouched.
use Rattle.std.proofs.Common.{◌≡◌, ◌≢◌, ℕ, ◌+◌, ◌-◌, ◌<◌, ◌≤◌, inr, Bool, true, false, cond, not, ◌&&◌, ◌||◌, ◌==◌, List, [], ◌∷◌, map, sum_by, Option, Some, None, is_some, nat_lt, nat_le, refl, sym, ap, subst, ◌∙◌, arith}
use Rattle.std.proofs.lemmas.Bool.{eq-eqb, eqb-true, le-ltb}
use Rattle.std.proofs.lemmas.List.Sums.{sum_by-cons}
use Rattle.std.specs.Prelude.{unwrap_or}
use Rattle.std.specs.Ordering.{eq_by_cmp, is_eq}
use Rattle.std.specs.FinMap.{get, insert, get-insert, get-entries, entries, find, same_map, FinMap}
use Rattle.abt_cell.specs.Channel.{Channel, channel_cmp, same_channel}
use Rattle.abt_cell.specs.Message.{Terms, Reply}
use Rattle.abt_cell.proofs.ChannelLemmas.{channel_cmp_total, channel_cmp-IsAntisymmetric, same_channel_tied, same_channel-is, same_channel-refl}
use Rattle.abt_node.specs.declared.reply.Onward.{Onward}
use Rattle.abt_node.specs.declared.reply.Onward.TheVariants as onward
use Rattle.abt_node.specs.declared.reply.Back.{Back}
use Rattle.abt_node.specs.declared.reply.Back.TheVariants as back
use Rattle.abt_node.specs.declared.reply.DropCause.{DropCause}
use Rattle.abt_node.specs.declared.reply.DropCause.TheVariants.{Stale, Conflict, FloorAbove}
use Rattle.abt_node.specs.Reservation.{Reservation, held_by, is_of, pass_or_refuse, decided_as, decision_of, answer_of}
use Rattle.abt_node.specs.Rule.{IsCovered, IsDecision, IsAnswered}
use Rattle.abt_node.specs.Laws.{IsDecided}
use Rattle.abt_node.specs.Table.{Connection, Table, connection_at, with_connection, held_at, sum_of, decision_at, reply_by, reply_to, table_by, table_after, answer_by, answer_to, table_by_answer, table_after_answer}
use Rattle.abt_node.proofs.RuleLemmas.{both, repeat_from, newest_line, line_from_newest, line_of, is_passed, tested_line, answer_line, decision_of-IsDecision, only_decision, answer_of-IsAnswered}

-- a channel is tied with itself, and with no other
tied : (k : Channel) → eq_by_cmp channel_cmp k k ≡ true
tied k = sym (same_channel_tied k k) ∙ same_channel-refl k

untied : (q k : Channel) → q ≢ k → eq_by_cmp channel_cmp q k ≡ false
untied q k ne =
    elim (same_channel q k) as (λ b. same_channel q k ≡ b → eq_by_cmp channel_cmp q k ≡ false) [
      | true ↦ λ e. absurd (ne (same_channel-is q k e))
      | false ↦ λ e. sym (same_channel_tied q k) ∙ e
    ] refl

pub connection_at-with_connection : (t : Table) (vc : Channel) (c : Connection) → connection_at (with_connection t vc c) vc ≡ Some c
connection_at-with_connection t vc c =
    get-insert channel_cmp_total t.connections vc c vc ∙ ap (λ b. cond b (Some c) (get t.connections vc)) (tied vc)

pub connection_at-other : (t : Table) (vc other : Channel) (c : Connection) → other ≢ vc → connection_at (with_connection t vc c) other ≡ connection_at t other
connection_at-other t vc other c ne =
    get-insert channel_cmp_total t.connections vc c other ∙ ap (λ b. cond b (Some c) (get t.connections other)) (untied other vc ne)

-- to put in what is there changes nothing
kept_entry : (m : FinMap channel_cmp Connection) (k : Channel) (v : Connection) → get m k ≡ Some v → (q : Channel) (b : Bool) → same_channel q k ≡ b → cond b (Some v) (get m q) ≡ get m q
kept_entry m k v known q true e = sym known ∙ ap (get m) (sym (same_channel-is q k e))
kept_entry m k v known q false e = refl

pub with_connection-same : (t : Table) (vc : Channel) (c : Connection) → connection_at t vc ≡ Some c → with_connection t vc c ≡ t
with_connection-same t vc c known =
    ap (λ m. record t { connections = m })
    (same_map channel_cmp_total channel_cmp-IsAntisymmetric (insert t.connections vc c) t.connections
    (λ q. get-insert channel_cmp_total t.connections vc c q
    ∙ ap (λ b. cond b (Some c) (get t.connections q)) (sym (same_channel_tied q vc))
    ∙ kept_entry t.connections vc c known q (same_channel q vc) refl))

-- A request

dropped_line : (r : Reservation) (d : DropCause) (b : Bool) (x y : Onward × Reservation) → (x.0 ≡ onward.Drop d → x.1 ≡ r) → (y.0 ≡ onward.Drop d → y.1 ≡ r)
    → (cond b x y).0 ≡ onward.Drop d → (cond b x y).1 ≡ r
dropped_line r d true x y f g = f
dropped_line r d false x y f g = g

is_drop : Onward → Bool
is_drop onward.Pass = false
is_drop (onward.Refuse answer) = false
is_drop (onward.Drop cause) = true

never_dropped : (b : Bool) (q : Terms) → is_drop (pass_or_refuse b q) ≡ false
unfolding is_drop
never_dropped true q = refl
never_dropped false q = refl

not_dropped : (b : Bool) (q : Terms) (d : DropCause) → pass_or_refuse b q ≡ onward.Drop d → ⊥
unfolding is_drop
not_dropped b q d e = let bad : true ≡ false = sym (ap is_drop e) ∙ never_dropped b q in cc

-- a drop leaves what is reserved
drop_keeps : (capacity others : ℕ) (r : Reservation) (q : Terms) (d : DropCause) → (decision_of capacity others r q).0 ≡ onward.Drop d → (decision_of capacity others r q).1 ≡ r
drop_keeps capacity others r q d =
    dropped_line r d (nat_lt q.seq r.newest) _ _ (λ e. refl)
    (dropped_line r d (q.seq == r.newest) _ _ (dropped_line r d (is_of r q) _ _ (λ e. refl) (λ e. refl))
    (dropped_line r d (nat_lt (held_by r) q.floor) _ _ (λ e. refl) (λ e. absurd (not_dropped (nat_le (others + q.ask) capacity) q d e))))

drop_by : (t : Table) (q : Terms) (d : DropCause) (o : Option Connection) → connection_at t q.vc ≡ o → reply_by t q o ≡ onward.Drop d → table_by t q o ≡ t
drop_by t q d None known e = refl
drop_by t q d (Some c) known e =
    ap (λ r. with_connection t q.vc (record c { reservation = r })) (drop_keeps t.capacity (sum_of t - held_at c) c.reservation q d e)
    ∙ with_connection-same t q.vc c known

pub drop_changes_nothing : (t : Table) (q : Terms) (d : DropCause) → reply_to t q ≡ onward.Drop d → table_after t q ≡ t
drop_changes_nothing t q d e = drop_by t q d (connection_at t q.vc) refl e

others_by : (t : Table) (q : Terms) (vc : Channel) (o : Option Connection) → vc ≢ q.vc → connection_at (table_by t q o) vc ≡ connection_at t vc
others_by t q vc None ne = refl
others_by t q vc (Some c) ne = connection_at-other t q.vc vc _ ne

pub request_leaves_others : (t : Table) (q : Terms) (vc : Channel) → vc ≢ q.vc → connection_at (table_after t q) vc ≡ connection_at t vc
request_leaves_others t q vc ne = others_by t q vc (connection_at t q.vc) ne

pub request_decision : (t : Table) (q : Terms) (c : Connection) → connection_at t q.vc ≡ Some c → IsDecision t.capacity (sum_of t - held_at c) c.reservation q (reply_to t q)
request_decision t q c known =
    subst (λ o. IsDecision t.capacity (sum_of t - held_at c) c.reservation q (reply_by t q o)) (sym known) (decision_of-IsDecision t.capacity (sum_of t - held_at c) c.reservation q)

-- a connection holds no more than all do
find-le-sum : (f : Connection → ℕ) (k : Channel) (v : Connection) (es : List (Channel × Connection)) → find channel_cmp k es ≡ Some v → f v ≤ sum_by f (map (λ e. e.1) es)
find-le-sum f k v [] h = let bad : true ≡ false = sym (ap is_some h) in cc
find-le-sum f k v (e ∷ es) h =
    let xs = map (λ e. e.1) es in
    elim (is_eq (channel_cmp k e.0)) as (λ b. cond b (Some e.1) (find channel_cmp k es) ≡ Some v → f v ≤ sum_by f (e.1 ∷ xs)) [
      | true ↦ λ p. omega (arith, sum_by-cons f e.1 xs, ap (λ o. f (unwrap_or o v)) p)
      | false ↦ λ p. omega (arith, sum_by-cons f e.1 xs, find-le-sum f k v es p)
    ] h

pub held_at-le-sum_of : (t : Table) (vc : Channel) (c : Connection) → connection_at t vc ≡ Some c → held_at c ≤ sum_of t
held_at-le-sum_of t vc c known = find-le-sum held_at vc c (entries t.connections) (sym (get-entries t.connections vc) ∙ known)

pub decrease_passes : (t : Table) (q : Terms) (c : Connection) → connection_at t q.vc ≡ Some c → sum_of t ≤ t.capacity
    → IsCovered c.reservation q → q.ask ≤ held_at c → reply_to t q ≡ onward.Pass
decrease_passes t q c known within covered lower =
    let held = held_at-le-sum_of t q.vc c known in
    only_decision t.capacity (sum_of t - held_at c) c.reservation q (reply_to t q) onward.Pass (request_decision t q c known) (inr (covered, omega (arith, within, lower, held)))

-- the decision of a request that was decided
again_line : (capacity others : ℕ) (r : Reservation) (q : Terms) → q.seq ≡ r.newest → q.floor ≡ r.floor → q.ask ≡ r.ask
    → decision_of capacity others r q ≡ (pass_or_refuse r.is_open q, r)
again_line capacity others r q number floor ask =
    ap (line_of capacity others r q)
    (le-ltb q.seq r.newest (omega (arith, number)))
    ∙ ap (line_from_newest capacity others r q)
    (eq-eqb q.seq r.newest number)
    ∙ (λ i. newest_line r q (eq-eqb q.floor r.floor floor i && eq-eqb q.ask r.ask ask i))

-- What a decision leaves, where it isn't a drop: a reservation of the request, open or shut as was replied.
pub record IsLeft (q : Terms) (line : Onward × Reservation) : Type 0 where
  pub number : q.seq ≡ line.1.newest
  pub floor : q.floor ≡ line.1.floor
  pub ask : q.ask ≡ line.1.ask
  pub reply : line.0 ≡ pass_or_refuse line.1.is_open q

left_line : (q : Terms) (b : Bool) (x y : Onward × Reservation) → (b ≡ true → IsDecided x.0 → IsLeft q x) → (b ≡ false → IsDecided y.0 → IsLeft q y) → IsDecided (cond b x y).0 → IsLeft q (cond b x y)
left_line q true x y f g = f refl
left_line q false x y f g = g refl

left_by : (capacity others : ℕ) (r : Reservation) (q : Terms) → IsDecided (decision_of capacity others r q).0 → IsLeft q (decision_of capacity others r q)
left_by capacity others r q =
    left_line q (nat_lt q.seq r.newest) _ _ (λ b d. absurd d) (λ least.
    left_line q (q.seq == r.newest) _ _ (λ same.
    left_line q (is_of r q) _ _ (λ is d.
    let repeat = repeat_from r q (eqb-true q.seq r.newest same) is in record { number = repeat.number; floor = repeat.floor; ask = repeat.ask; reply = refl }) (λ b d. absurd d))
    (λ other. left_line q (nat_lt (held_by r) q.floor) _ _ (λ b d. absurd d) (λ b d. record { number = refl; floor = refl; ask = refl; reply = refl })))

repeats_by : (t : Table) (q : Terms) (o : Option Connection) → connection_at t q.vc ≡ o → IsDecided (reply_by t q o)
    → (reply_to (table_by t q o) q ≡ reply_by t q o) × (table_after (table_by t q o) q ≡ table_by t q o)
repeats_by t q None known d = absurd d
repeats_by t q (Some c) known d =
    let line = decision_at t q c in
    let new : Connection = record c { reservation = line.1 } in
    let after : Table = with_connection t q.vc new in
    let there : connection_at after q.vc ≡ Some new = connection_at-with_connection t q.vc new in
    let left = left_by t.capacity (sum_of t - held_at c) c.reservation q d in
    let again = again_line after.capacity (sum_of after - held_at new) line.1 q left.number left.floor left.ask in (
      ap (reply_by after q) there ∙ ap (λ (p : Onward × Reservation). p.0) again ∙ sym left.reply,
      ap (table_by after q) there ∙ ap (λ (p : Onward × Reservation). with_connection after q.vc (record new { reservation = p.1 })) again ∙ with_connection-same after q.vc new there,
    )

pub repeats_repeat : (t : Table) (q : Terms) → IsDecided (reply_to t q)
    → (reply_to (table_after t q) q ≡ reply_to t q) × (table_after (table_after t q) q ≡ table_after t q)
repeats_repeat t q d = repeats_by t q (connection_at t q.vc) refl d

-- An answer

pub answer_decision : (t : Table) (a : Reply) (c : Connection) → connection_at t a.terms.vc ≡ Some c → IsAnswered c.reservation a (answer_to t a)
answer_decision t a c known = subst (λ o. IsAnswered c.reservation a (answer_by a o)) (sym known) (answer_of-IsAnswered c.reservation a)

drop_answer_keeps : (r : Reservation) (a : Reply) (d : DropCause) → (answer_of r a).0 ≡ back.Drop d → (answer_of r a).1 ≡ r
drop_answer_keeps r a d =
    dropped_answer r d (nat_lt a.terms.seq r.newest) _ _ (λ e. refl)
    (dropped_answer r d (is_passed r a) _ _ (λ e. absurd (pass_is_no_drop d e)) (λ e. refl))
  where
    dropped_answer : (r : Reservation) (d : DropCause) (b : Bool) (x y : Back × Reservation) → (x.0 ≡ back.Drop d → x.1 ≡ r) → (y.0 ≡ back.Drop d → y.1 ≡ r)
        → (cond b x y).0 ≡ back.Drop d → (cond b x y).1 ≡ r
    dropped_answer r d true x y f g = f
    dropped_answer r d false x y f g = g

    pass_is_no_drop : (d : DropCause) → back.Pass ≡ back.Drop d → ⊥
    pass_is_no_drop d e = cc

drop_by_answer : (t : Table) (a : Reply) (d : DropCause) (o : Option Connection) → connection_at t a.terms.vc ≡ o → answer_by a o ≡ back.Drop d → table_by_answer t a o ≡ t
drop_by_answer t a d None known e = refl
drop_by_answer t a d (Some c) known e =
    ap (λ r. with_connection t a.terms.vc (record c { reservation = r })) (drop_answer_keeps c.reservation a d e) ∙ with_connection-same t a.terms.vc c known

pub answer_drop_changes_nothing : (t : Table) (a : Reply) (d : DropCause) → answer_to t a ≡ back.Drop d → table_after_answer t a ≡ t
answer_drop_changes_nothing t a d e = drop_by_answer t a d (connection_at t a.terms.vc) refl e

others_by_answer : (t : Table) (a : Reply) (vc : Channel) (o : Option Connection) → vc ≢ a.terms.vc → connection_at (table_by_answer t a o) vc ≡ connection_at t vc
others_by_answer t a vc None ne = refl
others_by_answer t a vc (Some c) ne = connection_at-other t a.terms.vc vc _ ne

pub answer_leaves_others : (t : Table) (a : Reply) (vc : Channel) → vc ≢ a.terms.vc → connection_at (table_after_answer t a) vc ≡ connection_at t vc
answer_leaves_others t a vc ne = others_by_answer t a vc (connection_at t a.terms.vc) ne

settled : (s g : Bool) → (s || not g) ≡ true → (s && g) ≡ g
settled true g e = refl
settled false true e = e
settled false false e = refl

settled_line : (r : Reservation) (a : Reply) (b : Bool) → is_passed r a ≡ b
    → (tested_line r a b).0 ≡ back.Pass
    → (tested_line r a b).1 ≡ record r { is_open = a.granted }
settled_line r a true is e = ap (λ opened. record r { is_open = opened }) (settled r.is_open a.granted (both ((a.terms.seq == r.newest) && is_of r a.terms) (r.is_open || not a.granted) is).1)
settled_line r a false is e = absurd (cc)

settles : (r : Reservation) (a : Reply) (b : Bool) → nat_lt a.terms.seq r.newest ≡ b
    → (answer_line r a b).0 ≡ back.Pass
    → (answer_line r a b).1 ≡ record r { is_open = a.granted }
settles r a true is e = absurd (cc)
settles r a false is e = settled_line r a _ refl e

pub answers_settle : (t : Table) (a : Reply) (c : Connection) → connection_at t a.terms.vc ≡ Some c → answer_to t a ≡ back.Pass
    → connection_at (table_after_answer t a) a.terms.vc ≡ Some (record c { reservation = record c.reservation { is_open = a.granted } })
answers_settle t a c known passed =
    ap (λ o. connection_at (table_by_answer t a o) a.terms.vc) known
    ∙ connection_at-with_connection t a.terms.vc (record c { reservation = (answer_of c.reservation a).1 })
    ∙ ap (λ r. Some (record c { reservation = r })) (settles c.reservation a (nat_lt a.terms.seq c.reservation.newest) refl (ap (answer_by a) (sym known) ∙ passed))
