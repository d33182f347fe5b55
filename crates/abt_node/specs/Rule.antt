-- The rule of a node said as conditions (docs/RULES.md, "Node"). `Reservation` computes the same decisions.
use Rattle.std.specs.Prelude.{◌≡◌, ℕ, ◌+◌, ◌<◌, ◌≤◌, ◌⊎◌, Bool, true, false}
use Rattle.abt_cell.specs.Message.{Terms, Reply}
use Rattle.abt_node.specs.declared.reply.Onward.{Onward}
use Rattle.abt_node.specs.declared.reply.Onward.TheVariants as onward
use Rattle.abt_node.specs.declared.reply.Back.{Back}
use Rattle.abt_node.specs.declared.reply.Back.TheVariants as back
use Rattle.abt_node.specs.declared.reply.DropCause.TheVariants.{UnknownVc, Stale, Conflict, FloorAbove}
use Rattle.abt_node.specs.Reservation.{Reservation, held_by, no_to}

-- A message is of the request that was decided last.
pub record IsRepeat (r : Reservation) (q : Terms) : Type 0 where
  pub number : q.seq ≡ r.newest
  pub floor : q.floor ≡ r.floor
  pub ask : q.ask ≡ r.ask

-- A request is newer, and its floor is at most what is held.
pub record IsCovered (r : Reservation) (q : Terms) : Type 0 where
  pub newer : r.newest < q.seq
  pub floor : q.floor ≤ held_by r

-- The decision on a request at a port that knows its connection, where the others hold `others` of the capacity.
abbrev pub IsDecision : (capacity others : ℕ) → Reservation → Terms → Onward → Type 0
IsDecision capacity others r q onward.Pass =
    (IsRepeat r q × (r.is_open ≡ true)) ⊎ (IsCovered r q × (others + q.ask ≤ capacity))
IsDecision capacity others r q (onward.Refuse answer) =
    (answer ≡ no_to q) × ((IsRepeat r q × (r.is_open ≡ false)) ⊎ (IsCovered r q × (capacity < others + q.ask)))
IsDecision capacity others r q (onward.Drop UnknownVc) = ⊥
IsDecision capacity others r q (onward.Drop Stale) = q.seq < r.newest
IsDecision capacity others r q (onward.Drop Conflict) = (q.seq ≡ r.newest) × ¬ (IsRepeat r q)
IsDecision capacity others r q (onward.Drop FloorAbove) = (r.newest < q.seq) × (held_by r < q.floor)

-- The decision on an answer at a port that knows its connection.
abbrev pub IsAnswered : Reservation → Reply → Back → Type 0
IsAnswered r a back.Pass = IsRepeat r a.terms × (a.granted ≡ true → r.is_open ≡ true)
IsAnswered r a (back.Drop UnknownVc) = ⊥
IsAnswered r a (back.Drop Stale) = a.terms.seq < r.newest
IsAnswered r a (back.Drop Conflict) =
    (r.newest ≤ a.terms.seq) × (¬ (IsRepeat r a.terms) ⊎ ((a.granted ≡ true) × (r.is_open ≡ false)))
IsAnswered r a (back.Drop FloorAbove) = ⊥
