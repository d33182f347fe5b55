-- What a port reserves for a connection, and the decision of one request and of one answer at it
-- (docs/RULES.md, "Node"). The same decisions, said as conditions, stand in `Rule`.
use Rattle.std.specs.Prelude.{ℕ, ◌+◌, Bool, true, false, not, ◌&&◌, ◌||◌, ◌==◌, nat_lt, nat_le, if◌then◌else◌, refl}
use Rattle.std.specs.Coded.{Coded, code_by, coded×, coded_ℕ, coded_bool}
use Rattle.abt_cell.specs.Message.{Terms, Reply}
use Rattle.abt_node.specs.declared.reply.Onward.{Onward}
use Rattle.abt_node.specs.declared.reply.Onward.TheVariants.{Pass, Refuse, Drop}
use Rattle.abt_node.specs.declared.reply.Back.{Back}
use Rattle.abt_node.specs.declared.reply.Back.TheVariants as back
use Rattle.abt_node.specs.declared.reply.DropCause.TheVariants.{Stale, Conflict, FloorAbove}

-- The newest number that was decided, its floor and its asked rate, and whether it is open or shut.
pub record Reservation : Type 0 where
  pub newest : ℕ
  pub floor : ℕ
  pub ask : ℕ
  pub is_open : Bool

-- it is stored as its four parts
abbrev pub reservation_code : Coded Reservation
reservation_code =
    code_by
    ((ℕ × ℕ) × (ℕ × Bool))
    (coded× (coded× coded_ℕ coded_ℕ) (coded× coded_ℕ coded_bool))
    (λ r. ((r.newest, r.floor), (r.ask, r.is_open)))
    (λ p. record { newest = p.0.0; floor = p.0.1; ask = p.1.0; is_open = p.1.1 })
    (λ _. refl)

-- before the first request
abbrev pub first_reservation : Reservation
first_reservation = record { newest = 0; floor = 0; ask = 0; is_open = false }

-- the rate that is held: the asked rate while it is open, and the floor while it is shut
abbrev pub held_by : Reservation → ℕ
held_by r = if r.is_open then r.ask else r.floor

-- the reservation for a request, once it was decided
abbrev pub decided_as : Bool → Terms → Reservation
decided_as is_open q = record { newest = q.seq; floor = q.floor; ask = q.ask; is_open = is_open }

-- the no to a request
abbrev pub no_to : Terms → Reply
no_to q = record { terms = q; granted = false }

-- a request that was decided passes while it is open, and is refused while it is shut
abbrev pub pass_or_refuse : Bool → Terms → Onward
pass_or_refuse is_open q = if is_open then Pass else Refuse (no_to q)

-- whether a message of the newest number is of the request that was decided under it
abbrev pub is_of : Reservation → Terms → Bool
is_of r q = (q.floor == r.floor) && (q.ask == r.ask)

-- A request: the reply, and what is reserved then. The others on the link hold `others` of its capacity.
abbrev pub decision_of : (capacity others : ℕ) → Reservation → Terms → Onward × Reservation
decision_of capacity others r q =
    if nat_lt q.seq r.newest then (Drop Stale, r)
    else if q.seq == r.newest then (if is_of r q then (pass_or_refuse r.is_open q, r) else (Drop Conflict, r))
    else if nat_lt (held_by r) q.floor then (Drop FloorAbove, r)
    else (let fits = nat_le (others + q.ask) capacity in (pass_or_refuse fits q, decided_as fits q))

-- An answer: the reply, and what is reserved then. A yes needs an open request, and a no shuts it.
abbrev pub answer_of : Reservation → Reply → Back × Reservation
answer_of r a =
    if nat_lt a.terms.seq r.newest then (back.Drop Stale, r)
    else if (a.terms.seq == r.newest) && is_of r a.terms && (r.is_open || not a.granted)
    then (back.Pass, record r { is_open = r.is_open && a.granted })
    else (back.Drop Conflict, r)
