-- Laws about the table of a port (docs/RULES.md, "Node"): the rule decides what becomes of messages, and a message
-- changes no more of the table than it says.
use Rattle.std.specs.Prelude.{◌≡◌, ◌≢◌, ℕ, ◌-◌, ◌≤◌, Bool, true, false, Option, Some, None}
use Rattle.abt_cell.specs.Channel.{Channel}
use Rattle.abt_cell.specs.Message.{Terms, Reply}
use Rattle.abt_node.specs.declared.reply.Onward.{Onward}
use Rattle.abt_node.specs.declared.reply.Onward.TheVariants as onward
use Rattle.abt_node.specs.declared.reply.Back.{Back}
use Rattle.abt_node.specs.declared.reply.Back.TheVariants as back
use Rattle.abt_node.specs.declared.reply.DropCause.{DropCause}
use Rattle.abt_node.specs.declared.reply.DropCause.TheVariants.{UnknownVc}
use Rattle.abt_node.specs.Reservation.{Reservation}
use Rattle.abt_node.specs.Rule.{IsCovered, IsDecision, IsAnswered}
use Rattle.abt_node.specs.Table.{Connection, Table, connection_at, held_at, sum_of, reply_to, table_after, answer_to, table_after_answer}

-- a request of a known connection is decided by the rule
abbrev pub RequestsFollowTheRule : Type 0
RequestsFollowTheRule =
    (t : Table) (q : Terms) (c : Connection) → connection_at t q.vc ≡ Some c
    → IsDecision t.capacity (sum_of t - held_at c) c.reservation q (reply_to t q)

-- the rule gives it one reply
abbrev pub RequestsHaveOneReply : Type 0
RequestsHaveOneReply =
    (capacity others : ℕ) (r : Reservation) (q : Terms) (x y : Onward)
    → IsDecision capacity others r q x → IsDecision capacity others r q y → x ≡ y

-- a request of another is dropped
abbrev pub UnknownRequestsAreDropped : Type 0
UnknownRequestsAreDropped =
    (t : Table) (q : Terms) → connection_at t q.vc ≡ None → reply_to t q ≡ onward.Drop UnknownVc

-- a drop changes nothing
abbrev pub DroppedRequestsChangeNothing : Type 0
DroppedRequestsChangeNothing =
    (t : Table) (q : Terms) (cause : DropCause) → reply_to t q ≡ onward.Drop cause → table_after t q ≡ t

-- whether a request was decided
abbrev pub IsDecided : Onward → Type 0
IsDecided onward.Pass = Unit {0}
IsDecided (onward.Refuse answer) = Unit {0}
IsDecided (onward.Drop cause) = ⊥

-- a request that was decided is decided alike when it comes again, and then changes nothing
abbrev pub RepeatsRepeat : Type 0
RepeatsRepeat =
    (t : Table) (q : Terms) → IsDecided (reply_to t q)
    → (reply_to (table_after t q) q ≡ reply_to t q) × (table_after (table_after t q) q ≡ table_after t q)

-- a decrease passes, if no more is held than the link has
abbrev pub DecreasesPass : Type 0
DecreasesPass =
    (t : Table) (q : Terms) (c : Connection) → connection_at t q.vc ≡ Some c → sum_of t ≤ t.capacity
    → IsCovered c.reservation q → q.ask ≤ held_at c → reply_to t q ≡ onward.Pass

-- what a port keeps of other connections stays
abbrev pub RequestsLeaveOthers : Type 0
RequestsLeaveOthers =
    (t : Table) (q : Terms) (vc : Channel) → vc ≢ q.vc → connection_at (table_after t q) vc ≡ connection_at t vc

-- an answer of a known connection is taken by the rule
abbrev pub AnswersFollowTheRule : Type 0
AnswersFollowTheRule =
    (t : Table) (a : Reply) (c : Connection) → connection_at t a.terms.vc ≡ Some c → IsAnswered c.reservation a (answer_to t a)

-- the rule gives it one reply
abbrev pub AnswersHaveOneReply : Type 0
AnswersHaveOneReply = (r : Reservation) (a : Reply) (x y : Back) → IsAnswered r a x → IsAnswered r a y → x ≡ y

-- an answer of another is dropped
abbrev pub UnknownAnswersAreDropped : Type 0
UnknownAnswersAreDropped =
    (t : Table) (a : Reply) → connection_at t a.terms.vc ≡ None → answer_to t a ≡ back.Drop UnknownVc

-- a drop changes nothing
abbrev pub DroppedAnswersChangeNothing : Type 0
DroppedAnswersChangeNothing =
    (t : Table) (a : Reply) (cause : DropCause) → answer_to t a ≡ back.Drop cause → table_after_answer t a ≡ t

-- a yes that passes changes nothing, and a no that passes shuts the connection
abbrev pub AnswersSettle : Type 0
AnswersSettle =
    (t : Table) (a : Reply) (c : Connection) → connection_at t a.terms.vc ≡ Some c → answer_to t a ≡ back.Pass
    → connection_at (table_after_answer t a) a.terms.vc
    ≡ Some (record c { reservation = record c.reservation { is_open = a.granted } })

-- what a port keeps of other connections stays
abbrev pub AnswersLeaveOthers : Type 0
AnswersLeaveOthers =
    (t : Table) (a : Reply) (vc : Channel) → vc ≢ a.terms.vc
    → connection_at (table_after_answer t a) vc ≡ connection_at t vc
