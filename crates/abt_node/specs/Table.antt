-- What contracts see of a port: a table of its connections (docs/RULES.md, "Node"), its replies to a request, an
-- answer, a cell and a new capacity, and the table after each.
use Rattle.std.specs.Prelude.{ℕ, ◌-◌, Option, None, Some, Result, Ok, Err, nat_lt, if◌then◌else◌, refl, sum_by, option_and_then}
use Rattle.std.specs.Option.{option_map}
use Rattle.std.specs.Coded.{Coded, code_by, coded×, coded_ℕ, coded_option}
use Rattle.std.specs.FinMap as map
use Rattle.abt_cell.specs.Channel.{Channel, channel_cmp, channel_code}
use Rattle.abt_cell.specs.Message.{Terms, Reply}
use Rattle.abt_rate.specs.Limits.{arrive_max}
use Rattle.abt_gcra.specs.Policing.{Policing, policing_code, fresh_policing, policed}
use Rattle.abt_gcra.specs.declared.verdict.Verdict.{Verdict}
use Rattle.abt_ledger.specs.Capacity.{capacity_fault, capacity_answer, capacity_after}
use Rattle.abt_ledger.specs.declared.fault.CapacityFault.{CapacityFault}
use Rattle.abt_node.specs.declared.fault.ArriveFault.{ArriveFault}
use Rattle.abt_node.specs.declared.fault.ArriveFault.TheVariants as fault
use Rattle.abt_node.specs.declared.reply.Onward.{Onward}
use Rattle.abt_node.specs.declared.reply.Onward.TheVariants as onward
use Rattle.abt_node.specs.declared.reply.Back.{Back}
use Rattle.abt_node.specs.declared.reply.Back.TheVariants as back
use Rattle.abt_node.specs.declared.reply.DropCause.TheVariants.{UnknownVc}
use Rattle.abt_node.specs.Reservation.{Reservation, reservation_code, first_reservation, held_by, decision_of, answer_of}

-- What a port keeps of a connection: what it reserves for it and, at its ingress, what its policer keeps.
pub record Connection : Type 0 where
  pub reservation : Reservation
  pub policing : Option Policing

abbrev pub connection_code : Coded Connection
connection_code =
    code_by
    (Reservation × Option Policing)
    (coded× reservation_code (coded_option policing_code))
    (λ c. (c.reservation, c.policing))
    (λ p. record { reservation = p.0; policing = p.1 })
    (λ _. refl)

-- A port: the number given to it, the capacity of its link, and what it keeps of each connection.
pub record Table : Type 0 where
  pub id : ℕ
  pub capacity : ℕ
  pub connections : map.FinMap channel_cmp Connection

abbrev pub table_code : Coded Table
table_code =
    code_by
    ((ℕ × ℕ) × map.FinMap channel_cmp Connection)
    (coded× (coded× coded_ℕ coded_ℕ) (map.code channel_code connection_code))
    (λ t. ((t.id, t.capacity), t.connections))
    (λ p. record { id = p.0.0; capacity = p.0.1; connections = p.1 })
    (λ _. refl)

-- a port without connections
abbrev pub new_table : (id capacity : ℕ) → Table
new_table id capacity = record { id = id; capacity = capacity; connections = map.empty }

-- A connection before its first request. With a tau the port is its ingress.
abbrev pub opening : Option ℕ → Connection
opening tau = record { reservation = first_reservation; policing = option_map fresh_policing tau }

-- what a port keeps of a connection, if it was added
abbrev pub connection_at : Table → Channel → Option Connection
connection_at t vc = map.get t.connections vc

-- the table with this kept of a connection
abbrev pub with_connection : Table → Channel → Connection → Table
with_connection t vc c = record t { connections = map.insert t.connections vc c }

-- the rate that a connection holds
abbrev pub held_at : Connection → ℕ
held_at c = held_by c.reservation

-- the sum of what is held over all connections
abbrev pub sum_of : Table → ℕ
sum_of t = sum_by held_at (map.values t.connections)

-- A request

abbrev pub decision_at : Table → Terms → Connection → Onward × Reservation
decision_at t q c = decision_of t.capacity (sum_of t - held_at c) c.reservation q

abbrev pub reply_by : Table → Terms → Option Connection → Onward
reply_by t q None = onward.Drop UnknownVc
reply_by t q (Some c) = (decision_at t q c).0

abbrev pub table_by : Table → Terms → Option Connection → Table
table_by t q None = t
table_by t q (Some c) = with_connection t q.vc (record c { reservation = (decision_at t q c).1 })

-- the reply to a request
abbrev pub reply_to : Table → Terms → Onward
reply_to t q = reply_by t q (connection_at t q.vc)

-- the table after a request
abbrev pub table_after : Table → Terms → Table
table_after t q = table_by t q (connection_at t q.vc)

-- An answer

abbrev pub answer_by : Reply → Option Connection → Back
answer_by a None = back.Drop UnknownVc
answer_by a (Some c) = (answer_of c.reservation a).0

abbrev pub table_by_answer : Table → Reply → Option Connection → Table
table_by_answer t a None = t
table_by_answer t a (Some c) = with_connection t a.terms.vc (record c { reservation = (answer_of c.reservation a).1 })

-- the reply to an answer
abbrev pub answer_to : Table → Reply → Back
answer_to t a = answer_by a (connection_at t a.terms.vc)

-- the table after an answer
abbrev pub table_after_answer : Table → Reply → Table
table_after_answer t a = table_by_answer t a (connection_at t a.terms.vc)

-- A cell, judged by the rate that its connection holds when it arrives

-- the policer of a connection, if it was added and the port is its ingress
abbrev pub policing_at : Table → Channel → Option Policing
policing_at t vc = option_and_then (λ c. c.policing) (connection_at t vc)

abbrev pub arrival_by : (at held : ℕ) → Option Policing → Result Verdict ArriveFault
arrival_by at held None = Err fault.NotIngress
arrival_by at held (Some p) =
    if nat_lt at p.clock then Err fault.ClockBack
    else if nat_lt arrive_max at then Err fault.TimeRange
    else Ok (policed p at held).0

abbrev pub arrival_of : ℕ → Option Connection → Result Verdict ArriveFault
arrival_of at None = Err fault.UnknownVc
arrival_of at (Some c) = arrival_by at (held_at c) c.policing

-- the verdict on a cell of a connection at a moment
abbrev pub arrival_at : Table → Channel → ℕ → Result Verdict ArriveFault
arrival_at t vc at = arrival_of at (connection_at t vc)

-- the policer after a cell: it stays if the cell gets no verdict
abbrev pub policing_after : (at held : ℕ) → Policing → Policing
policing_after at held p =
    if nat_lt at p.clock then p
    else if nat_lt arrive_max at then p
    else (policed p at held).1

abbrev pub table_by_arrival : Table → Channel → ℕ → Option Connection → Table
table_by_arrival t vc at None = t
table_by_arrival t vc at (Some c) =
    with_connection t vc (record c { policing = option_map (policing_after at (held_at c)) c.policing })

-- the table after the cell
abbrev pub table_after_arrival : Table → Channel → ℕ → Table
table_after_arrival t vc at = table_by_arrival t vc at (connection_at t vc)

-- A new capacity

-- the port's reply to a new capacity, and the table then
abbrev pub capacity_set : Table → ℕ → Result (Unit {0}) CapacityFault
capacity_set t capacity = capacity_answer (capacity_fault (sum_of t) capacity)

abbrev pub table_after_capacity : Table → ℕ → Table
table_after_capacity t capacity = record t { capacity = capacity_after t.capacity capacity (capacity_fault (sum_of t) capacity) }
