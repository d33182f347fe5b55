-- What the states of a port and of its connections that a C program keeps stand for (docs/RULES.md, "Node").
use Rattle.std.specs.Prelude.{◌≡◌, ℕ, ◌+◌, ◌-◌, ◌<◌, ◌≤◌, ◌^◌, ◌==◌, true, false, if◌then◌else◌}
use Rattle.abt_rate.specs.Limits.{capacity_max}
use Rattle.abt_rate.specs.Rate.{units_of}
use Rattle.abt_cell.specs.Channel.{Channel}
use Rattle.abt_cell.specs.Message.{Terms}
use Rattle.abt_node.specs.Reservation.{Reservation, held_by, decision_of}
use Rattle.abt_node.specs.declared.reply.Onward.{Onward}
use Rattle.abt_node.specs.declared.reply.Onward.TheVariants as onward
use Rattle.abt_node.specs.declared.reply.Back.{Back}
use Rattle.abt_node.specs.declared.reply.Back.TheVariants as back
use Rattle.abt_c.specs.Outcome.{pass, refuse, drop_number}
use Rattle.abt_c.specs.declared.port_state.AbtPort.{AbtPort}
use Rattle.abt_c.specs.declared.port_state.AbtConnection.{AbtConnection}

-- eight letters each, "abt port" and "abt conn"
abbrev pub port_kind : ℕ
port_kind = 0x61627420706f7274

abbrev pub connection_kind : ℕ
connection_kind = 0x61627420636f6e6e

-- the reservation of a connection
abbrev pub reservation_in : AbtConnection → Reservation
reservation_in c = record {
  newest = c.newest;
  floor = units_of c.floor;
  ask = units_of c.ask;
  is_open = if c.is_open == 0 then false else true;
}

-- the rate that it holds of the link
abbrev pub held_in : AbtConnection → ℕ
held_in c = held_by (reservation_in c)

abbrev pub channel_in : AbtConnection → Channel
channel_in c = record { vpi = c.vpi; vci = c.vci }

-- The state is one of a port.
abbrev pub IsPort : AbtPort → Type 0
IsPort p = (p.kind ≡ port_kind) × (p.total ≤ p.capacity) × (p.capacity ≤ capacity_max)

-- The state is one of a connection.
abbrev pub IsConnection : AbtConnection → Type 0
IsConnection c = (c.kind ≡ connection_kind) × (c.vpi < 2 ^ 12) × (units_of c.floor ≤ units_of c.ask)

-- The states are those of a port and of a connection that it can count.
abbrev pub IsCounted : AbtPort → AbtConnection → Type 0
IsCounted p c = IsPort p × IsConnection c × (held_in c ≤ p.total)

-- the port once a connection holds another rate
abbrev pub port_after : AbtPort → (before after : ℕ) → AbtPort
port_after p before after = record p { total = p.total - before + after }

-- the decision on a request: the reply, and the reservation then
abbrev pub decision_at : AbtPort → AbtConnection → Terms → Onward × Reservation
decision_at p c q = decision_of p.capacity (p.total - held_in c) (reservation_in c) q

-- what C gets for the decision on a request, and on an answer
abbrev pub onward_number : Onward → ℕ
onward_number onward.Pass = pass
onward_number (onward.Refuse answer) = refuse
onward_number (onward.Drop cause) = drop_number cause

abbrev pub back_number : Back → ℕ
back_number back.Pass = pass
back_number (back.Drop cause) = drop_number cause
