-- What an event of a connection can change of the ports.
use Rattle.std.specs.Prelude.{◌≡◌, ◌≢◌, ℕ, List, Option, None, Some, slice_set}
use Rattle.abt_cell.specs.Channel.{Channel}
use Rattle.abt_net.specs.declared.conn.Conn.{Conn}
use Rattle.abt_node.specs.Table.{Table}
use Rattle.abt_safety.specs.Holding.{held_by_port}
use Rattle.abt_model.specs.declared.event.Event.{Event}
use Rattle.abt_model.specs.declared.target.Target.{Target}
use Rattle.abt_model.specs.declared.target.Target.TheVariants.{Hop}
use Rattle.abt_model.specs.Targets.{target_of, hop_met_by}
use Rattle.abt_world.specs.Steps.{port_at}

-- the port that an event comes to, if it comes to one
abbrev pub port_visited : List ℕ → Target → Option ℕ
port_visited path (Hop c event) = port_at path (hop_met_by event)
port_visited path other = None

abbrev pub visited : Conn → Event → Option ℕ
visited conn event = port_visited conn.path (target_of event)

-- One table at most is another, that of this port.
abbrev pub Rewrites : Option ℕ → (before after : List Table) → Type 0
Rewrites None before after = after ≡ before
Rewrites (Some p) before after = (table : Table) × (after ≡ slice_set before p table)

-- Only the port that is visited changes, and only what it keeps of this channel.
abbrev pub Touches : Option ℕ → Channel → (before after : List Table) → Type 0
Touches port vc before after =
    Rewrites port before after × ((other : Channel) → other ≢ vc → (p : ℕ) → held_by_port other after p ≡ held_by_port other before p)
