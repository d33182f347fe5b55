-- What a line says of the net (docs/JOURNALS.md, "The net").
use Rattle.std.specs.Prelude.{ℕ, ◌^◌, List, [], ◌∷◌, Option, None, Some, Ok, Err}
use Rattle.json.specs.Json.{Json, Items, no_items, item}
use Rattle.json.specs.Find.{as_array}
use Rattle.abt_net.specs.declared.conn.Conn.{Conn}
use Rattle.abt_net.specs.Topology.{Topology}
use Rattle.abt_entry.specs.declared.fault.LineFault.TheVariants as fault
use Rattle.abt_entry.specs.declared.member.Member.{Member}
use Rattle.abt_entry.specs.declared.member.Member.TheVariants as of
use Rattle.abt_entry.specs.Cells.{channel_in}
use Rattle.abt_text.specs.FirstFault.{◌>>=◌}
use Rattle.abt_entry.specs.Reading.{Read, needed}
use Rattle.abt_entry.specs.Values.{member_at, whole_of, whole_at}

-- what is read of each item, in order
abbrev pub each : {A : Type 0} → (Json → Read A) → Items → Read (List A)
each reading no_items = Ok []
each reading (item json items) = do
  first ← reading json
  others ← each reading items
  Ok (first ∷ others)

-- an array that has to be there
abbrev pub items_at : Member → Json → Read Items
items_at name json = do
  value ← member_at name json
  needed name (as_array value)

abbrev pub numbers_in : ℕ → Member → Items → Read (List ℕ)
numbers_in limit name = each (whole_of limit name)

-- a connection
abbrev pub conn_in : Json → Read Conn
conn_in json = do
  vc ← channel_in json
  hops ← items_at of.Path json
  path ← numbers_in (2 ^ 16) of.Path hops
  delay ← whole_at (2 ^ 64) of.Delay json
  tau ← whole_at (2 ^ 64) of.Tau json
  Ok (record { vc = vc; path = path; delay = delay; tau = tau })

-- ports with their capacities, and connections, before anybody asks whether they are a net
abbrev pub net_in : Json → Read Topology
net_in json = do
  ports ← items_at of.Ports json
  capacities ← numbers_in (2 ^ 64) of.Ports ports
  items ← items_at of.Connections json
  conns ← each conn_in items
  Ok (record { capacities = capacities; conns = conns })
