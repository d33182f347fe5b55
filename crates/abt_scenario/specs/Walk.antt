-- The walk of a scenario's keys: what stands at them, or the first fault (docs/FORMATS.md, "Scenario").
use Rattle.std.specs.Prelude.{ℕ, ◌^◌, List, [], ◌∷◌, map, Option, Some, None, Ok, Err, String, Vec}
use Rattle.std.specs.Borrow.{Bor}
use Rattle.std.specs.BTreeMap.{BTreeMap}
use Rattle.std.specs.declared.alloc.Global.{Global}
use Rattle.toml.specs.Data.{Data, Items, Members, array, table, no_items, item, get_member}
use Rattle.toml.specs.View.{table_view, items_view}
use Rattle.toml.specs.declared.value.Value.{Value}
use Rattle.toml.specs.Parse.{parse_document}
use Rattle.abt_net.specs.declared.conn.Conn.{Conn}
use Rattle.abt_text.specs.Text.{Text}
use Rattle.abt_scenario.specs.declared.key.Key.TheVariants.{Ports, Connection, Vpi, Vci, Path, Delay, Tau, Script, Events, Operator}
use Rattle.abt_scenario.specs.declared.fault.ScenarioFault.TheVariants.{Toml, WrongType}
use Rattle.abt_scenario.specs.declared.draft.Draft.{Draft}
use Rattle.abt_scenario.specs.declared.draft.Connections.{Connections}
use Rattle.abt_scenario.specs.Keys.{key_name}
use Rattle.abt_text.specs.FirstFault.{◌>>=◌}
use Rattle.abt_scenario.specs.Reading.{Read, texts_seen}
use Rattle.abt_scenario.specs.Values.{member_at, whole_of, numbers_of, texts_at, texts_among}

-- The connections, and beside each the texts of its script.
pub record ConnectionsRead : Type 0 where
  pub conns : List Conn
  pub scripts : List (List Text)

-- What stands at a scenario's keys, before anybody asks whether it is a net, and what its texts say.
pub record DraftRead : Type 0 where
  pub capacities : List ℕ
  pub connections : ConnectionsRead
  pub events : List Text
  pub operations : List Text

-- the connection of a table, but for its script
abbrev pub conn_in : Members → Read Conn
conn_in members = do
  at_vpi ← member_at Vpi members
  vpi ← whole_of 4096 Vpi at_vpi
  at_vci ← member_at Vci members
  vci ← whole_of (2 ^ 16) Vci at_vci
  at_path ← member_at Path members
  path ← numbers_of (2 ^ 16) Path at_path
  at_delay ← member_at Delay members
  delay ← whole_of (2 ^ 63) Delay at_delay
  at_tau ← member_at Tau members
  tau ← whole_of (2 ^ 63) Tau at_tau
  Ok (record { vc = record { vpi = vpi; vci = vci }; path = path; delay = delay; tau = tau })

-- a connection and its script before others
abbrev pub with_connection : Conn → List Text → ConnectionsRead → ConnectionsRead
with_connection conn script others = record { conns = conn ∷ others.conns; scripts = script ∷ others.scripts }

-- the connections of some tables, and their scripts
abbrev pub connections_in : List Members → Read ConnectionsRead
connections_in [] = Ok (record { conns = []; scripts = [] })
connections_in (members ∷ tables) = do
  conn ← conn_in members
  script ← texts_at Script members
  others ← connections_in tables
  Ok (with_connection conn script others)

abbrev pub table_of : Data → Read Members
table_of (table members) = Ok members
table_of _ = Err (WrongType Connection)

abbrev pub tables_in : Items → Read (List Members)
tables_in no_items = Ok []
tables_in (item value values) = do
  members ← table_of value
  tables ← tables_in values
  Ok (members ∷ tables)

-- an array of tables, which may be missing
abbrev pub tables_of : Option Data → Read (List Members)
tables_of None = Ok []
tables_of (Some (array values)) = tables_in values
tables_of (Some _) = Err (WrongType Connection)

abbrev pub tables_at : Members → Read (List Members)
tables_at members = tables_of (get_member (key_name Connection) members)

-- the keys in their order
abbrev pub draft_in : Members → Read DraftRead
draft_in members = do
  at_ports ← member_at Ports members
  capacities ← numbers_of (2 ^ 63) Ports at_ports
  tables ← tables_at members
  connections ← connections_in tables
  events ← texts_at Events members
  operations ← texts_at Operator members
  Ok (record { capacities = capacities; connections = connections; events = events; operations = operations })

-- the table of a text that is TOML
abbrev pub read_document : Option Members → Read Members
read_document (Some members) = Ok members
read_document None = Err Toml

-- what stands at the keys of a text, or the first fault
abbrev pub draft_of : Text → Read DraftRead
draft_of text = do
  members ← read_document (parse_document text)
  draft_in members

-- ---- the same, not seen by where it lies in memory

abbrev pub scripts_seen : List (Vec (Bor Text) Global) → List (List Text)
scripts_seen scripts = map texts_seen scripts

abbrev pub tables_seen : Vec (Bor (BTreeMap (String Global) Value)) Global → List Members
tables_seen tables = map (λ table. table_view table.now) tables.items

abbrev pub connections_seen : Connections → ConnectionsRead
connections_seen connections = record { conns = connections.conns.items; scripts = scripts_seen connections.scripts.items }

abbrev pub draft_seen : Draft → DraftRead
draft_seen draft = record {
  capacities = draft.capacities.items;
  connections = connections_seen draft.connections;
  events = texts_among (items_view draft.events.now);
  operations = texts_among (items_view draft.operations.now);
}
