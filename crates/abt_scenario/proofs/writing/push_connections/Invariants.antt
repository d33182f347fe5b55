-- The text so far, and the tables of the connections that are left, are the whole text.
use Rattle.std.proofs.Common.{◌≡◌, ◌++◌, drop, string_bytes}
use Rattle.abt_scenario.specs.ScenarioText.{connection_tables}
use Rattle.abt_scenario.proofs.writing.push_connections.Given as goal

abbrev pub invariant-loop-conn : goal.invariant-loop-conn
invariant-loop-conn l =
    string_bytes l.text ++ connection_tables (drop l.conn-index l.conns) ≡ string_bytes l.initial.text ++ connection_tables l.conns
