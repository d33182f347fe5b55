-- What contracts see of a port with its journal.
use Rattle.std.specs.Prelude.{List}
use Rattle.abt_node.specs.Table.{Table}
use Rattle.abt_journal.specs.declared.entry.Entry.{Entry}

-- the table that the port had at first, the one that it has, and the steps between
pub record Journaled : Type 0 where
  pub opening : Table
  pub table : Table
  pub entries : List Entry
