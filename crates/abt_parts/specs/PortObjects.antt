-- What `abt port --json` prints of cells that are words (docs/FORMATS.md, "Parts by hand").
use Rattle.std.specs.Prelude.{ℕ, List, map, Option, Some, Ok}
use Rattle.abt_node.specs.Table.{new_table}
use Rattle.abt_perform.specs.Names.{fault_line}
use Rattle.abt_perform.specs.Plans.{EndsTextBy, Tells}
use Rattle.abt_perform.specs.declared.fault.Fault.{Fault}
use Rattle.abt_text.specs.Text.{Text}
use Rattle.abt_parts.specs.PartObjects.{served_objects}

-- a cell is answered as on a line; the port is number 0, without connections
abbrev pub port_objects : (capacity : ℕ) → (cells : List Text) → Text
port_objects capacity cells = served_objects (new_table 0 capacity) 1 (map Some cells)

-- Objects that aren't all printed: why, what went out of them, and what was told.
pub record AreUnprinted (capacity : ℕ) (cells : List Text) (old new errors_old errors_new : Option Text) : Type 0 where
  pub fault : Fault
  pub printed : EndsTextBy fault (Ok (port_objects capacity cells)) old new
  pub told : Tells (fault_line fault) errors_old errors_new
