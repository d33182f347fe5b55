-- Cells on their way to a port, by what was seen when they were sent.
use Rattle.std.specs.Prelude.{ℕ, List}
use Rattle.abt_cell.specs.Reading.{Reads}
use Rattle.abt_cell.specs.declared.message.Rm.{Rm}
use Rattle.abt_net.specs.Topology.{Topology}
use Rattle.abt_weave.specs.Projections.{past_of}
use Rattle.abt_serving.specs.Messages.{Lies}
use Rattle.abt_history.specs.declared.deed.Deed.{Deed}
use Rattle.abt_history.specs.Histories.{happened}

-- what contracts see of a cell on its way to a port: with what was seen when it was sent
pub record CellView : Type 0 where
  pub port : ℕ
  pub octets : List ℕ
  pub front : List Deed

-- The message that these octets say was sent to the port.
abbrev pub IsCarried : Topology → List Deed → (port : ℕ) → (octets : List ℕ) → Type 0
IsCarried net front port octets = (message : Rm) → Reads octets message → Lies net (past_of net (happened front)) port message
