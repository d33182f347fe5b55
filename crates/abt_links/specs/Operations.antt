-- The operations of the operator of a net (docs/RULES.md, "Workers").
use Rattle.std.specs.Prelude.{◌≡◌, ◌<◌, ◌==◌, ℕ, List, map, length, All}
use Rattle.std.specs.List.{filter}
use Rattle.abt_net.specs.Topology.{Topology}
use Rattle.abt_journal.specs.declared.entry.Receipt.{Receipt}
use Rattle.abt_journal.specs.declared.input.PortInput.{PortInput}
use Rattle.abt_journal.specs.declared.input.PortInput.TheVariants.{Capacity}

-- The net has each port that is given a capacity.
abbrev pub AreForPorts : Topology → List (ℕ × ℕ) → Type 0
AreForPorts net operations = All (λ o. o.0 < length net.capacities) operations

-- the port and the input of an operation
abbrev pub handed_by : ℕ × ℕ → ℕ × PortInput
handed_by o = (o.0, Capacity o.1)

-- the input and the port of a receipt
abbrev pub handed_in : Receipt → ℕ × PortInput
handed_in r = (r.port, r.entry.input)

-- The receipts are those for a list of operations: in its order, each once.
abbrev pub AreReceiptsFor : List (ℕ × ℕ) → List Receipt → Type 0
AreReceiptsFor operations receipts = map handed_in receipts ≡ map handed_by operations

-- what a list of operations hands to one port, in its order
abbrev pub handed_to : ℕ → List (ℕ × ℕ) → List PortInput
handed_to port operations = map (λ o. Capacity o.1) (filter (λ o. o.0 == port) operations)
