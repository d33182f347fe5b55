-- Receipts that grow by one operation.
use Rattle.std.proofs.Common.{◌≡◌, ℕ, ◌+◌, ◌<◌, List, [], ◌∷◌, ◌++◌, map, length, take, get_or, Some, sym, ap, ◌∙◌, arith}
use Rattle.std.proofs.lemmas.Option.{slice_get-get_or}
use Rattle.std.proofs.lemmas.List.{take_more, map-append}
use Rattle.abt_net.specs.Topology.{Topology}
use Rattle.abt_journal.specs.declared.entry.Receipt.{Receipt}
use Rattle.abt_links.specs.declared.port_cell.PortCellOf.{PortCellOf}
use Rattle.abt_links.specs.Cells.{AreCellsOf}
use Rattle.abt_links.specs.Operations.{AreReceiptsFor, handed_in, handed_by}

pub handed-more : (operations : List (ℕ × ℕ)) (i : ℕ) (old new : List Receipt) (r : Receipt) → i < length operations → new ≡ old ++ r ∷ [] → handed_in r ≡ handed_by (get_or operations i (0, 0))
    → AreReceiptsFor (take i operations) old → AreReceiptsFor (take (i + 1) operations) new
handed-more operations i old new r below grown handed are =
    let o : ℕ × ℕ = get_or operations i (0, 0) in
    ap (map handed_in) grown ∙ map-append handed_in old (r ∷ [])
    ∙ (λ k. are k ++ handed k ∷ [])
    ∙ sym (ap (map handed_by) (take_more operations i (0, 0) below) ∙ map-append handed_by (take i operations) (o ∷ []))

-- the cell at a port's place has its number
pub port_there : {K F T : Type 0} (net : Topology) (cells : List (PortCellOf K F T)) (port place : ℕ) (cell : PortCellOf K F T) → AreCellsOf net cells → port < length net.capacities → place ≡ port → cell ≡ get_or cells place cell → cell.port ≡ port
port_there {K} {F} {T} net cells port place cell are low at is =
    let within : port < length cells = omega (arith, are.ports, low) in
    are.each port cell (slice_get-get_or cells port cell within ∙ ap Some (ap (λ k. get_or cells k cell) (sym at) ∙ sym is))
