use Rattle.std.proofs.Common.{ℕ, ap, get_or, ◌∙◌}
use Rattle.abt_journal.specs.Receipts.{Seated}
use Rattle.abt_journal.specs.declared.input.PortInput.{PortInput}
use Rattle.abt_journal.specs.declared.input.PortInput.TheVariants.{Capacity}
use Rattle.abt_links.proofs.Handed.{handed-more, port_there}
use Rattle.abt_links.proofs.operator.operator_worker.Goals as goal

pub loop-operation-preserved : goal.loop-operation-preserved
loop-operation-preserved g c =
    let i : ℕ = c.loop-operation.operation-index in
    let o : ℕ × ℕ = get_or c.args.operations.now i (0, 0) in
    let port = port_there c.args.net.now c.args.cells.now o.0 c.from.result c.index-cells-from.result c.requires.cells (c.requires.ports i (0, 0) c.loop-operation-test.true) c.from.ensures c.index-cells-from.is in
    let hand : ℕ → ℕ × PortInput = λ p. (p, Capacity o.1) in
    let its = c.in_ok-set_capacity.ensures.receipt in
    let grown = its.is in (
      ap (λ (s : Seated). s.caller) grown ∙ c.loop-operation.invariant.0,
      handed-more c.args.operations.now i c.loop-operation.seat.receipts c.set_capacity.new.seat.receipts _ c.loop-operation-test.true (ap (λ (s : Seated). s.receipts) grown) (ap hand port) c.loop-operation.invariant.1,
    )
