use Rattle.std.proofs.Common.{ap, ◌∙◌}
use Rattle.abt_journal.specs.Receipts.{seen_at}
use Rattle.abt_links.proofs.port_cell.PortCellOf+NotKept.serve.Goals as goal

pub returns-clause-wound : goal.returns-clause-wound
returns-clause-wound g c = λ seen found is.
    let h = (c.take.ensures.wound seen found).0 is in
    (h.0 ∙ ap (λ p. seen_at p c.args.seat.now.receipts) (ap (λ s. s.port) c.deref_mut.ensures.value ∙ c.enter-station.ensures), h.2)
