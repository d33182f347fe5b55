use Rattle.std.proofs.Common.{ap, ◌∙◌}
use Rattle.std.specs.Prelude.{Err}
use Rattle.abt_links.proofs.Wounds.{handed_on}
use Rattle.abt_links.proofs.port_cell.PortCellOf.deliver.Goals as goal

pub returns-in_err-reply-clause-wound : goal.returns-in_err-reply-clause-wound
returns-in_err-reply-clause-wound g c = λ seen found is.
    let same = handed_on c.from_residual.result c.in_err-reply.field-0.0 seen found c.from_residual.ensures.1 is in
    ((c.serve.ensures.wound seen found).0 (c.in_err-reply.was ∙ ap Err same)).2
