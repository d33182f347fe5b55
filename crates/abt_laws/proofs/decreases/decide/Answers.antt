use Rattle.std.proofs.Common.{◌≡◌, ◌≤◌, ◌∙◌, sym, subst}
use Rattle.abt_node.specs.Table.{sum_of}
use Rattle.abt_laws.proofs.PortDecrease.{refused_again}
use Rattle.abt_laws.proofs.decreases.decide.Goals as goal

pub returns-clause-decrease : goal.returns-clause-decrease
returns-clause-decrease c answer same refused =
    let table = c.args.port.now in
    let within : sum_of table ≤ table.capacity = subst (λ n. n ≤ table.capacity) c.total-total.ensures.value c.total-total.ensures.within in
    refused_again table c.args.request.now answer (sym c.request.ensures.value ∙ refused) same within
