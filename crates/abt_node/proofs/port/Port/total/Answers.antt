use Rattle.std.proofs.Common.{sym, ap, ◌∙◌}
use Rattle.abt_node.specs.Table.{sum_of}
use Rattle.abt_node.proofs.RowsLemmas.{sum_of-connections_of}
use Rattle.abt_node.proofs.port.Port.total.Goals as goal

pub returns-clause-value : goal.returns-clause-value
returns-clause-value c =
    c.total.ensures.value ∙ c.self.invariant.kept.counted
    ∙ sym (sum_of-connections_of c.self.inside.rows.items c.self.invariant.kept.distinct) ∙ ap sum_of c.self.view_is
