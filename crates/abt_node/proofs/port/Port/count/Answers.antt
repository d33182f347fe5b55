use Rattle.std.proofs.Common.{sym, ap, ◌∙◌, rules}
use Rattle.std.specs.FinMap as map
use Rattle.abt_node.proofs.RowsLemmas.{len-connections_of}
use Rattle.abt_node.proofs.port.Port.count.Goals as goal

pub returns : goal.returns
returns c =
    search rules ∙ sym (len-connections_of c.self.inside.rows.items c.self.invariant.kept.distinct) ∙ ap (λ t. map.len t.connections) c.self.view_is
