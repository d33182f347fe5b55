use Rattle.std.proofs.Common.{sym, ap, ◌∙◌}
use Rattle.std.specs.FinMap as map
use Rattle.abt_journal.specs.Journaled.{Journaled}
use Rattle.abt_journal.proofs.Reopening.{len-reopened}
use Rattle.abt_journal.proofs.state.PortState.count.Goals as goal

pub returns : goal.returns
returns c =
    c.count.ensures ∙ sym (len-reopened c.self.inside.opening_capacity c.self.inside.port) ∙ ap (λ (s : Journaled). map.len s.opening.connections) c.self.view_is
