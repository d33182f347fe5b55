use Rattle.std.proofs.Common.{sym, ap, subst, ◌∙◌}
use Rattle.std.specs.Option.{option_map}
use Rattle.abt_node.specs.Table.{connection_at}
use Rattle.abt_journal.specs.Journaled.{Journaled}
use Rattle.abt_journal.specs.Opening.{IsOpening, tau_of}
use Rattle.abt_journal.proofs.Reopening.{tau-reopened, reopened-IsOpening}
use Rattle.abt_journal.proofs.state.PortState.tau.Goals as goal

pub returns-clause-value : goal.returns-clause-value
returns-clause-value c =
    c.tau.ensures ∙ sym (tau-reopened c.self.inside.opening_capacity c.self.inside.port c.args.vc)
    ∙ ap (λ (s : Journaled). option_map tau_of (connection_at s.opening c.args.vc)) c.self.view_is

pub returns-clause-opening : goal.returns-clause-opening
returns-clause-opening c =
    subst (λ (s : Journaled). IsOpening s.opening) c.self.view_is (reopened-IsOpening c.self.inside.opening_capacity c.self.inside.port)
