use Rattle.std.proofs.Common.{refl, subst}
use Rattle.abt_net.specs.Faults.{IsFirstFault}
use Rattle.abt_net.specs.Topology.{Topology}
use Rattle.abt_journal_text.proofs.Causes.{net_cause}
use Rattle.abt_journal_text.proofs.entering.net_of.Goals as goal

pub returns-in-Err-clause-err : goal.returns-in-Err-clause-err
returns-in-Err-clause-err c =
    net_cause c.args.draft c.in-Err.fault c.cause_of_net.result c.cause_of_net.ensures
    (λ other. subst (λ (net : Topology). IsFirstFault net c.in-Err.fault) c.draft.view_is ((c.in-Err.ensures.err c.in-Err.fault other).0 refl))
