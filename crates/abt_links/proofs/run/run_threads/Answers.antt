use Rattle.std.proofs.Common.{rules}
use Rattle.abt_links.specs.Operations.{AreForPorts}
use Rattle.abt_links.specs.Runs.{HasWorkers, ScriptsFit}
use Rattle.abt_links.specs.declared.fault.RunFault.TheVariants.{Workers, Scripts, Operator, Wound}
use Rattle.abt_links.proofs.Promised.{late_at}
use Rattle.abt_links.proofs.run.run_threads.Goals as goal

pub returns-clause-workers : goal.returns-clause-workers
returns-clause-workers g c =
    let has : HasWorkers c.args.plan = search rules in
    (λ is. absurd (late_at c.run_over.result Workers c.run_over.ensures.late is), λ no. absurd (no has))

pub returns-clause-scripts : goal.returns-clause-scripts
returns-clause-scripts g c =
    let fit : ScriptsFit c.args.net.now.conns c.args.scripts.now = search rules in
    (λ is. absurd (late_at c.run_over.result Scripts c.run_over.ensures.late is), λ no. absurd (no.1 fit))

pub returns-clause-operator : goal.returns-clause-operator
returns-clause-operator g c =
    let ports : AreForPorts c.args.net.now c.args.operations.now = search rules in
    (λ is. absurd (late_at c.run_over.result Operator c.run_over.ensures.late is), λ no. absurd (no.2 ports))

pub returns-clause-wound : goal.returns-clause-wound
returns-clause-wound g c = λ seen found is. late_at c.run_over.result (Wound seen found) c.run_over.ensures.late is
