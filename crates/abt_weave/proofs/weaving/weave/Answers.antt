use Rattle.std.proofs.Common.{rules, ◌≡◌, subst, IfOk, List}
use Rattle.abt_journal.specs.declared.entry.Entry.{Entry}
use Rattle.abt_model.specs.Run.{facts_after}
use Rattle.abt_weave.specs.Progress.{journaled}
use Rattle.abt_weave.specs.Leaving.{LeavesAsJournaled}
use Rattle.abt_weave.proofs.weaving.weave.Goals as goal

pub returns-clause-leaves : goal.returns-clause-leaves
returns-clause-leaves c =
    let same : (journaled c.as_slice.result.now c.args.sources.now).ports ≡ c.args.journals.now = search rules in
    subst (λ (ports : List (List Entry)). IfOk c.weave_given.result (λ events. LeavesAsJournaled c.args.net.now ports c.args.sources.now (facts_after c.args.net.now events))) same
    c.weave_given.ensures.leaves
