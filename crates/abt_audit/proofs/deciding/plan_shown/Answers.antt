-- What the two ways show is right.
use Rattle.std.proofs.Common.{sym, subst}
use Rattle.std.specs.Prelude.{IfSome}
use Rattle.abt_keep.specs.declared.plan.StorePlan.TheVariants.{FailsAfter}
use Rattle.abt_audit.specs.Deciding.{IsWay}
use Rattle.abt_audit.specs.Settling.{Prefers, planned}
use Rattle.abt_audit.proofs.Stopped.{shown_right}
use Rattle.abt_audit.proofs.deciding.plan_shown.Goals as goal

pub returns-clause-value : goal.returns-clause-value
returns-clause-value c =
    let entries = c.args.entries.now in
    subst (λ plan. IfSome plan (Prefers c.args.vc c.args.place c.args.ahead.now entries)) (sym c.shown_by.ensures)
    (shown_right c.args.vc c.args.place c.args.ahead.now entries c.in_ok-before.before c.in_ok-after.after c.in_ok-before.ensures.value
    (subst (λ es. IsWay c.args.vc c.args.ahead.now (planned FailsAfter c.args.place es) c.in_ok-after.after) c.way_under.ensures.same c.in_ok-after.ensures.value))
