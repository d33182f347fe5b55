-- The entries are looked at under the plan, and are as they were behind that.
use Rattle.std.proofs.Common.{refl, subst}
use Rattle.std.specs.Prelude.{IfSome}
use Rattle.abt_audit.specs.Deciding.{IsWay}
use Rattle.abt_audit.proofs.Settled.{put_back}
use Rattle.abt_audit.proofs.deciding.way_under.Goals as goal

pub returns-clause-same : goal.returns-clause-same
returns-clause-same c =
    put_back c.args.place c.args.entries.now c.index-entries-place.result c.plan_of-kept.result c.args.plan c.plan_at.new.entries c.plan_at.new.entries
    c.plan_at-2.new.entries c.requires c.plan_of-kept.ensures c.plan_at.ensures refl c.plan_at-2.ensures

pub returns-clause-value : goal.returns-clause-value
returns-clause-value c = subst (λ es. IfSome c.way_of-way.result (IsWay c.args.vc c.args.ahead.now es)) c.plan_at.ensures c.way_of-way.ensures
