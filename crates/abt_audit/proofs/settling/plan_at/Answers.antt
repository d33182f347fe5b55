use Rattle.abt_audit.proofs.Settled.{set_planned}
use Rattle.abt_audit.proofs.settling.plan_at.Goals as goal

pub returns : goal.returns
returns c =
    set_planned c.args.plan c.args.place c.args.entries.now c.index-entries-place.result c.put_under.new.entry c.requires c.put_under.ensures
