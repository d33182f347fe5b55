-- One entry more is told.
use Rattle.abt_derive.proofs.Telling.{told_by_next}
use Rattle.abt_derive.proofs.told.Told.of.Goals as goal

pub loop-before-preserved : goal.loop-before-preserved
loop-before-preserved c =
    told_by_next c.args.entries.now c.loop-before.before c.index-entries-before.result c.loop-before.told c.take.new.self c.loop-before-test.true
    c.index-entries-before.is c.loop-before.invariant c.in_ok-take.ensures
