-- One entry more is taken.
use Rattle.std.proofs.Common.{[]}
use Rattle.abt_model.specs.PortTable.{port_table}
use Rattle.abt_audit.proofs.Whys.{change_on}
use Rattle.abt_audit.proofs.why.numbers_after.Goals as goal

pub loop-place-preserved : goal.loop-place-preserved
loop-place-preserved c =
    change_on (port_table c.args.net.now [] c.args.id) c.args.entries.now c.args.input.now c.loop-place.place c.index-entries-place.result
    c.loop-place.port c.serve.new.port c.loop-place.numbers c.numbers_at-next.result c.loop-place.last c.later-last.result c.is_same.result
    c.loop-place-test.true c.index-entries-place.is c.loop-place.invariant.0 c.loop-place.invariant.1 c.serve.ensures.table c.numbers_at-next.ensures
    c.is_same.ensures c.later-last.ensures c.loop-place.invariant.2
