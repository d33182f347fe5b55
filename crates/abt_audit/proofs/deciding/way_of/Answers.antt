-- The entries fit so far as they stand.
use Rattle.abt_audit.proofs.Stopped.{farthest_still}
use Rattle.abt_audit.proofs.deciding.way_of.Goals as goal

pub returns : goal.returns
returns c = record {
  settled = c.are_unstored.ensures c.if-not-are_unstored.false;
  reach = c.reach-count.ensures;
  farthest = λ yes. farthest_still c.args.vc c.args.ahead.now c.args.entries.now c.reach-count.result (c.are_above-is_farthest.ensures yes) c.reach-count.ensures;
}
