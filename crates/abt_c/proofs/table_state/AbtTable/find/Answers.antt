use Rattle.std.proofs.Common.{rules, arith, refl, ◌≢◌, ◌<◌}
use Rattle.abt_c.specs.Tables.{channel_of}
use Rattle.abt_c.proofs.TableLemmas.{walk_below, walk_goes_on, walk_ends}
use Rattle.abt_c.proofs.table_state.AbtTable.find.Goals as goal

pub returns-then-row-limit-clause-only : goal.returns-then-row-limit-clause-only
returns-then-row-limit-clause-only c is i has =
    let low : c.loop-at.at < c.loop-at.limit =
    walk_below c.args.self.now c.args.vc c.loop-at.at c.loop-at.limit (omega (arith, is.head.2)) (c.loop-at.invariant.walked is) c.loop-at-test.true in
    absurd (omega arith)

pub returns-then-row-limit-clause-whole : goal.returns-then-row-limit-clause-whole
returns-then-row-limit-clause-whole c is =
    let low : c.loop-at.at < c.loop-at.limit =
    walk_below c.args.self.now c.args.vc c.loop-at.at c.loop-at.limit (omega (arith, is.head.2)) (c.loop-at.invariant.walked is) c.loop-at-test.true in
    absurd (omega arith)

pub loop-at-preserved : goal.loop-at-preserved
loop-at-preserved c =
    let other : channel_of c.args.self.now.rows c.from-row.result ≢ c.args.vc = search rules in
    record {
      low = omega arith;
      walked = λ is.
          walk_goes_on c.args.self.now c.args.vc c.loop-at.at c.from-row.result _ c.loop-at.limit is c.loop-at.invariant.low (c.loop-at.invariant.walked is) c.loop-at-test.true (omega arith) (omega arith) other refl;
    }

pub returns-clause-only : goal.returns-clause-only
returns-clause-only c is i has =
    absurd (walk_ends c.args.self.now c.args.vc c.loop-at.at c.loop-at.limit (omega (arith, is.head.2)) (c.loop-at.invariant.walked is) (omega arith) i has.0 has.1)
