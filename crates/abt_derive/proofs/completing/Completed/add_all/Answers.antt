-- One derived entry more is added.
use Rattle.std.proofs.Common.{arith, subst}
use Rattle.std.proofs.lemmas.List.{take_all}
use Rattle.abt_derive.specs.Completes.{HasMore, derived_lines}
use Rattle.abt_derive.proofs.Growing.{has_none, has_more_on}
use Rattle.abt_derive.proofs.completing.Completed.add_all.Goals as goal

pub loop-one-init : goal.loop-one-init
loop-one-init c = (λ spots entries is. is, has_none c.args.self.now)

pub loop-one-preserved : goal.loop-one-preserved
loop-one-preserved c = (
  λ spots entries is. c.in_ok-add.ensures.grows spots entries (c.loop-one.invariant.0 spots entries is),
  has_more_on c.args.first.now c.args.derived.now c.loop-one.one-index c.one-item.result c.args.self.now c.loop-one.self c.add.new.self
      c.loop-one-test.true c.one-item.is c.loop-one.invariant.1 c.in_ok-add.ensures.more,
)

pub returns-clause-grows : goal.returns-clause-grows
returns-clause-grows c = c.loop-one.invariant.0

pub returns-clause-more : goal.returns-clause-more
returns-clause-more c =
    subst (λ ones. HasMore (derived_lines c.args.first.now ones) c.args.self.now c.loop-one.self)
    (take_all c.loop-one.one-index c.args.derived.now (omega (arith, c.loop-one-test.false))) c.loop-one.invariant.1
