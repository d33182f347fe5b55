-- One step more.
use Rattle.std.proofs.Common.{arith, subst}
use Rattle.std.proofs.lemmas.List.{take_all}
use Rattle.abt_derive.specs.Serves.{IsServedOfAll}
use Rattle.abt_derive.proofs.Serving.{serves_next}
use Rattle.abt_derive.proofs.served.add_steps.Goals as goal

pub loop-step-preserved : goal.loop-step-preserved
loop-step-preserved c =
    serves_next c.args.net.now c.args.port c.args.steps.now c.loop-step.step-index c.step-item.result c.args.served.now c.loop-step.served c.add_step.new.served
    c.loop-step-test.true c.step-item.is c.loop-step.invariant c.in_ok-add_step.ensures

pub returns : goal.returns
returns c =
    subst (λ steps. IsServedOfAll c.args.net.now c.args.port steps c.args.served.now c.loop-step.served)
    (take_all c.loop-step.step-index c.args.steps.now (omega (arith, c.loop-step-test.false))) c.loop-step.invariant
