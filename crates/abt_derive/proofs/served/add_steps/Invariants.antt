-- What the steps so far serve stands behind what was served.
use Rattle.std.proofs.Common.{take}
use Rattle.abt_derive.specs.Serves.{IsServedOfAll}
use Rattle.abt_derive.proofs.served.add_steps.Given as goal

abbrev pub invariant-loop-step : goal.invariant-loop-step
invariant-loop-step l = IsServedOfAll l.net l.port (take l.step-index l.steps) l.initial.served l.served
