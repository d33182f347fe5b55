-- The net stands at the events so far.
use Rattle.std.proofs.Common.{take}
use Rattle.abt_step.specs.Steps.{WorksAt}
use Rattle.abt_step.proofs.net_at_work.NetAtWork.opened.Given as goal

abbrev pub invariant-loop-event : goal.invariant-loop-event
invariant-loop-event l = WorksAt l.net (take l.event-index l.events) l.work
