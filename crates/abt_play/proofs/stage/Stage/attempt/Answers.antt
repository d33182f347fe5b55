-- The event is passed over, or has happened.
use Rattle.std.proofs.Common.{arith, rules}
use Rattle.abt_play.proofs.Stages.{happened, passed_over}
use Rattle.abt_play.proofs.stage.Stage.attempt.Goals as goal

pub returns-then-not-is_enabled-clause-stage : goal.returns-then-not-is_enabled-clause-stage
returns-then-not-is_enabled-clause-stage c = λ net staged.
    passed_over net _ _ c.args.event.now c.in_ok-outcome.outcome staged (c.in_ok-outcome.ensures.outcome net _ staged.stands)
    (search rules) (search rules) (search rules)

pub returns-clause-stage : goal.returns-clause-stage
returns-clause-stage c = λ net staged.
    happened net _ _ _ c.args.event.now c.in_ok-outcome.outcome staged (c.in_ok-outcome.ensures.outcome net _ staged.stands)
    c.in_ok-note.ensures.world c.in_ok-note.ensures.events c.in_ok-note.ensures.outcomes (search rules) (omega (arith, c.if-len-ge-EVENTS_MAX.false, c.len.ensures))
