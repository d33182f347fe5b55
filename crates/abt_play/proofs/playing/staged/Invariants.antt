-- What happened so far can be played.
use Rattle.abt_play.specs.Stage.{IsOnStage}
use Rattle.abt_play.proofs.playing.staged.Given as goal

abbrev pub invariant-loop-turn : goal.invariant-loop-turn
invariant-loop-turn l = IsOnStage l.net l.player.stage
