-- The headline holds of what the world stands for.
use Rattle.abt_play.proofs.stage.Stage.end.Goals as goal

pub returns-clause-headline : goal.returns-clause-headline
returns-clause-headline c = λ net staged before after is. c.in_ok-trace.ensures.headline net c.args.self.events staged.stands before after is
