use Rattle.abt_links.specs.SourceWorkers.{Listened, StaysHome, worked}
use Rattle.abt_links.proofs.source_worker.SourceWorker.listen.Given as goal

abbrev pub invariant-loop-turn : goal.invariant-loop-turn
invariant-loop-turn g l = Listened l.initial.self.site.vc l.initial.self.site.conn l._turn (worked l.initial.self) (worked l.self) × StaysHome l.initial.self.site l.self.site
