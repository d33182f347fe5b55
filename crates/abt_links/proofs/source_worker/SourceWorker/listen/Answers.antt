use Rattle.abt_links.specs.SourceWorkers.{worked}
use Rattle.abt_links.proofs.Hearing.{listened_longer, told_again, stays_on}
use Rattle.abt_links.proofs.source_worker.SourceWorker.listen.Goals.{in-Some+in_ok-be_told-in-Some, in-None}
use Rattle.abt_links.proofs.source_worker.SourceWorker.listen.Goals as goal

pub loop-turn-preserved : goal.loop-turn-preserved
loop-turn-preserved g c =
    let old = c.args.self.now in
    let mid = c.loop-turn.self in
    let inv = c.loop-turn.invariant in
    elim c.match-taken_from.branch [
      | in-Some+in_ok-be_told-in-Some w ↦ rw w.self-is (told_again old.site mid.site w.be_told.new.self.site c.loop-turn._turn (worked old) (worked mid) (worked w.be_told.new.self) inv.0 inv.1 w.in_ok-be_told-in-Some.ensures.ok, stays_on old.site mid.site w.be_told.new.self.site inv.1 w.in_ok-be_told-in-Some.ensures.home)
      | in-None w ↦ rw w.self-is (listened_longer old.site.vc old.site.conn c.loop-turn._turn (worked old) (worked mid) inv.0, inv.1)
    ]
