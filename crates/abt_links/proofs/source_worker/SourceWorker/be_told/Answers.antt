use Rattle.abt_links.specs.SourceWorkers.{worked}
use Rattle.abt_links.proofs.Hearing.{listened_none, listened_longer}
use Rattle.abt_links.proofs.source_worker.SourceWorker.be_told.Goals as goal

pub returns-in-None-clause-ok : goal.returns-in-None-clause-ok
returns-in-None-clause-ok g c =
    let old = c.args.self.now in
    listened_longer old.site.vc old.site.conn 0 (worked old) (worked old) (listened_none old.site.vc old.site.conn (worked old))
