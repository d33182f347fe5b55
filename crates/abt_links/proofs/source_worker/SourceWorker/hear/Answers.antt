use Rattle.abt_links.proofs.Hearing.{heard_once}
use Rattle.abt_links.specs.SourceWorkers.{worked}
use Rattle.abt_links.proofs.source_worker.SourceWorker.hear.Goals as goal

pub returns-clause-ok : goal.returns-clause-ok
returns-clause-ok g c =
    heard_once c.args.self.now.site.vc c.args.self.now.site.conn c.args.answer (worked c.args.self.now) _ (worked c.carry_out.new.self) c.requires.asking c.in_ok-carry_out.ensures.done
