use Rattle.abt_links.specs.SourceWorkers.{worked}
use Rattle.abt_links.proofs.Running.{starts, crashes, listens, asks_so}
use Rattle.abt_links.proofs.source_worker.SourceWorker.obey.Goals as goal

pub returns-in_ok-carry_out-in-Start-clause-ok : goal.returns-in_ok-carry_out-in-Start-clause-ok
returns-in_ok-carry_out-in-Start-clause-ok g c =
    let old = c.args.self.now in
    rw c.in-Start.is (starts c.args.line.now.conn.now old.site.vc old.site.conn c.args.line.now.cell.now.port c.in-Start.now (worked old) _ (worked c.carry_out.new.self) c.requires.vc c.in_ok-carry_out-in-Start.ensures.done)

pub returns-in_ok-request-in-Ask-clause-ok : goal.returns-in_ok-request-in-Ask-clause-ok
returns-in_ok-request-in-Ask-clause-ok g c =
    let old = c.args.self.now in
    rw c.in-Ask.is (asks_so c.args.line.now.conn.now old.site.vc old.site.conn c.args.line.now.cell.now.port _ (worked old) _ c.requires.vc c.in_ok-request-in-Ask.ensures.ok)

pub returns-in_ok-request-in-Again-clause-ok : goal.returns-in_ok-request-in-Again-clause-ok
returns-in_ok-request-in-Again-clause-ok g c =
    let old = c.args.self.now in
    rw c.in-Again.is (asks_so c.args.line.now.conn.now old.site.vc old.site.conn c.args.line.now.cell.now.port _ (worked old) _ c.requires.vc c.in_ok-request-in-Again.ensures.ok)

pub returns-in_ok-carry_out-in-Crash-clause-ok : goal.returns-in_ok-carry_out-in-Crash-clause-ok
returns-in_ok-carry_out-in-Crash-clause-ok g c =
    let old = c.args.self.now in
    rw c.in-Crash.is (crashes c.args.line.now.conn.now old.site.vc old.site.conn c.args.line.now.cell.now.port (worked old) _ (worked c.carry_out-in-Crash.new.self) c.requires.vc c.in_ok-carry_out-in-Crash.ensures.done)

pub returns-in_ok-emit-in-Emit-clause-ok : goal.returns-in_ok-emit-in-Emit-clause-ok
returns-in_ok-emit-in-Emit-clause-ok g c = rw c.in-Emit.is c.in_ok-emit-in-Emit.ensures.ok

pub returns-in_ok-listen-in-Listen-clause-ok : goal.returns-in_ok-listen-in-Listen-clause-ok
returns-in_ok-listen-in-Listen-clause-ok g c =
    let old = c.args.self.now in
    rw c.in-Listen.is (listens c.args.line.now.conn.now old.site.vc old.site.conn c.args.line.now.cell.now.port c.in-Listen.turns (worked old) (worked c.listen.new.self) c.requires.vc c.in_ok-listen-in-Listen.ensures.ok)
