use Rattle.std.proofs.Common.{ap}
use Rattle.abt_history.specs.Sites.{SiteView}
use Rattle.abt_links.specs.SourceWorkers.{worked}
use Rattle.abt_links.proofs.Acting.{request_allowed, goes_first}
use Rattle.abt_links.proofs.Doing.{unsent, sent}
use Rattle.abt_links.proofs.source_worker.SourceWorker.request.Goals as goal

pub receive-requires-clause-first : goal.receive-requires-clause-first
receive-requires-clause-first g c =
    let k = g.K.Keeping in
    goes_first k.kept k.net c.args.line.now.conn.now c.args.self.now.site.conn c.args.line.now.cell.now.port c.carry_out.new.self.site c.requires.line c.in_ok-outcome.ensures.place.0

pub receive-requires-clause-can : goal.receive-requires-clause-can
receive-requires-clause-can g c =
    let k = g.K.Keeping in
    let given = c.requires.given in
    let done = c.in_ok-outcome.ensures.done given.0 given.1 in
    request_allowed k.kept k.net c.carry_out.new.self.site c.args.command.now c.in_ok-outcome.outcome c.args.self.now.site.vc given.0 c.in-Some.request c.requires.command c.in-Some.ensures.shape done.answer c.in_ok-outcome.ensures.allows

pub returns-in_default-clause-ok : goal.returns-in_default-clause-ok
returns-in_default-clause-ok g c facts is =
    let old = c.args.self.now in
    unsent old.site.vc old.site.conn c.args.line.now.cell.now.port facts c.args.command.now (worked old) c.in_ok-outcome.outcome (worked c.carry_out.new.self)
    (c.in_ok-outcome.ensures.done facts is) c.in_default.ensures.value

pub returns-clause-ok : goal.returns-clause-ok
returns-clause-ok g c facts is =
    let old = c.args.self.now in
    let mid = c.carry_out.new.self in
    let site = c.in_ok-reply.ensures.site in
    sent old.site.vc old.site.conn c.args.line.now.cell.now.port facts c.args.command.now (worked old) c.in_ok-outcome.outcome (worked mid) _
    (c.in_ok-outcome.ensures.done facts is) c.in-Some.request c.in-Some.ensures.value c.in_ok-reply.field-0-0 c.in_ok-reply.reply
    (ap (λ (s : SiteView). s.actor) site) c.in_ok-reply.ensures.receipt (ap (λ (s : SiteView). s.entries) site) (ap (λ (s : SiteView). s.arrived) site)
