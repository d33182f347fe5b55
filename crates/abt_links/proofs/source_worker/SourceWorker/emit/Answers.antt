use Rattle.std.proofs.Common.{ap, ◌∙◌}
use Rattle.abt_history.specs.Sites.{SiteView}
use Rattle.abt_links.specs.CommandEffects.{arrival_of}
use Rattle.abt_links.specs.SourceWorkers.{worked}
use Rattle.abt_links.proofs.Acting.{cell_allowed, goes_first}
use Rattle.abt_links.proofs.Doing.{unemitted_at, lost_at, arrives_at}
use Rattle.abt_links.proofs.source_worker.SourceWorker.emit.Goals as goal

pub receive-requires-clause-first : goal.receive-requires-clause-first
receive-requires-clause-first g c =
    let k = g.K.Keeping in
    goes_first k.kept k.net c.args.line.now.conn.now c.args.self.now.site.conn c.args.line.now.cell.now.port c.carry_out.new.self.site c.requires.line c.in_ok-outcome.ensures.place.0

pub receive-requires-clause-can : goal.receive-requires-clause-can
receive-requires-clause-can g c =
    let k = g.K.Keeping in
    let shape = c.in-Some.ensures.shape in
    cell_allowed k.kept k.net c.carry_out.new.self.site c.in_ok-outcome.outcome c.args.line.now.conn.now c.args.self.now.site.conn c.args.line.now.cell.now.port c.in-Some.cell c.args.now c.in-Some-jitter.jitter c.arrival_of-at.result c.arrived.result shape.0
    shape.1 c.in_ok-outcome.ensures.allows c.requires.line c.in_ok-outcome.ensures.place.0 (c.requires.jitter c.in-Some-jitter.jitter c.in-Some-jitter.is) c.arrived.ensures c.arrival_of-at.ensures

pub returns-in_default-clause-ok : goal.returns-in_default-clause-ok
returns-in_default-clause-ok g c =
    let old = c.args.self.now in
    unemitted_at c.args.line.now.conn.now old.site.vc old.site.conn c.args.line.now.cell.now.port c.args.now c.args.jitter (worked old) c.in_ok-outcome.outcome (worked c.carry_out.new.self)
    c.requires.vc c.in_ok-outcome.ensures.done c.in_default.ensures.value

pub returns-in_default-jitter-clause-ok : goal.returns-in_default-jitter-clause-ok
returns-in_default-jitter-clause-ok g c =
    let old = c.args.self.now in
    lost_at c.args.line.now.conn.now old.site.vc old.site.conn c.args.line.now.cell.now.port c.args.now c.args.jitter (worked old) c.in_ok-outcome.outcome (worked c.carry_out.new.self)
    c.requires.vc c.in_default-jitter.is c.in_ok-outcome.ensures.done

pub returns-clause-ok : goal.returns-clause-ok
returns-clause-ok g c =
    let old = c.args.self.now in
    let mid = c.carry_out.new.self in
    let site = c.in_ok-receive.ensures.site in
    let same = c.in_ok-outcome.ensures.place.1 ∙ c.requires.vc in
    arrives_at c.args.line.now.conn.now old.site.vc old.site.conn c.args.line.now.cell.now.port c.args.now c.args.jitter c.in-Some-jitter.jitter (worked old) c.in_ok-outcome.outcome (worked mid) _
    c.requires.vc c.in-Some-jitter.is c.in_ok-outcome.ensures.done c.in-Some.cell c.in-Some.ensures.value c.arrival_of-at.result (c.arrival_of-at.ensures ∙ ap (λ a. arrival_of c.args.line.now.conn.now a c.args.now c.in-Some-jitter.jitter) c.arrived.ensures)
    c.in_ok-receive.field-0.0 c.in_ok-receive.field-0.1 mid.site.vc same (ap (λ (s : SiteView). s.actor) site) c.in_ok-receive.ensures.receipt (ap (λ (s : SiteView). s.entries) site) (ap (λ (s : SiteView). s.arrived) site)
