-- What is asked for is done.
use Rattle.std.proofs.Common.{◌∙◌, ap, refl, subst}
use Rattle.std.specs.Io.KnownBytes.{Appends}
use Rattle.abt_live.specs.SourceJournal.{done_line}
use Rattle.abt_live.specs.SourceSaid.{outcome_said}
use Rattle.abt_live.specs.SourceSteps.{Carries}
use Rattle.abt_live.proofs.SourceDeeds.{carried, refused, unstarted}
use Rattle.abt_live.proofs.source_lines.SourceLines.act.Goals as goal

pub returns-in_default-happen-clause-ok : goal.returns-in_default-happen-clause-ok
returns-in_default-happen-clause-ok g c =
    let vc = c.args.self.now.vc in
    let can = c.in_default.ensures.none in
    let same = c.in_ok-announce.ensures.same in
    let none = c.in_default-happen.ensures.none vc can in
    unstarted g.J.Write.contents c.args.self.now _ c.args.asked.now _ can none.0
    refl (none.1 ∙ same.source) c.in_ok-announce.ensures.ok same.conn same.vc

pub returns-clause-ok : goal.returns-clause-ok
returns-clause-ok g c =
    let contents = g.J.Write.contents in
    let vc = c.args.self.now.vc in
    let can = c.in_default.ensures.none in
    let same = c.in_ok-announce.ensures.same in
    let outcome = c.in-Some-happen.outcome in
    carried contents c.args.self.now _ c.args.asked.now _ outcome (contents c.announce.new.self.journal)
    (subst (λ s. Carries vc c.args.asked.now s outcome c.happen.new.source) same.source (c.in-Some-happen.ensures.some vc can))
    (ap (λ t. outcome_said t outcome) c.clock.ensures)
    c.in_ok-announce.ensures.ok
    (subst (λ n. Appends (contents c.announce.new.self.journal) (contents c.log_done.new.journal) (done_line n c.args.asked.now outcome)) same.conn
    c.in_ok-log_done.ensures.ok)
    same.conn same.vc

pub returns-in-Some-clause-ok : goal.returns-in-Some-clause-ok
returns-in-Some-clause-ok g c = refused g.J.Write.contents c.args.self.now c.args.asked.now c.in-Some.fault c.in-Some.ensures.some
