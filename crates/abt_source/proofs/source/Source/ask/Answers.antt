use Rattle.std.proofs.Common.{ap}
use Rattle.abt_source.specs.SourceView.{SourceView}
use Rattle.abt_source.proofs.Asks.{asked_stands_by, kept_still, kept_newly}
use Rattle.abt_source.proofs.source.Source.ask.Goals as goal

pub returns-in_default-clause-facts : goal.returns-in_default-clause-facts
returns-in_default-clause-facts g c = λ facts mark stands.
    asked_stands_by facts _ c.args.self c.args.rate mark c.next_request-request.result c.self.inside.kept c.waiting.result (c.next_request-request.ensures)
    (kept_still c.args.self c.args.rate c.self.inside.kept c.record_to_write.result c.record_to_write.ensures c.in_default.is
    (ap (λ (s : SourceView). s.kept) c.self.view_is)) c.waiting.ensures stands

pub returns-clause-facts : goal.returns-clause-facts
returns-clause-facts g c = λ facts mark stands.
    asked_stands_by facts _ c.args.self c.args.rate mark c.next_request-request.result c.in-Some.record c.waiting-2.result (c.next_request-request.ensures)
    (kept_newly c.args.self c.args.rate c.in-Some.record c.record_to_write.result c.record_to_write.ensures c.in-Some.is)
    c.waiting-2.ensures stands
