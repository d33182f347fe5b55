use Rattle.std.proofs.Common.{ap, sym, ◌∙◌}
use Rattle.abt_journal_text.specs.Books.{Told}
use Rattle.abt_journal_text.proofs.Causes.{line_cause}
use Rattle.abt_journal_text.proofs.book.Book.take_line.Goals as goal

pub returns-in-Err-clause-err : goal.returns-in-Err-clause-err
returns-in-Err-clause-err c =
    line_cause c.args.self.now c.args.octets.now c.in-Ok.text.now c.in-Err.fault c.cause_of_line.result c.cause_of_line.ensures
    (sym (ap (λ (t : Told). t.ended) c.self.view_is) ∙ c.if-self.false) c.in-Ok.ensures.cases c.in-Err.ensures.err
