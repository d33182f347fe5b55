-- The line is taken in, or isn't.
use Rattle.std.proofs.Common.{rules}
use Rattle.abt_journal_text.proofs.Lines.{seen_goes_on, seen_fails}
use Rattle.abt_journal_text.proofs.reading.end_line.Goals as goal

pub returns-in-Err-clause-err : goal.returns-in-Err-clause-err
returns-in-Err-clause-err c =
    seen_fails c.args.begun.now.spot c.args.book.now c.args.begun.now.octets.items c.as_slice.result.now c.in-Err.cause c.fault_at.result c.fault_at.ensures
    c.as_slice.ensures.value (c.args.begun.now.whole, search rules) c.in-Err.ensures.err

pub returns-clause-ok : goal.returns-clause-ok
returns-clause-ok c =
    seen_goes_on c.args.begun.now.spot c.next.new.self.spot c.args.book.now c.take_line.new.self c.args.begun.now.octets.items c.as_slice.result.now
    c.next.new.self.octets.items c.as_slice.ensures.value c.in_default.ensures.ok (c.args.begun.now.whole, search rules)
    c.in_default-next.ensures.spot c.in_default-next.ensures.octets
