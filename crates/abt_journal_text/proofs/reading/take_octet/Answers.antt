-- The octet isn't added.
use Rattle.std.proofs.Common.{rules}
use Rattle.abt_journal_text.proofs.Lines.{added_fails}
use Rattle.abt_journal_text.proofs.reading.take_octet.Goals as goal

pub returns-in-Err-clause-err : goal.returns-in-Err-clause-err
returns-in-Err-clause-err c =
    added_fails c.args.begun.now.spot c.args.book.now c.args.begun.now.octets.items c.args.octet c.in-Err.cause c.fault_at.result (search rules)
    c.args.begun.now.whole (search rules) c.in-Err.ensures.err
