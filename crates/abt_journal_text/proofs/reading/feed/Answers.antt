-- Each octet goes on.
use Rattle.abt_journal_text.proofs.Lines.{goes_on_stays, goes_on_take, goes_on_all, fails_in_piece}
use Rattle.abt_journal_text.proofs.reading.feed.Goals as goal

pub loop-octet-init : goal.loop-octet-init
loop-octet-init c = goes_on_stays c.args.begun.now.spot c.args.book.now c.args.begun.now.octets.items

pub loop-octet-preserved : goal.loop-octet-preserved
loop-octet-preserved c =
    goes_on_take _ _ _ _ _ _ _ _ _ c.args.piece.now c.loop-octet.octet-index c.loop-octet.invariant c.loop-octet-test.true c.in_default.ensures.ok

pub returns-clause-ok : goal.returns-clause-ok
returns-clause-ok c = goes_on_all _ _ _ _ _ _ c.args.piece.now c.loop-octet.octet-index c.loop-octet-test.false c.loop-octet.invariant

pub returns-in-Err-clause-err : goal.returns-in-Err-clause-err
returns-in-Err-clause-err c =
    fails_in_piece _ _ _ _ _ _ c.args.piece.now c.loop-octet.octet-index c.in-Err.fault c.loop-octet.invariant c.loop-octet-test.true c.in-Err.ensures.err
