-- An octet more of the piece is taken, or isn't.
use Rattle.abt_records.proofs.Fed.{fed_all, fed_none, fed_part, fed_take}
use Rattle.abt_records.proofs.Pieces.{err_holds}
use Rattle.abt_records.proofs.serving.feed.Goals as goal

pub loop-octet-preserved : goal.loop-octet-preserved
loop-octet-preserved g c =
    fed_take g.S.RecordServer.steps _ _ _ _ _ _ c.args.piece.now _ _ _ c.loop-octet.octet-index c.loop-octet.invariant c.loop-octet-test.true
    c.in_ok-take.ensures.ok

pub returns-clause-ok : goal.returns-clause-ok
returns-clause-ok g c =
    fed_all g.S.RecordServer.steps _ _ _ _ c.args.piece.now _ _ c.loop-octet.octet-index c.loop-octet-test.false c.loop-octet.invariant

pub returns-in_err-take-clause-err : goal.returns-in_err-take-clause-err
returns-in_err-take-clause-err g c =
    err_holds _ _ (fed_part g.S.RecordServer.steps _ _ _ _ c.args.piece.now _ _ c.loop-octet.octet-index c.loop-octet.invariant c.in_err-take.ensures.err)
