-- A line more of the piece is answered, or isn't.
use Rattle.std.proofs.Common.{refl}
use Rattle.abt_lines.proofs.Pieces.{if_err-from}
use Rattle.abt_lines.proofs.Fed.{cut_first, cut_more, cut_part, cut_whole, line_shorter, line_some}
use Rattle.abt_lines.specs.declared.fault.LinesFault.TheVariants.{Memory}
use Rattle.abt_lines.proofs.serving.feed.Goals as goal

pub loop-line-init : goal.loop-line-init
loop-line-init g c = cut_first g.S.LineServer.steps _ _ _ _ _ c.clear.ensures.bytes

pub loop-line-preserved : goal.loop-line-preserved
loop-line-preserved g c =
    let (parts, other) = c.in-Some.ensures.some in
    cut_more g.S.LineServer.steps _ _ _ _ _ _ _ _ _ _ _ c.in-Some.line.now c.in-Some.more.now _ _ c.loop-line.invariant parts c.in_ok-answer.ensures.ok
    c.in_ok-answer.ensures.number c.loop-line.begun.whole other c.in_ok-answer.ensures.next

pub loop-line-smaller : goal.loop-line-smaller
loop-line-smaller g c =
    let (parts, other) = c.in-Some.ensures.some in line_shorter _ c.in-Some.line.now _ parts

pub returns-clause-ok : goal.returns-clause-ok
returns-clause-ok g c =
    cut_whole g.S.LineServer.steps _ _ _ _ _ _ _ _ _ _ _ c.loop-line.invariant c.in_ok-add.ensures.number (c.in_default.ensures.none refl) c.in_ok-add.ensures.ok

pub returns-in_err-answer-clause-err : goal.returns-in_err-answer-clause-err
returns-in_err-answer-clause-err g c =
    let (parts, other) = c.in-Some.ensures.some in
    let part = cut_part g.S.LineServer.steps _ _ _ _ _ _ _ _ _ _ c.in_err-answer.field-0.0 c.loop-line.invariant
    (line_some _ c.in-Some.line.now c.in-Some.more.now parts) c.in_err-answer.ensures.err c.in_err-answer.ensures.fault in
    if_err-from c.from_residual.result _ _ (λ fault is. rw is part) c.from_residual.ensures.1

pub returns-in_err-add-clause-err : goal.returns-in_err-add-clause-err
returns-in_err-add-clause-err g c =
    let part = cut_part g.S.LineServer.steps _ _ _ _ _ _ _ _ _ _ Memory c.loop-line.invariant c.in_err-add.ensures.some refl tt in
    if_err-from c.from_residual-in_err-add.result _ _ (λ fault is. rw is part) c.from_residual-in_err-add.ensures.1
