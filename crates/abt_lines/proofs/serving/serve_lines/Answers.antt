-- Each piece that was read goes out with its answers.
use Rattle.std.proofs.Common.{take, arith, length-take}
use Rattle.abt_lines.proofs.Pieces.{made_and_written, of_made, on_err, err_holds, if_err-from}
use Rattle.abt_lines.proofs.Fed.{counted_more}
use Rattle.abt_lines.proofs.Stopped.{all_served, part_counted, part_ended, part_fed, stopped_long, stopped_read, stopped_fed, stopped_write, stopped_end, stopped_end_write, of_either, of_fault, of_made_fault}
use Rattle.abt_lines.proofs.serving.serve_lines.Goals as goal

pub returns-clause-err : goal.returns-clause-err
returns-clause-err g c = part_counted _ _ _ _ _ _ _ _ _ _ _ c.loop-read.invariant

pub returns-in_err-count-clause-err : goal.returns-in_err-count-clause-err
returns-in_err-count-clause-err g c = err_holds _ _ (part_counted _ _ _ _ _ _ _ _ _ _ _ c.loop-read.invariant)

pub returns-then-count-eq0-clause-ok : goal.returns-then-count-eq0-clause-ok
returns-then-count-eq0-clause-ok g c =
    made_and_written _ _ _ _ _ c.write_out.ensures.made c.write_out.ensures.ok c.end-ended.ensures.ok
    (λ went all. all_served _ _ _ _ _ _ _ _ _ _ _ _ _ _ _ c.loop-read.invariant (rw c.if-count-eq0.true at c.in_ok-count.ensures.ok)
    (c.in_ok-count.ensures.end c.if-count-eq0.true) went all)

pub returns-then-count-eq0-clause-err : goal.returns-then-count-eq0-clause-err
returns-then-count-eq0-clause-err g c =
    on_err _ _ _ c.write_out.ensures.err
    (λ went. part_ended _ _ c.end-ended.result _ _ _ _ _ _ _ _ _ _ _ _ _ c.loop-read.invariant (rw c.if-count-eq0.true at c.in_ok-count.ensures.ok)
    (c.in_ok-count.ensures.end c.if-count-eq0.true) went c.end-ended.ensures.ok c.end-ended.ensures.fault)

pub returns-in_err-write_out-clause-err : goal.returns-in_err-write_out-clause-err
returns-in_err-write_out-clause-err g c =
    err_holds _ _ (part_fed _ _ c.feed-fed.result _ _ _ _ _ _ _ _ _ _ _ _ _ (take c.in_ok-count.count c.read_some.new.room) _ _ c.loop-read.invariant
    c.in_ok-count.ensures.ok c.in_err-write_out.ensures.err c.feed-fed.ensures.ok c.feed-fed.ensures.err)

pub loop-read-preserved : goal.loop-read-preserved
loop-read-preserved g c =
    counted_more _ _ _ _ _ _ _ _ _ _ _ _ _ _ (take c.in_ok-count.count c.read_some.new.room) _ _ c.loop-read.invariant c.in_ok-count.ensures.ok
    c.in_ok-write_out.ensures.ok (of_made _ _ c.in_ok-write_out.ensures.made c.feed-fed.ensures.ok)
    (omega (arith, length-take c.in_ok-count.count c.read_some.new.room, c.if-count-eq0.false, c.in_ok-count.ensures.within))

pub returns-clause-fault : goal.returns-clause-fault
returns-clause-fault g c = stopped_long _ _ _ _ _ _ _ _ _ _ _ c.loop-read.invariant (omega (arith, c.loop-read-test.false))

pub returns-in_err-count-clause-fault : goal.returns-in_err-count-clause-fault
returns-in_err-count-clause-fault g c =
    if_err-from c.from_residual.result _ _ (λ fault is. rw is (stopped_read _ _ _ _ _ _ _ _ _ _ _ _ c.loop-read.invariant c.in_err-count.ensures.err))
    c.from_residual.ensures.1

pub returns-then-count-eq0-clause-fault : goal.returns-then-count-eq0-clause-fault
returns-then-count-eq0-clause-fault g c =
    let none = rw c.if-count-eq0.true at c.in_ok-count.ensures.ok in
    let ended = c.in_ok-count.ensures.end c.if-count-eq0.true in
    of_fault c.write_out.result c.end-ended.result _ _ _ c.write_out.ensures.fault
    (λ went. stopped_end_write g.S.LineServer.steps g.S.LineServer.ends c.end-ended.result _ _ _ _ _ _ _ _ _ _ _ _ _ c.loop-read.invariant none ended went c.end-ended.ensures.ok c.end-ended.ensures.fault)
    (λ fault told went. stopped_end g.S.LineServer.steps g.S.LineServer.ends _ _ _ _ _ _ _ _ _ _ _ _ fault c.loop-read.invariant none ended went
    (of_made_fault c.end-ended.result fault _ told c.end-ended.ensures.fault))

pub returns-in_err-write_out-clause-fault : goal.returns-in_err-write_out-clause-fault
returns-in_err-write_out-clause-fault g c =
    let piece = take c.in_ok-count.count c.read_some.new.room in
    let stopped = of_either c.in_err-write_out.field-0.0 c.feed-fed.result _ _ _ c.in_err-write_out.ensures.fault
    (λ went. stopped_write g.S.LineServer.steps g.S.LineServer.ends c.feed-fed.result _ _ _ _ _ _ _ _ _ _ _ _ _ piece _ _ c.loop-read.invariant c.in_ok-count.ensures.ok went
    c.feed-fed.ensures.ok c.feed-fed.ensures.err)
    (λ fault told went. stopped_fed g.S.LineServer.steps g.S.LineServer.ends _ _ _ _ _ _ _ _ _ _ piece _ _ fault c.loop-read.invariant c.in_ok-count.ensures.ok went
    (of_made_fault c.feed-fed.result fault _ told c.feed-fed.ensures.err)) in
    if_err-from c.from_residual-in_err-write_out.result _ _ (λ fault is. rw is stopped) c.from_residual-in_err-write_out.ensures.1
