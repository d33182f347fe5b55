-- Each piece that was read goes out with its answers.
use Rattle.std.proofs.Common.{take}
use Rattle.abt_records.proofs.Pieces.{made_and_written, of_made, on_err, err_holds}
use Rattle.abt_records.proofs.Fed.{all_served, counted_first, counted_more, part_counted, part_ended, part_fed}
use Rattle.abt_records.proofs.serving.serve_records.Goals as goal

pub returns-clause-err : goal.returns-clause-err
returns-clause-err g c = part_counted _ _ _ _ _ _ _ _ c.loop-read.invariant

pub returns-in_err-count-clause-err : goal.returns-in_err-count-clause-err
returns-in_err-count-clause-err g c = err_holds _ _ (part_counted _ _ _ _ _ _ _ _ c.loop-read.invariant)

pub returns-then-count-eq0-clause-ok : goal.returns-then-count-eq0-clause-ok
returns-then-count-eq0-clause-ok g c =
    made_and_written _ _ _ _ _ c.write_out.ensures.made c.write_out.ensures.ok c.end-ended.ensures.ok
    (λ went all. all_served _ _ _ _ _ _ _ _ _ _ _ _ c.loop-read.invariant (rw c.if-count-eq0.true at c.in_ok-count.ensures.ok)
    (c.in_ok-count.ensures.end c.if-count-eq0.true) went all)

pub returns-then-count-eq0-clause-err : goal.returns-then-count-eq0-clause-err
returns-then-count-eq0-clause-err g c =
    on_err _ _ _ c.write_out.ensures.err
    (λ went. part_ended _ c.end-ended.result _ _ _ _ _ _ _ _ _ _ _ c.loop-read.invariant (rw c.if-count-eq0.true at c.in_ok-count.ensures.ok)
    (c.in_ok-count.ensures.end c.if-count-eq0.true) went c.end-ended.ensures.ok c.end-ended.ensures.err)

pub returns-in_err-write_out-clause-err : goal.returns-in_err-write_out-clause-err
returns-in_err-write_out-clause-err g c =
    err_holds _ _ (part_fed _ c.feed-fed.result _ _ _ _ _ _ _ _ _ _ _ (take c.in_ok-count.count c.read_some.new.room) _ c.loop-read.invariant
    c.in_ok-count.ensures.ok c.in_err-write_out.ensures.err c.feed-fed.ensures.ok c.feed-fed.ensures.err)

pub loop-read-preserved : goal.loop-read-preserved
loop-read-preserved g c =
    counted_more _ _ _ _ _ _ _ _ _ _ _ _ (take c.in_ok-count.count c.read_some.new.room) _ c.loop-read.invariant c.in_ok-count.ensures.ok
    c.in_ok-write_out.ensures.ok (of_made _ _ c.in_ok-write_out.ensures.made c.feed-fed.ensures.ok)
