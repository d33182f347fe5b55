-- The line of one entry more is there.
use Rattle.std.proofs.Common.{◌<◌, length, arith}
use Rattle.abt_model.specs.Run.{facts_after}
use Rattle.abt_audit.proofs.WaitingLines.{got_again, lines_on}
use Rattle.abt_audit.proofs.unordered.waiting_texts.Goals as goal

pub loop-stuck-preserved : goal.loop-stuck-preserved
loop-stuck-preserved c =
    let run = c.args.run.now in
    let all = c.args.all.now in
    let i = c.loop-stuck.stuck-index in
    let test = c.loop-stuck-test.true in
    let within = c.loop-stuck.auto.stuck-index-end in
    let low : i < length all = omega arith in
    lines_on c.args.form c.args.names.now run (facts_after run.net c.args.events.now) all i _ c.loop-stuck.text.items c.add_waiting.new.text.items low
    (got_again all i _ _ low) (c.in_ok-add_waiting.ensures c.args.events.now c.in_ok-standing.ensures) c.loop-stuck.invariant
