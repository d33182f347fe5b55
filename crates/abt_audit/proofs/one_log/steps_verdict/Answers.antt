-- One entry more obeys, or is the first that differs.
use Rattle.std.proofs.Common.{◌∙◌, [], sym, ap}
use Rattle.std.proofs.lemmas.Bool.{false≢true}
use Rattle.abt_model.specs.PortTable.{port_table}
use Rattle.abt_node.specs.Table.{Table}
use Rattle.abt_journal.specs.Replay.{reply_by}
use Rattle.abt_audit.proofs.OneLogs.{differs_there, obeys_more, table_more}
use Rattle.abt_audit.proofs.one_log.steps_verdict.Goals as goal

pub loop-place-preserved : goal.loop-place-preserved
loop-place-preserved c =
    let one = c.index-entries-place.result in
    let inv = c.loop-place.invariant in
    let gives = c.serve-reply.ensures.value ∙ ap (λ (t : Table). reply_by t one.input) inv.0 in (
      table_more (port_table c.args.net.now [] c.args.id) c.loop-place.port c.serve-reply.new.port c.loop-place.place c.args.entries.now one
          c.loop-place-test.true c.index-entries-place.is inv.0 c.serve-reply.ensures.table,
      obeys_more c.args.net.now c.args.id c.loop-place.place c.args.entries.now one c.loop-place-test.true c.index-entries-place.is
          (sym (c.is_same.ensures.0 c.if-not-is_same.false) ∙ gives) inv.1,
    )

pub returns-then-not-is_same : goal.returns-then-not-is_same
returns-then-not-is_same c =
    let one = c.index-entries-place.result in
    let inv = c.loop-place.invariant in
    let gives = c.serve-reply.ensures.value ∙ ap (λ (t : Table). reply_by t one.input) inv.0 in
    record {
      within = c.loop-place-test.true;
      before = inv.1;
      not_there = differs_there c.args.net.now c.args.id c.loop-place.place c.args.entries.now one c.serve-reply.result c.loop-place-test.true
          c.index-entries-place.is gives
          (λ same. (let is = c.is_same.ensures.1 same in absurd (false≢true (sym c.if-not-is_same.true ∙ is))));
    }
