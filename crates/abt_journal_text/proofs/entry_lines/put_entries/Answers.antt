-- Each line goes out behind those before it.
use Rattle.std.proofs.Common.{ap, drop, ◌+◌, [], ◌∷◌}
use Rattle.abt_journal_text.specs.Lines.{entry_lines}
use Rattle.abt_journal_text.proofs.Sending.{goes_out_more, goes_out_stops, goes_out_done, next_of, none_left}
use Rattle.abt_journal_text.proofs.entry_lines.put_entries.Goals as goal

pub loop-entry-preserved : goal.loop-entry-preserved
loop-entry-preserved g c =
    let of = entry_lines c.args.conn in
    let all = c.args.entries.now in
    let i = c.loop-entry.entry-index in
    let one = c.entry-item.result in
    goes_out_more (of all) (of (one ∷ [])) (of (drop i all)) (of (drop (i + 1) all)) _ _ _
    (ap of (next_of all i one c.loop-entry-test.true c.entry-item.is)) c.loop-entry.invariant c.in_default.ensures

pub returns-in-Err : goal.returns-in-Err
returns-in-Err g c =
    let of = entry_lines c.args.conn in
    let all = c.args.entries.now in
    let i = c.loop-entry.entry-index in
    let one = c.entry-item.result in
    goes_out_stops (of all) (of (one ∷ [])) (of (drop i all)) (of (drop (i + 1) all)) c.in-Err.fault _ _ _
    (ap of (next_of all i one c.loop-entry-test.true c.entry-item.is)) c.loop-entry.invariant c.in-Err.ensures

pub returns : goal.returns
returns g c =
    let of = entry_lines c.args.conn in
    let all = c.args.entries.now in
    goes_out_done (of all) (of (drop c.loop-entry.entry-index all)) _ _ (ap of (none_left all c.loop-entry.entry-index c.loop-entry-test.false))
    c.loop-entry.invariant
