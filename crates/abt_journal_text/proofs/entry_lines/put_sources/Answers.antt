-- The entries of each source go out behind those before them.
use Rattle.std.proofs.Common.{ap, drop, ◌+◌, arith}
use Rattle.abt_journal_text.specs.Lines.{entry_lines, sources_lines}
use Rattle.abt_journal_text.proofs.Sending.{goes_out_more, goes_out_stops, goes_out_done, next_of, none_left}
use Rattle.abt_journal_text.proofs.entry_lines.put_sources.Goals as goal

pub loop-journal-preserved : goal.loop-journal-preserved
loop-journal-preserved g c =
    let all = c.args.sources.now in
    let i = c.loop-journal.journal-index in
    let conn = c.loop-journal.conn in
    let one = c.journal-item.result in
    record {
      count = (let same = c.loop-journal.invariant.count in omega (arith, same));
      on = goes_out_more (sources_lines 0 all) (entry_lines conn one.entries) (sources_lines conn (drop i all)) (sources_lines (conn + 1) (drop (i + 1) all)) _ _ _
          (ap (sources_lines conn) (next_of all i one c.loop-journal-test.true c.journal-item.is)) c.loop-journal.invariant.on
          (rw c.as_slice.ensures at c.in_default.ensures);
    }

pub returns-in-Err : goal.returns-in-Err
returns-in-Err g c =
    let all = c.args.sources.now in
    let i = c.loop-journal.journal-index in
    let conn = c.loop-journal.conn in
    let one = c.journal-item.result in
    goes_out_stops (sources_lines 0 all) (entry_lines conn one.entries) (sources_lines conn (drop i all)) (sources_lines (conn + 1) (drop (i + 1) all)) c.in-Err.fault _ _ _
    (ap (sources_lines conn) (next_of all i one c.loop-journal-test.true c.journal-item.is)) c.loop-journal.invariant.on
    (rw c.as_slice.ensures at c.in-Err.ensures)

pub returns : goal.returns
returns g c =
    let all = c.args.sources.now in
    let i = c.loop-journal.journal-index in
    goes_out_done (sources_lines 0 all) (sources_lines c.loop-journal.conn (drop i all)) _ _
    (ap (sources_lines c.loop-journal.conn) (none_left all i c.loop-journal-test.false)) c.loop-journal.invariant.on
