-- The steps of each port go out behind those before them.
use Rattle.std.proofs.Common.{ap, drop, ◌+◌, arith}
use Rattle.abt_journal_text.specs.Lines.{step_lines, ports_lines}
use Rattle.abt_journal_text.proofs.Sending.{goes_out_more, goes_out_stops, goes_out_done, lists_in, next_of, none_left}
use Rattle.abt_journal_text.proofs.entry_lines.put_ports.Goals as goal

pub loop-entries-preserved : goal.loop-entries-preserved
loop-entries-preserved g c =
    let all = c.args.ports.now in
    let i = c.loop-entries.entries-index in
    let port = c.loop-entries.port in
    let one = c.entries-item.result in
    record {
      count = (let same = c.loop-entries.invariant.count in omega (arith, same));
      on = goes_out_more (ports_lines 0 (lists_in all)) (step_lines port one.items) (ports_lines port (lists_in (drop i all)))
          (ports_lines (port + 1) (lists_in (drop (i + 1) all))) _ _ _
          (ap (λ lists. ports_lines port (lists_in lists)) (next_of all i one c.loop-entries-test.true c.entries-item.is)) c.loop-entries.invariant.on
          (rw c.as_slice.ensures.value at c.in_default.ensures);
    }

pub returns-in-Err : goal.returns-in-Err
returns-in-Err g c =
    let all = c.args.ports.now in
    let i = c.loop-entries.entries-index in
    let port = c.loop-entries.port in
    let one = c.entries-item.result in
    goes_out_stops (ports_lines 0 (lists_in all)) (step_lines port one.items) (ports_lines port (lists_in (drop i all)))
    (ports_lines (port + 1) (lists_in (drop (i + 1) all))) c.in-Err.fault _ _ _
    (ap (λ lists. ports_lines port (lists_in lists)) (next_of all i one c.loop-entries-test.true c.entries-item.is)) c.loop-entries.invariant.on
    (rw c.as_slice.ensures.value at c.in-Err.ensures)

pub returns : goal.returns
returns g c =
    let all = c.args.ports.now in
    let i = c.loop-entries.entries-index in
    goes_out_done (ports_lines 0 (lists_in all)) (ports_lines c.loop-entries.port (lists_in (drop i all))) _ _
    (ap (λ lists. ports_lines c.loop-entries.port (lists_in lists)) (none_left all i c.loop-entries-test.false)) c.loop-entries.invariant.on
