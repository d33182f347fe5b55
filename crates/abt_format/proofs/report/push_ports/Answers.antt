use Rattle.std.proofs.Common.{◌≡◌, ◌≤◌, min, length, drop, arith, length-drop, sym, ◌∙◌, append-nil, []}
use Rattle.abt_format.specs.Report.{port_lines}
use Rattle.abt_format.proofs.Pairs.{port_lines-end}
use Rattle.abt_format.proofs.report.push_ports.Goals as goal

pub returns : goal.returns
returns c =
    let i = c.loop-index.index in
    let ended : min (length (drop i c.args.totals.now)) (length (drop i c.args.capacities.now)) ≤ 0 =
    rw (length-drop i c.args.totals.now, length-drop i c.args.capacities.now) (omega (arith, c.loop-index-test.false, c.min-index-end.ensures)) in
    let none : port_lines i (drop i c.args.totals.now) (drop i c.args.capacities.now) ≡ [] = port_lines-end i _ _ ended in
    sym (append-nil _) ∙ rw none at c.loop-index.invariant
