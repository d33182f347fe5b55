-- The text so far, and the lines of the ports that are left, are the whole text.
use Rattle.std.proofs.Common.{◌≡◌, ◌++◌, drop, string_bytes}
use Rattle.abt_format.specs.Report.{port_lines}
use Rattle.abt_format.proofs.report.push_ports.Given as goal

abbrev pub invariant-loop-index : goal.invariant-loop-index
invariant-loop-index l =
    string_bytes l.text ++ port_lines l.index (drop l.index l.totals) (drop l.index l.capacities) ≡ string_bytes l.initial.text ++ port_lines 0 l.totals l.capacities
