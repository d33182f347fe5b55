-- The text so far, and the lines of the connections that are left, are the whole text.
use Rattle.std.proofs.Common.{◌≡◌, ◌++◌, drop, string_bytes}
use Rattle.abt_format.specs.Report.{conn_lines}
use Rattle.abt_format.proofs.report.push_conns.Given as goal

abbrev pub invariant-loop-index : goal.invariant-loop-index
invariant-loop-index l =
    string_bytes l.text ++ conn_lines l.index (drop l.index l.rates) (drop l.index l.held) ≡ string_bytes l.initial.text ++ conn_lines 0 l.rates l.held
