-- The text so far, and the lines of the outcomes that are left, are the whole text.
use Rattle.std.proofs.Common.{◌≡◌, ◌+◌, ◌++◌, drop, string_bytes}
use Rattle.abt_format.specs.Report.{outcome_lines}
use Rattle.abt_format.proofs.report.push_outcomes.Given as goal

abbrev pub invariant-loop-index : goal.invariant-loop-index
invariant-loop-index l =
    string_bytes l.text ++ outcome_lines (l.index + 1) (drop l.index l.outcomes) ≡ string_bytes l.initial.text ++ outcome_lines 1 l.outcomes
