-- The text so far, and the lines of the events that are left, are the whole text.
use Rattle.std.proofs.Common.{◌≡◌, ◌+◌, ◌++◌, drop, map, string_bytes}
use Rattle.abt_check.specs.Tests.{difference_lines}
use Rattle.abt_check.proofs.testing.push_differences.Given as goal

abbrev pub invariant-loop-index : goal.invariant-loop-index
invariant-loop-index l =
    string_bytes l.text ++ difference_lines (l.index + 1) (drop l.index l.outcomes) (map string_bytes (drop l.index l.texts))
    ≡ string_bytes l.initial.text ++ difference_lines 1 l.outcomes (map string_bytes l.texts)
