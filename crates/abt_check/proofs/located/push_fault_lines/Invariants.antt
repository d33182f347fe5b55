-- The text so far, and the lines of the faults that are left, are the whole text.
use Rattle.std.proofs.Common.{◌≡◌, ◌++◌, drop, string_bytes}
use Rattle.abt_check.specs.Located.{fault_lines}
use Rattle.abt_check.proofs.located.push_fault_lines.Given as goal

abbrev pub invariant-loop-found : goal.invariant-loop-found
invariant-loop-found l =
    string_bytes l.text ++ fault_lines l.name l.source (drop l.found-index l.faults) ≡ string_bytes l.initial.text ++ fault_lines l.name l.source l.faults
