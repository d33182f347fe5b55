-- The text so far, and the lines of the warnings that are left, are the whole text.
use Rattle.std.proofs.Common.{◌≡◌, ◌++◌, drop, string_bytes}
use Rattle.abt_check.specs.Located.{warning_lines}
use Rattle.abt_check.proofs.located.push_warnings.Given as goal

abbrev pub invariant-loop-warning : goal.invariant-loop-warning
invariant-loop-warning l =
    string_bytes l.text ++ warning_lines l.name l.source (drop l.warning-index l.warnings) ≡ string_bytes l.initial.text ++ warning_lines l.name l.source l.warnings
