-- The text so far, and the objects of the warnings that are left, are the whole text.
use Rattle.std.proofs.Common.{◌≡◌, ◌++◌, drop, option_map}
use Rattle.abt_check.specs.CheckObjects.{warning_objects}
use Rattle.abt_check.proofs.objects.push_warnings.Given as goal

abbrev pub invariant-loop-warning : goal.invariant-loop-warning
invariant-loop-warning l =
    l.text.items ++ warning_objects (option_map (λ name. name.now) l.file) l.source (drop l.warning-index l.warnings) ≡ l.initial.text.items ++ warning_objects (option_map (λ name. name.now) l.file) l.source l.warnings
