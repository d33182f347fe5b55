-- The text so far, and the objects of the faults that are left, are the whole text.
use Rattle.std.proofs.Common.{◌≡◌, ◌++◌, drop, option_map}
use Rattle.abt_check.specs.CheckObjects.{fault_objects}
use Rattle.abt_check.proofs.objects.push_faults.Given as goal

abbrev pub invariant-loop-found : goal.invariant-loop-found
invariant-loop-found l =
    l.text.items ++ fault_objects (option_map (λ name. name.now) l.file) l.source (drop l.found-index l.faults) ≡ l.initial.text.items ++ fault_objects (option_map (λ name. name.now) l.file) l.source l.faults
