-- The objects so far, and those of the lines that are left, are all.
use Rattle.std.proofs.Common.{◌≡◌, ◌++◌, drop, vec_items}
use Rattle.abt_audit.specs.Objects.{note_objects}
use Rattle.abt_audit.proofs.objects.add_note_objects.Given as goal

abbrev pub invariant-loop-spot : goal.invariant-loop-spot
invariant-loop-spot l = vec_items l.text ++ note_objects (drop l.spot-index l.cuts) ≡ vec_items l.initial.text ++ note_objects l.cuts
