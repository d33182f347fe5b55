-- The notes so far, and those that are left, are all.
use Rattle.std.proofs.Common.{◌≡◌, ◌++◌, drop, vec_items}
use Rattle.abt_audit.specs.Names.{note_lines}
use Rattle.abt_audit.proofs.naming.add_notes.Given as goal

abbrev pub invariant-loop-spot : goal.invariant-loop-spot
invariant-loop-spot l = vec_items l.text ++ note_lines (drop l.spot-index l.cuts) ≡ vec_items l.initial.text ++ note_lines l.cuts
