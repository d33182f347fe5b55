-- The text has only grown, and each entry so far has its row.
use Rattle.std.proofs.Common.{◌≡◌, ◌<◌, ℕ, string_bytes}
use Rattle.std.specs.Prelude.{Some, slice_get}
use Rattle.abt_draw.specs.Stuck.{HasStuckRow}
use Rattle.abt_draw.specs.Within.{Grows}
use Rattle.abt_draw.specs.declared.scene.StuckMark.{StuckMark}
use Rattle.abt_draw.proofs.stuck.push_stuck.Given as goal

abbrev pub invariant-loop-place : goal.invariant-loop-place
invariant-loop-place l = record {
  grows : Grows (string_bytes l.initial.out) (string_bytes l.out);
  rows : (k : ℕ) (mark : StuckMark) → k < l.place → slice_get l.sheet.stuck.now k ≡ Some mark → HasStuckRow l.sheet k mark (string_bytes l.out);
}
