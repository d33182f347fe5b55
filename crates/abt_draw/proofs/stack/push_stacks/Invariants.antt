-- The text has only grown; nothing of the port changed since the part that is next began; and all frames before that are drawn.
use Rattle.std.proofs.Common.{◌≡◌, ◌<◌, ◌≤◌, ℕ, length, string_bytes}
use Rattle.std.specs.Prelude.{Some, slice_get}
use Rattle.abt_chart.specs.declared.frame.Frame.{Frame}
use Rattle.abt_draw.specs.Bands.{DrawsPort, stack_in, capacity_in}
use Rattle.abt_draw.specs.Within.{Grows}
use Rattle.abt_draw.proofs.Banded.{SamePort, SameTo}
use Rattle.abt_draw.proofs.stack.push_stacks.Given as goal

abbrev pub invariant-loop-place : goal.invariant-loop-place
invariant-loop-place l = record {
  grows : Grows (string_bytes l.initial.out) (string_bytes l.out);
  same : SameTo (SamePort l.port) l.frames l.first l.place;
  drawn : (k : ℕ) (frame : Frame) → k < l.first → slice_get l.frames k ≡ Some frame
      → DrawsPort l.band.base l.band.most (stack_in frame l.port) (capacity_in frame l.port) (string_bytes l.out);
  all : length l.frames ≤ l.place → l.first ≡ l.place;
}
