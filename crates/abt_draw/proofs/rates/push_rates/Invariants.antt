-- The text has only grown; nothing of the source changed since the part that is next began; and all frames before that are drawn.
use Rattle.std.proofs.Common.{◌≡◌, ◌<◌, ◌≤◌, ℕ, length, string_bytes}
use Rattle.std.specs.Prelude.{Some, slice_get}
use Rattle.abt_chart.specs.declared.frame.Frame.{Frame}
use Rattle.abt_draw.specs.Bands.{DrawsSource, rate_in, least_in}
use Rattle.abt_draw.specs.Within.{Grows}
use Rattle.abt_draw.proofs.Banded.{SameSource, SameTo}
use Rattle.abt_draw.proofs.rates.push_rates.Given as goal

abbrev pub invariant-loop-place : goal.invariant-loop-place
invariant-loop-place l = record {
  grows : Grows (string_bytes l.initial.out) (string_bytes l.out);
  same : SameTo (SameSource l.conn) l.frames l.first l.place;
  drawn : (k : ℕ) (frame : Frame) → k < l.first → slice_get l.frames k ≡ Some frame
      → DrawsSource l.band.base l.band.most (rate_in frame l.conn) (least_in frame l.conn) (string_bytes l.out);
  all : length l.frames ≤ l.place → l.first ≡ l.place;
}
