-- The text has only grown, and each source so far that has a column has its band.
use Rattle.std.proofs.Common.{◌≡◌, ◌<◌, ℕ, string_bytes}
use Rattle.std.specs.Prelude.{Some, slice_get}
use Rattle.abt_draw.specs.Bands.{HasSourceBand}
use Rattle.abt_draw.specs.Within.{Grows}
use Rattle.abt_draw.specs.declared.actor.Actor.TheVariants.{Source}
use Rattle.abt_draw.proofs.picture.push_sources.Given as goal

abbrev pub invariant-loop-column : goal.invariant-loop-column
invariant-loop-column l = record {
  grows : Grows (string_bytes l.initial.out) (string_bytes l.out);
  bands : (k c : ℕ) → k < l.column → slice_get l.columns k ≡ Some (Source c) → HasSourceBand l.sheet c (string_bytes l.out);
}
