-- The text has only grown, and each port so far that has a column has its band.
use Rattle.std.proofs.Common.{◌≡◌, ◌<◌, ℕ, string_bytes}
use Rattle.std.specs.Prelude.{Some, slice_get}
use Rattle.abt_draw.specs.Bands.{HasPortBand}
use Rattle.abt_draw.specs.Within.{Grows}
use Rattle.abt_draw.specs.declared.actor.Actor.TheVariants.{Port}
use Rattle.abt_draw.proofs.picture.push_ports.Given as goal

abbrev pub invariant-loop-column : goal.invariant-loop-column
invariant-loop-column l = record {
  grows : Grows (string_bytes l.initial.out) (string_bytes l.out);
  bands : (k port : ℕ) → k < l.column → slice_get l.columns k ≡ Some (Port port) → HasPortBand l.sheet port (string_bytes l.out);
}
