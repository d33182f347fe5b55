-- What holds of a run that keeps its history.
use Rattle.std.specs.Prelude.{Bool, true, false}

abbrev pub When : Bool → Type 0 → Type 0
When true A = A
When false A = Unit {0}
