-- The places are those from the events so far on.
use Rattle.std.proofs.Common.{◌-◌, length}
use Rattle.abt_chart.specs.Behind.{AreNext}
use Rattle.abt_chart.proofs.behind.places_from.Given as goal

abbrev pub invariant-loop-back : goal.invariant-loop-back
invariant-loop-back l = AreNext l.told (length l.told - l.back) l.places
