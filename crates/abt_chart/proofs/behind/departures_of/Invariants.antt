-- What the events so far send, and the places from them on.
use Rattle.std.proofs.Common.{◌-◌}
use Rattle.abt_chart.specs.Behind.{AreNext, AreSendings}
use Rattle.abt_chart.proofs.behind.departures_of.Given as goal

abbrev pub invariant-loop-back : goal.invariant-loop-back
invariant-loop-back l = AreNext l.told (l.end - l.back) l.places × AreSendings l.told l.end l.back l.departures
