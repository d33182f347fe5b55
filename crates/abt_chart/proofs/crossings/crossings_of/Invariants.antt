-- What the events so far bring and send, and what is known behind them.
use Rattle.std.proofs.Common.{◌+◌}
use Rattle.abt_chart.specs.Before.{IsBefore}
use Rattle.abt_chart.specs.Charts.{AreCrossings}
use Rattle.abt_chart.proofs.crossings.crossings_of.Given as goal

abbrev pub invariant-loop-index : goal.invariant-loop-index
invariant-loop-index l = IsBefore l.told (l.first + l.index) l.before × AreCrossings l.told l.first l.index l.crossings
