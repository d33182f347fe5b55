-- It is that of the events so far.
use Rattle.abt_chart.specs.Before.{IsBefore}
use Rattle.abt_chart.proofs.before.Before.of.Given as goal

abbrev pub invariant-loop-earlier : goal.invariant-loop-earlier
invariant-loop-earlier l = IsBefore l.told l.earlier l.before
