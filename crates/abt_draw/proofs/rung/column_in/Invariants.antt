-- No column so far is theirs.
use Rattle.std.proofs.Common.{◌≡◌, drop}
use Rattle.abt_draw.specs.Rungs.{column_from}
use Rattle.abt_draw.proofs.rung.column_in.Given as goal

abbrev pub invariant-loop-column : goal.invariant-loop-column
invariant-loop-column l = column_from l.column l.who (drop l.column l.columns) ≡ column_from 0 l.who l.columns
