-- With the events that are left there will be all levels and all rows, and there are no more rows than events so far.
use Rattle.std.proofs.Common.{◌≡◌, ◌≤◌, ◌++◌, drop}
use Rattle.abt_draw.specs.Levels.{has_row, levels_from, rows_after}
use Rattle.abt_draw.proofs.level.levels_of.Given as goal

abbrev pub invariant-loop-event : goal.invariant-loop-event
invariant-loop-event l =
    (l.levels ++ levels_from (has_row l.only l.net l.columns) l.rows (drop l.event-index l.events) ≡ levels_from (has_row l.only l.net l.columns) 0 l.events)
    × (rows_after (has_row l.only l.net l.columns) l.rows (drop l.event-index l.events) ≡ rows_after (has_row l.only l.net l.columns) 0 l.events)
    × (l.rows ≤ l.event-index)
