-- With the moments of the events that are left there will be the whole scale.
use Rattle.std.proofs.Common.{◌≡◌, drop}
use Rattle.std.specs.Prelude.{None, fold}
use Rattle.abt_draw.specs.Cells.{with_event}
use Rattle.abt_draw.proofs.moment.scale_of.Given as goal

abbrev pub invariant-loop-told : goal.invariant-loop-told
invariant-loop-told l = fold (with_event l.only) l.scale (drop l.told-index l.shown) ≡ fold (with_event l.only) None l.shown
