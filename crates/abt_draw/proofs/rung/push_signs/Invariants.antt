-- With the signs at the places that are left there will be all signs.
use Rattle.std.proofs.Common.{◌≡◌, ◌++◌, ◌-◌, string_bytes}
use Rattle.abt_draw.specs.Rungs.{signs_from}
use Rattle.abt_draw.proofs.rung.push_signs.Given as goal

abbrev pub invariant-loop-place : goal.invariant-loop-place
invariant-loop-place l =
    string_bytes l.out ++ signs_from l.stroke l.marked l.place (l.count - l.place) ≡ string_bytes l.initial.out ++ signs_from l.stroke l.marked 0 l.count
