-- With the names of the lifelines that are left there will be all names.
use Rattle.std.proofs.Common.{◌≡◌, ◌++◌, drop, string_bytes}
use Rattle.abt_draw.specs.Ladders.{kinds_text}
use Rattle.abt_draw.proofs.ladder.push_kinds.Given as goal

abbrev pub invariant-loop-actor : goal.invariant-loop-actor
invariant-loop-actor l =
    string_bytes l.out ++ kinds_text (drop l.actor-index l.columns) ≡ string_bytes l.initial.out ++ kinds_text l.columns
