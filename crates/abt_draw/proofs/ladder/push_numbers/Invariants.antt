-- With the numbers of the lifelines that are left there will be all numbers.
use Rattle.std.proofs.Common.{◌≡◌, ◌++◌, drop, string_bytes}
use Rattle.abt_draw.specs.Ladders.{numbers_text}
use Rattle.abt_draw.proofs.ladder.push_numbers.Given as goal

abbrev pub invariant-loop-actor : goal.invariant-loop-actor
invariant-loop-actor l =
    string_bytes l.out ++ numbers_text (drop l.actor-index l.sheet.columns.now) ≡ string_bytes l.initial.out ++ numbers_text l.sheet.columns.now
