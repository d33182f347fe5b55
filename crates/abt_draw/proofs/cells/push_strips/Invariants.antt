-- With the strips of the columns that are left there will be all strips.
use Rattle.std.proofs.Common.{◌≡◌, ◌++◌, drop, string_bytes}
use Rattle.abt_draw.specs.Cells.{strips_text}
use Rattle.abt_draw.proofs.cells.push_strips.Given as goal

abbrev pub invariant-loop-column : goal.invariant-loop-column
invariant-loop-column l =
    string_bytes l.out ++ strips_text l.sheet l.scale l.y (drop l.column l.columns)
    ≡ string_bytes l.initial.out ++ strips_text l.sheet l.scale l.upper l.columns
