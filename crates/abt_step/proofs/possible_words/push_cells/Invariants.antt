-- The text so far, and that of what is left, are the whole text.
use Rattle.std.proofs.Common.{◌≡◌, ◌++◌, drop, string_bytes}
use Rattle.abt_step.specs.PossibleWords.{cells_text}
use Rattle.abt_step.proofs.possible_words.push_cells.Given as goal

abbrev pub invariant-loop-windows : goal.invariant-loop-windows
invariant-loop-windows l = string_bytes l.text ++ cells_text (drop l.windows-index l.cells) ≡ string_bytes l.initial.text ++ cells_text l.cells
