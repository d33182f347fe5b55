-- The text so far, and that of what is left, are the whole text.
use Rattle.std.proofs.Common.{◌≡◌, ◌++◌, drop, string_bytes}
use Rattle.abt_step.specs.PossibleWords.{windows_text}
use Rattle.abt_step.proofs.possible_words.push_windows.Given as goal

abbrev pub invariant-loop-window : goal.invariant-loop-window
invariant-loop-window l = string_bytes l.text ++ windows_text (drop l.window-index l.windows) ≡ string_bytes l.initial.text ++ windows_text l.windows
