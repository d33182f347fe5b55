-- Each word so far says its number.
use Rattle.std.proofs.Common.{List, ℕ, map, take}
use Rattle.std.specs.Borrow.{Bor}
use Rattle.abt_cli.specs.Words.{AreNumbers}
use Rattle.abt_cli.proofs.readers.numbers_of.Given as goal

abbrev pub invariant-loop-word : goal.invariant-loop-word
invariant-loop-word l = AreNumbers (map (λ (word : Bor (List ℕ)). word.now) (take l.word-index l.words)) l.numbers.items
