-- The texts so far, and the words that are left, are all.
use Rattle.std.proofs.Common.{◌≡◌, ◌++◌, List, ℕ, drop, map, string_bytes}
use Rattle.std.specs.Borrow.{Bor}
use Rattle.abt_cli.proofs.readers.texts_of.Given as goal

abbrev pub invariant-loop-word : goal.invariant-loop-word
invariant-loop-word l =
    map string_bytes l.texts.items ++ map (λ (word : Bor (List ℕ)). word.now) (drop l.word-index l.words) ≡ map (λ (word : Bor (List ℕ)). word.now) l.words
