-- The words so far, and those of the rest, are the words of the text.
use Rattle.std.proofs.Common.{◌≡◌, ◌≤◌, ◌++◌, map, length, take}
use denote.Text.{Utf8}
use denote.Shadow.{shadow}
use Rattle.abt_text.specs.Words.{words_of}
use Rattle.abt_text.proofs.spaced.words_of.Given as goal

abbrev pub invariant-loop-word : goal.invariant-loop-word
invariant-loop-word l = shadow (Utf8 l.rest)
    × (map (λ word. word.now) (take l.count l.room) ++ words_of l.rest ≡ words_of l.text)
    × (l.count ≤ length l.room)
    × (length l.room ≡ length l.initial.room)

abbrev pub decreases-loop-word : goal.decreases-loop-word
decreases-loop-word l = length l.rest
