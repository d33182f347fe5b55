-- The words of a text, cut at its first space.
use Rattle.std.proofs.Common.{◌≡◌, ◌==◌, inl, inr, ap, ◌∙◌, ℕ, ◌<◌, ◌++◌, List, [], ◌∷◌, length, refl, arith, suc, map, Bor, append_assoc, ◌≤◌, take}
use Rattle.std.proofs.lemmas.List.{map-append, length-take-le, length-map, length-append}
use Rattle.std.proofs.Math.Seq.{take-length}
use Rattle.std.proofs.lemmas.Bool.{ne_eqb, cases_Bool, eqb-true}
use Rattle.abt_text.specs.Words.{Lacks, spaced, words_of, with_octet}

lacks_more : (c : ℕ) (cs : List ℕ) → Lacks 32 (c ∷ cs) → Lacks 32 cs
lacks_more c cs free = λ i l. free (suc i) (omega arith)

pub one_word : (text : List ℕ) → Lacks 32 text → words_of text ≡ text ∷ []
one_word [] free = refl
one_word (c ∷ cs) free = rw (ne_eqb c 32 (free 0 (omega arith)), one_word cs (lacks_more c cs free))

pub first_word : (word more : List ℕ) → Lacks 32 word → words_of (word ++ (32 ∷ more)) ≡ word ∷ words_of more
first_word [] more free = refl
first_word (c ∷ cs) more free = rw (ne_eqb c 32 (free 0 (omega arith)), first_word cs more (lacks_more c cs free))

-- a word more at the end of those that were found is one less at the front of those that are left
pub word_found : (found new : List (Bor (List ℕ))) (word : Bor (List ℕ)) (left all : List (List ℕ)) → new ≡ found ++ word ∷ []
    → map (λ w. w.now) found ++ (word.now ∷ left) ≡ all → map (λ w. w.now) new ++ left ≡ all
word_found found new word left all e h = rw (e, map-append, append_assoc) h

-- where every place has a word and a word is left, there are more words than places
pub words_beyond : (room : List (Bor (List ℕ))) (count : ℕ) (word : List ℕ) (left all : List (List ℕ)) → count ≡ length room
    → map (λ w. w.now) (take count room) ++ (word ∷ left) ≡ all → length room < length all
words_beyond room count word left all full h = rw (← h, full, take-length, length-append, length-map) (omega arith)

-- the words in so many places are at most as many as there are places
pub words_within : (room : List (Bor (List ℕ))) (count : ℕ) (all : List (List ℕ)) → count ≤ length room
    → map (λ w. w.now) (take count room) ≡ all → length all ≤ length room
words_within room count all within h = rw (← h, length-map, length-take-le count room within) within

pub record HasWord (words : List (List ℕ)) : Type 0 where
  first : List ℕ
  others : List (List ℕ)
  are : words ≡ first ∷ others

with_octet-has : (c : ℕ) (words : List (List ℕ)) → HasWord (with_octet c words)
with_octet-has c [] = record { first = c ∷ []; others = []; are = refl }
with_octet-has c (word ∷ words) = record { first = c ∷ word; others = words; are = refl }

-- a text has a word
words_of-has : (text : List ℕ) → HasWord (words_of text)
words_of-has [] = record { first = []; others = []; are = refl }
words_of-has (c ∷ cs) = elim (cases_Bool (c == 32)) [
  | inl is ↦ rw is (record { first = []; others = words_of cs; are = refl })
  | inr other ↦ rw other (with_octet-has c (words_of cs))
]

spaced-octet : (c : ℕ) (words : List (List ℕ)) → spaced (with_octet c words) ≡ c ∷ spaced words
spaced-octet c [] = refl
spaced-octet c (word ∷ []) = refl
spaced-octet c (word ∷ (next ∷ words)) = refl

spaced-behind : (words : List (List ℕ)) → HasWord words → spaced ([] ∷ words) ≡ 32 ∷ spaced words
spaced-behind words has = rw (has.are) refl

-- a single space between each two words makes the text again
pub spaced_words : (text : List ℕ) → spaced (words_of text) ≡ text
spaced_words [] = refl
spaced_words (c ∷ cs) = elim (cases_Bool (c == 32)) [
  | inl is ↦ rw is (spaced-behind (words_of cs) (words_of-has cs) ∙ rw (spaced_words cs, eqb-true c 32 is) refl)
  | inr other ↦ rw other (spaced-octet c (words_of cs) ∙ ap (λ rest. c ∷ rest) (spaced_words cs))
]
