use Rattle.std.proofs.Common.{rules, ◌≡◌, ◌+◌, ◌∷◌, [], ap, sym, ◌∙◌, append-nil, arith, refl}
use Rattle.std.proofs.lemmas.List.{take_more_set, length-set}
use Rattle.abt_text.specs.Words.{spaced, words_of}
use Rattle.abt_text.proofs.Cutting.{one_word, first_word, word_found, spaced_words, words_beyond, words_within}
use Rattle.abt_text.proofs.spaced.words_of.Goals as goal

pub loop-word-preserved : goal.loop-word-preserved
loop-word-preserved c =
    let (whole, free) = c.in-Some.ensures.some in
    let cut : words_of c.loop-word.rest.now ≡ c.in-Some.word.now ∷ words_of c.in-Some.more.now = rw whole (first_word _ _ free) in
    (search rules, word_found _ _ _ _ _ (take_more_set c.loop-word.room c.loop-word.count c.in-Some.word (search rules)) (rw cut at c.loop-word.invariant.1), search rules, search rules)

pub returns-then-count-room-2-clause-none : goal.returns-then-count-room-2-clause-none
returns-then-count-room-2-clause-none c =
    let free = c.in_default.ensures.none refl in
    let cut : words_of c.loop-word.rest.now ≡ c.loop-word.rest.now ∷ [] = one_word _ free in
    let beyond = words_beyond c.loop-word.room c.loop-word.count c.loop-word.rest.now [] _ (search rules) (rw cut at c.loop-word.invariant.1) in
    (λ _. search rules, λ _. search rules)

pub returns-clause-value : goal.returns-clause-value
returns-clause-value c =
    let free = c.in_default.ensures.none refl in
    let cut : words_of c.loop-word.rest.now ≡ c.loop-word.rest.now ∷ [] = one_word _ free in
    let whole = word_found _ _ _ [] _ (take_more_set c.loop-word.room c.loop-word.count c.loop-word.rest (search rules)) (rw cut at c.loop-word.invariant.1) in
    sym (append-nil _) ∙ whole

pub returns-clause-whole : goal.returns-clause-whole
returns-clause-whole c = ap spaced (returns-clause-value c) ∙ spaced_words c.args.text.now

pub returns-clause-none : goal.returns-clause-none
returns-clause-none c =
    let fits = words_within _ (c.loop-word.count + 1) _ (search rules) (returns-clause-value c) in
    (λ no. absurd (search rules), λ beyond. absurd (omega (fits, beyond, length-set c.loop-word.room c.loop-word.count c.loop-word.rest, arith)))
