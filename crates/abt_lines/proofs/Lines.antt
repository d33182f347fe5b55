-- The lines of a text that begins with a part of a line.
use Rattle.std.proofs.Common.{◌≡◌, ◌≢◌, ◌∙◌, inl, inr, ℕ, ◌<◌, ◌≤◌, ◌+◌, ◌-◌, ◌++◌, List, [], ◌∷◌, length, take, drop, map, refl, sym, ap, arith, zero, suc, min, length-append, length-take, length-drop, append-nil, append_assoc, take-append-drop}
use Rattle.std.proofs.lemmas.Bool.{ne_eqb, cases_Bool, lt-ltb}
use Rattle.std.specs.Prelude.{Option, None}
use Rattle.std.specs.Io.BufRead.{strip_last, ends_with_byte}
use Rattle.abt_text.specs.Words.{Lacks, with_octet}
use Rattle.abt_lines.specs.Lines.{lines_of, seen_of, seen_lines}

-- some lines, the first of which has begun so already
abbrev with_front : List ℕ → List (List ℕ) → List (List ℕ)
with_front front [] = front ∷ []
with_front front (line ∷ lines) = (front ++ line) ∷ lines

pub lacks_more : (c : ℕ) (cs : List ℕ) → Lacks 10 (c ∷ cs) → Lacks 10 cs
lacks_more c cs free = λ i l. free (suc i) (omega arith)

one_octet : (c : ℕ) (lines : List (List ℕ)) → with_octet c lines ≡ with_front (c ∷ []) lines
one_octet c [] = refl
one_octet c (line ∷ lines) = refl

octet_more : (c d : ℕ) (ds : List ℕ) (lines : List (List ℕ)) → with_octet c (with_front (d ∷ ds) lines) ≡ with_front (c ∷ d ∷ ds) lines
octet_more c d ds [] = refl
octet_more c d ds (line ∷ lines) = refl

lines_begun : (c : ℕ) (cs rest : List ℕ) → Lacks 10 (c ∷ cs) → lines_of ((c ∷ cs) ++ rest) ≡ with_front (c ∷ cs) (lines_of rest)
lines_begun c [] rest free = rw (ne_eqb c 10 (free 0 (omega arith))) (one_octet c (lines_of rest))
lines_begun c (d ∷ ds) rest free = rw (ne_eqb c 10 (free 0 (omega arith)))
    (ap (with_octet c) (lines_begun d ds rest (lacks_more c (d ∷ ds) free)) ∙ octet_more c d ds (lines_of rest))

-- a line feed ends the line that has begun
pub line_ends : (begun rest : List ℕ) → Lacks 10 begun → seen_lines (begun ++ (10 ∷ rest)) ≡ seen_of begun ∷ seen_lines rest
line_ends [] rest free = refl
line_ends (c ∷ cs) rest free =
    ap (map seen_of) (lines_begun c cs (10 ∷ rest) free) ∙ ap (λ line. seen_of line ∷ seen_lines rest) (append-nil (c ∷ cs))

-- so does the end of the text, if the line isn't empty
pub text_ends : (begun : List ℕ) → Lacks 10 begun → 0 < length begun → seen_lines begun ≡ seen_of begun ∷ []
text_ends [] free some = absurd (omega arith)
text_ends (c ∷ cs) free some =
    sym (ap seen_lines (append-nil (c ∷ cs))) ∙ ap (map seen_of) (lines_begun c cs [] free)

stripped_length : (line : List ℕ) → length line ≤ length (strip_last 13 line) + 1
stripped_length line = elim (cases_Bool (ends_with_byte 13 line)) [
  | inl is ↦ rw is (let e = length-take (length line - 1) line in omega (arith, e))
  | inr other ↦ rw other (omega arith)
]

-- what is too long isn't seen
long_unseen : (line : List ℕ) → 4097 < length line → seen_of line ≡ None
long_unseen line long = let some = stripped_length line in rw (lt-ltb 4096 (length (strip_last 13 line)) (omega arith)) refl

unseen_too : (a b : List ℕ) (more : List (Option (List ℕ))) → 4097 < length a → 4097 < length b → seen_of a ∷ more ≡ seen_of b ∷ more
unseen_too a b more long longer = ap (λ seen. seen ∷ more) (long_unseen a long ∙ sym (long_unseen b longer))

front_unseen : (begun : List ℕ) (octet : ℕ) (lines : List (List ℕ)) → 4097 < length begun
    → map seen_of (with_front begun lines) ≡ map seen_of (with_front begun (with_octet octet lines))
front_unseen begun octet [] long =
    let sum = length-append begun (octet ∷ []) in unseen_too begun (begun ++ octet ∷ []) [] long (omega arith)
front_unseen begun octet (line ∷ lines) long =
    let sum = length-append begun line in let sum_2 = length-append begun (octet ∷ line) in
    unseen_too (begun ++ line) (begun ++ octet ∷ line) (map seen_of lines) (omega arith) (omega arith)

-- where a line is too long already, another octet of it makes no difference
pub long_stays : (begun rest : List ℕ) (octet : ℕ) → Lacks 10 begun → 4097 < length begun → octet ≢ 10
    → seen_lines (begun ++ rest) ≡ seen_lines (begun ++ (octet ∷ rest))
long_stays [] rest octet free long other = absurd (omega arith)
long_stays (c ∷ cs) rest octet free long other =
    ap (map seen_of) (lines_begun c cs rest free) ∙ front_unseen (c ∷ cs) octet (lines_of rest) long
    ∙ sym (ap (map seen_of) (lines_begun c cs (octet ∷ rest) free ∙ ap (with_front (c ∷ cs)) (rw (ne_eqb octet 10 other) refl)))

-- nor do more octets of it
longs_stay : (begun more rest : List ℕ) → Lacks 10 begun → 4097 < length begun → Lacks 10 more
    → seen_lines (begun ++ rest) ≡ seen_lines (begun ++ (more ++ rest))
longs_stay begun [] rest free long other = refl
longs_stay begun (octet ∷ more) rest free long other =
    longs_stay begun more rest free long (lacks_more octet more other)
    ∙ long_stays begun (more ++ rest) octet free long (other 0 (omega arith))

pub lacks_both : (a b : List ℕ) → Lacks 10 a → Lacks 10 b → Lacks 10 (a ++ b)
lacks_both [] b p q i low = q i low
lacks_both (c ∷ cs) b p q zero low = p 0 (omega arith)
lacks_both (c ∷ cs) b p q (suc i) low = lacks_both cs b (lacks_more c cs p) q i (omega (arith, low))

lacks_front : (n : ℕ) (a : List ℕ) → Lacks 10 a → Lacks 10 (take n a)
lacks_front zero a p i low = absurd (omega (arith, low, length-take 0 a))
lacks_front (suc n) [] p i low = p i low
lacks_front (suc n) (c ∷ cs) p zero low = p 0 (omega arith)
lacks_front (suc n) (c ∷ cs) p (suc i) low = lacks_front n cs (lacks_more c cs p) i (omega (arith, low))

lacks_back : (n : ℕ) (a : List ℕ) → Lacks 10 a → Lacks 10 (drop n a)
lacks_back zero a p = p
lacks_back (suc n) [] p = p
lacks_back (suc n) (c ∷ cs) p = lacks_back n cs (lacks_more c cs p)

stays : (begun more rest : List ℕ) → Lacks 10 begun → Lacks 10 more → (0 < length more → 4097 < length begun)
    → seen_lines (begun ++ rest) ≡ seen_lines (begun ++ (more ++ rest))
stays begun [] rest free other long = refl
stays begun (c ∷ cs) rest free other long = longs_stay begun (c ∷ cs) rest free (long (omega arith)) other

pub lacks_added : (begun octets : List ℕ) (count : ℕ) → Lacks 10 begun → Lacks 10 octets → Lacks 10 (begun ++ take count octets)
lacks_added begun octets count free other = lacks_both begun (take count octets) free (lacks_front count octets other)

-- Octets of a line that has begun are added, none if there are none or no room.
pub none_added : (begun octets rest : List ℕ) (count : ℕ) → Lacks 10 begun → Lacks 10 octets → length begun ≤ 4098
    → count ≡ min (length octets) (4098 - length begun) → count ≡ 0 → seen_lines (begun ++ rest) ≡ seen_lines (begun ++ (octets ++ rest))
none_added begun octets rest count free other within is none =
    stays begun octets rest free other (λ some. omega (arith, some, within, is, none))

pub no_octets : (octets : List ℕ) → length octets ≡ 0 → octets ≡ []
no_octets [] none = refl
no_octets (octet ∷ octets) none = absurd (omega (arith, none))

-- Octets of a line that has begun are added, as many as there is room for.
pub added_seen : (begun octets rest : List ℕ) (count : ℕ) → Lacks 10 begun → Lacks 10 octets → length begun ≤ 4098
    → count ≡ min (length octets) (4098 - length begun)
    → seen_lines ((begun ++ take count octets) ++ rest) ≡ seen_lines (begun ++ (octets ++ rest))
added_seen begun octets rest count free other within is =
    let front = take count octets in let back = drop count octets in
    stays (begun ++ front) back rest (lacks_added begun octets count free other) (lacks_back count octets other)
    (λ some. omega (arith, some, within, is, length-drop count octets, length-append begun front, length-take count octets))
    ∙ ap seen_lines (append_assoc begun front (back ++ rest) ∙ ap (λ t. begun ++ t) (sym (append_assoc front back rest)
    ∙ ap (λ t. t ++ rest) (take-append-drop count octets)))

abbrev first_of : List (Option (List ℕ)) → Option (List ℕ)
first_of [] = None
first_of (seen ∷ more) = seen

-- What is seen of a line that went on is the same, however much of it is there.
pub seen_added : (begun octets new : List ℕ) → Lacks 10 begun → Lacks 10 octets → Lacks 10 new
    → ((rest : List ℕ) → seen_lines (new ++ rest) ≡ seen_lines (begun ++ (octets ++ rest))) → seen_of new ≡ seen_of (begun ++ octets)
seen_added begun octets new free other whole same =
    ap first_of (sym (line_ends new [] whole) ∙ same (10 ∷ []) ∙ sym (ap seen_lines (append_assoc begun octets (10 ∷ [])))
    ∙ line_ends (begun ++ octets) [] (lacks_both begun octets free other))
