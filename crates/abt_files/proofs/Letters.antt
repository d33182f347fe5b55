-- Texts that are shown letter by letter.
use Rattle.std.proofs.Common.{◌≡◌, ◌∙◌, ◌+◌, ◌++◌, ◌∷◌, ◌<◌, [], ℕ, List, Option, ap, arith, drop, get_or, length, map, subst, sym, take}
use lib.Seq.{take-append-add}
use Rattle.std.proofs.KnownBytes.{Appends-trans}
use Rattle.std.proofs.lemmas.List.{append-nil, append_assoc, length-append, map-append, take-append-drop, take-append-le, take_more}
use Rattle.std.proofs.lemmas.Str.{encodes-append}
use Rattle.std.specs.Char.{encode_utf8}
use Rattle.std.specs.Io.KnownBytes.{Appends}
use Rattle.std.specs.Str.{encode_utf8_all}
use Rattle.abt_text.specs.Streams.{AppendsPrefix}
use Rattle.abt_files.specs.Shown.{shown_letter}

-- the octets of letters as they are shown
abbrev pub letters : List ℕ → List ℕ
letters cs = encode_utf8_all (map shown_letter cs)

pub letters_append : (xs ys : List ℕ) → letters (xs ++ ys) ≡ letters xs ++ letters ys
letters_append xs ys = ap encode_utf8_all (map-append shown_letter xs ys) ∙ encodes-append (map shown_letter xs) (map shown_letter ys)

pub letters_more : (xs : List ℕ) (c : ℕ) → letters (xs ++ c ∷ []) ≡ letters xs ++ encode_utf8 (shown_letter c)
letters_more xs c = letters_append xs (c ∷ []) ∙ ap (λ (l : List ℕ). letters xs ++ l) (append-nil (encode_utf8 (shown_letter c)))

-- the text, cut before and behind one of its letters
pub letters_cut : (cs : List ℕ) (n c : ℕ) → n < length cs → c ≡ get_or cs n c
    → letters cs ≡ letters (take n cs) ++ (encode_utf8 (shown_letter c) ++ letters (drop (n + 1) cs))
letters_cut cs n c less is =
    let rest = letters (drop (n + 1) cs) in
    let front : take (n + 1) cs ≡ take n cs ++ c ∷ [] = take_more cs n c less ∙ ap (λ (x : ℕ). take n cs ++ x ∷ []) (sym is) in
    ap letters (sym (take-append-drop (n + 1) cs)) ∙ letters_append (take (n + 1) cs) (drop (n + 1) cs)
    ∙ ap (λ (l : List ℕ). letters l ++ rest) front ∙ ap (λ (l : List ℕ). l ++ rest) (letters_more (take n cs) c)
    ∙ append_assoc (letters (take n cs)) (encode_utf8 (shown_letter c)) rest

-- A part of a letter behind those before it is a part of the text.
pub breaks_off : (old between new : Option (List ℕ)) (cs : List ℕ) (n c : ℕ) → n < length cs → c ≡ get_or cs n c
    → Appends old between (letters (take n cs)) → AppendsPrefix between new (encode_utf8 (shown_letter c)) → AppendsPrefix old new (letters cs)
breaks_off old between new cs n c less is before part =
    let xs = letters (take n cs) in
    let piece = encode_utf8 (shown_letter c) in
    let rest = letters (drop (n + 1) cs) in
    let whole = letters_cut cs n c less is in
    let short = part.short in
    let front : take (length xs + part.count) (letters cs) ≡ xs ++ take part.count piece =
    ap (take (length xs + part.count)) whole ∙ take-append-add xs (piece ++ rest) part.count
    ∙ ap (λ (l : List ℕ). xs ++ l) (take-append-le part.count piece rest (omega (arith, short))) in
    record {
      count = length xs + part.count;
      short = omega (arith, short, ap length whole, length-append xs (piece ++ rest), length-append piece rest);
      front = subst (Appends old new) (sym front) (Appends-trans old between new xs (take part.count piece) before part.front);
    }
