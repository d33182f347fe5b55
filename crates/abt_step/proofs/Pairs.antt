-- Words of connections and ports over two lists, taken from a place on.
use Rattle.std.proofs.Common.{◌≡◌, ℕ, ◌+◌, ◌≤◌, ◌<◌, ◌++◌, min, List, [], ◌∷◌, length, drop, get_or, refl, arith, add-one, drop-cons, append_assoc}
use Rattle.abt_text.specs.Text.{◌⋅◌}
use Rattle.abt_step.specs.StateWords.{conn_words, conns_between, port_words, ports_between}

pub ports-end : (b a : List ℕ) (n : ℕ) (xs ys : List ℕ) → min (length xs) (length ys) ≤ 0 → ports_between b a n xs ys ≡ []
ports-end b a n [] ys h = refl
ports-end b a n (x ∷ xs) [] h = refl
ports-end b a n (x ∷ xs) (y ∷ ys) h = absurd (omega arith)

pub ports-step : (b a : List ℕ) (i : ℕ) (xs ys : List ℕ) (x y : ℕ) → i < length xs → i < length ys → x ≡ get_or xs i x → y ≡ get_or ys i y
    → ports_between b a i (drop i xs) (drop i ys) ≡ (b ⋅ port_words i x y ⋅ a) ⋅ ports_between b a (i + 1) (drop (i + 1) xs) (drop (i + 1) ys)
ports-step b a i xs ys x y h k is_x is_y = rw (drop-cons xs i x, drop-cons ys i y, ← is_x, ← is_y, add-one) refl

pub conns-end : (b a : List ℕ) (n : ℕ) (xs : List ℕ) (ys : List (List ℕ)) → min (length xs) (length ys) ≤ 0 → conns_between b a n xs ys ≡ []
conns-end b a n [] ys h = refl
conns-end b a n (x ∷ xs) [] h = refl
conns-end b a n (x ∷ xs) (y ∷ ys) h = absurd (omega arith)

pub conns-step : (b a : List ℕ) (i : ℕ) (xs : List ℕ) (ys : List (List ℕ)) (x : ℕ) (y : List ℕ) → i < length xs → i < length ys
    → x ≡ get_or xs i x → y ≡ get_or ys i y
    → conns_between b a i (drop i xs) (drop i ys) ≡ (b ⋅ conn_words i x y ⋅ a) ⋅ conns_between b a (i + 1) (drop (i + 1) xs) (drop (i + 1) ys)
conns-step b a i xs ys x y h k is_x is_y = rw (drop-cons xs i x, drop-cons ys i y, ← is_x, ← is_y, add-one) refl

-- words go from the front of what is left to the end of the text
pub text_grows : (old new line said left rest whole : List ℕ) → new ≡ old ++ line → line ≡ said → left ≡ said ++ rest → old ++ left ≡ whole
    → new ++ rest ≡ whole
text_grows old new line said left rest whole grown is first all = rw (grown, is, append_assoc, ← first) all
