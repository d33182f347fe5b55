-- Lines over two lists, taken from a place on.
use Rattle.std.proofs.Common.{◌≡◌, ℕ, ◌+◌, ◌≤◌, ◌<◌, ◌++◌, min, List, [], ◌∷◌, length, drop, get_or, refl, arith, add-one, drop-cons, append_assoc}
use Rattle.abt_text.specs.Text.{◌⋅◌}
use Rattle.abt_format.specs.Report.{conn_line, conn_lines, port_lines}

pub port_lines-end : (n : ℕ) (xs ys : List ℕ) → min (length xs) (length ys) ≤ 0 → port_lines n xs ys ≡ []
port_lines-end n [] ys h = refl
port_lines-end n (x ∷ xs) [] h = refl
port_lines-end n (x ∷ xs) (y ∷ ys) h = absurd (omega arith)

pub conn_lines-end : (n : ℕ) (xs : List ℕ) (ys : List (List ℕ)) → min (length xs) (length ys) ≤ 0 → conn_lines n xs ys ≡ []
conn_lines-end n [] ys h = refl
conn_lines-end n (x ∷ xs) [] h = refl
conn_lines-end n (x ∷ xs) (y ∷ ys) h = absurd (omega arith)

pub conn_lines-step : (i : ℕ) (xs : List ℕ) (ys : List (List ℕ)) (x : ℕ) (y : List ℕ) → i < length xs → i < length ys
    → x ≡ get_or xs i x → y ≡ get_or ys i y
    → conn_lines i (drop i xs) (drop i ys) ≡ conn_line i x y ⋅ conn_lines (i + 1) (drop (i + 1) xs) (drop (i + 1) ys)
conn_lines-step i xs ys x y h k is_x is_y = rw (drop-cons xs i x, drop-cons ys i y, ← is_x, ← is_y, add-one) refl

-- a line goes from the front of what is left to the end of the text
pub text_grows : (old new line said left rest whole : List ℕ) → new ≡ old ++ line → line ≡ said → left ≡ said ++ rest → old ++ left ≡ whole
    → new ++ rest ≡ whole
text_grows old new line said left rest whole grown is first all = rw (grown, is, append_assoc, ← first) all
