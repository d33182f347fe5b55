-- Lines over lists, taken from a place on.
use Rattle.std.proofs.Common.{◌≡◌, ℕ, ◌+◌, ◌≤◌, ◌<◌, ◌++◌, min, List, [], ◌∷◌, length, drop, get_or, refl, arith, add-one, drop-cons, append_assoc}
use Rattle.abt_text.specs.Text.{◌⋅◌}
use Rattle.abt_net.specs.declared.conn.Conn.{Conn}
use Rattle.abt_reason.specs.Ending.{conn_line, conn_lines, port_lines}

pub port_lines-end : (n : ℕ) (xs ys : List ℕ) → min (length xs) (length ys) ≤ 0 → port_lines n xs ys ≡ []
port_lines-end n [] ys h = refl
port_lines-end n (x ∷ xs) [] h = refl
port_lines-end n (x ∷ xs) (y ∷ ys) h = absurd (omega arith)

pub conn_lines-end : (n : ℕ) (conns : List Conn) (xs : List ℕ) (ys : List (List ℕ))
    → min (min (length conns) (length xs)) (length ys) ≤ 0 → conn_lines n conns xs ys ≡ []
conn_lines-end n [] xs ys h = refl
conn_lines-end n (c ∷ conns) [] ys h = refl
conn_lines-end n (c ∷ conns) (x ∷ xs) [] h = refl
conn_lines-end n (c ∷ conns) (x ∷ xs) (y ∷ ys) h = absurd (omega arith)

pub conn_lines-step : (i : ℕ) (cs : List Conn) (xs : List ℕ) (ys : List (List ℕ)) (c : Conn) (x : ℕ) (y : List ℕ)
    → i < length cs → i < length xs → i < length ys → c ≡ get_or cs i c → x ≡ get_or xs i x → y ≡ get_or ys i y
    → conn_lines i (drop i cs) (drop i xs) (drop i ys) ≡ conn_line i c x y ⋅ conn_lines (i + 1) (drop (i + 1) cs) (drop (i + 1) xs) (drop (i + 1) ys)
conn_lines-step i cs xs ys c x y g h k is_c is_x is_y =
    rw (drop-cons cs i c, drop-cons xs i x, drop-cons ys i y, ← is_c, ← is_x, ← is_y, add-one) refl

-- a line goes from the front of what is left to the end of the text
pub text_grows : (old new line left rest whole : List ℕ) → new ≡ old ++ line → left ≡ line ++ rest → old ++ left ≡ whole → new ++ rest ≡ whole
text_grows old new line left rest whole grown first all = rw (grown, append_assoc, ← first) all
