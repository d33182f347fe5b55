-- Places at which a text may be cut.
use Rattle.std.proofs.Common.{◌≡◌, ◌&&◌, ◌<◌, ◌≤◌, ◌+◌, ℕ, Bool, List, true, false, arith, refl, sym, true≢false, length, drop, get_or}
use Rattle.std.proofs.lemmas.Bool.{leb-true}
use Rattle.std.proofs.lemmas.List.Sums.{prefix_len-drop_yes}
use Rattle.std.proofs.lemmas.Option.{get_or_from_slice_get, slice_get_within}
use Rattle.std.proofs.lemmas.Str.{IsCharBoundary-after_ascii, IsCharBoundary-start}
use Rattle.std.specs.Prelude.{IsUtf8, Some, nat_le}
use Rattle.std.specs.Char.{is_ascii_digit}
use Rattle.std.specs.List.{prefix_len, slice_get}
use Rattle.std.specs.Str.{IsCharBoundary}

last_of : (a b : Bool) → (a && b) ≡ true → b ≡ true
last_of true b h = h
last_of false b h = absurd (true≢false (sym h))

digit_ascii : (octet : ℕ) → is_ascii_digit octet ≡ true → octet < 128
digit_ascii octet h = let high : octet ≤ 57 = leb-true octet 57 (last_of (nat_le 48 octet) (nat_le octet 57) h) in omega (arith, high)

-- behind a digit
pub past_digit : (text : List ℕ) (place : ℕ) → IsUtf8 text → place < length text → is_ascii_digit (get_or text place 0) ≡ true
    → place + prefix_len is_ascii_digit (drop place text) ≡ prefix_len is_ascii_digit text
    → (place + 1 + prefix_len is_ascii_digit (drop (place + 1) text) ≡ prefix_len is_ascii_digit text) × IsCharBoundary text (place + 1)
past_digit text place utf8 within digit so_far =
    let more = prefix_len-drop_yes is_ascii_digit text place 0 within digit in
    (omega (arith, more, so_far), IsCharBoundary-after_ascii text place utf8 within (digit_ascii (get_or text place 0) digit))

-- behind a point
pub past_point : (text : List ℕ) (octet : ℕ) → IsUtf8 text → slice_get text 0 ≡ Some octet → octet ≡ 46 → IsCharBoundary text 1
past_point text octet utf8 first is =
    let value = get_or_from_slice_get text 0 octet 0 first in
    IsCharBoundary-after_ascii text 0 utf8 (slice_get_within text 0 octet first) (omega (arith, value, is))

-- at the beginning
pub at_start : (text : List ℕ) → IsUtf8 text → (0 + prefix_len is_ascii_digit (drop 0 text) ≡ prefix_len is_ascii_digit text) × IsCharBoundary text 0
at_start text utf8 = (omega arith, IsCharBoundary-start text utf8)
