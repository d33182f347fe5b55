-- One octet more at the end of a text.
use Rattle.std.proofs.Common.{◌≡◌, ◌==◌, ℕ, ◌≤◌, ◌+◌, zero, suc, List, [], ◌∷◌, ◌++◌, length, take, drop, refl, ap, inl, inr, true, false, arith}
use Rattle.std.proofs.lemmas.Bool.{cases_Bool, ne_eqb}
use Rattle.abt_places.specs.Places.{line_feeds, last_line, begins_character, characters, place_behind}

pub more_feeds : (xs : List ℕ) (c : ℕ) → line_feeds (xs ++ c ∷ []) ≡ line_feeds xs + line_feeds (c ∷ [])
more_feeds [] c = omega arith
more_feeds (o ∷ xs) c = let h = more_feeds xs c in elim (cases_Bool (o == 10)) [
  | inl is ↦ rw is (omega (arith, h))
  | inr other ↦ rw other h
]

pub feed_more : (xs : List ℕ) → line_feeds (xs ++ 10 ∷ []) ≡ suc (line_feeds xs)
feed_more xs = let e = more_feeds xs 10 in omega (arith, e)

pub none_more : (xs : List ℕ) (c : ℕ) → (c == 10) ≡ false → line_feeds (xs ++ c ∷ []) ≡ line_feeds xs
none_more xs c other = let e : line_feeds (xs ++ c ∷ []) ≡ line_feeds xs + 0 = rw other at (more_feeds xs c) in omega (arith, e)

not_none : (n : ℕ) → (suc n == 0) ≡ false
not_none n = ne_eqb (suc n) 0 (λ e. omega (arith, e))

pub last_feed : (xs : List ℕ) → last_line (xs ++ 10 ∷ []) ≡ []
last_feed [] = refl
last_feed (o ∷ xs) = rw (feed_more xs, not_none (line_feeds xs)) (last_feed xs)

pub last_more : (xs : List ℕ) (c : ℕ) → (c == 10) ≡ false → last_line (xs ++ c ∷ []) ≡ last_line xs ++ c ∷ []
last_more [] c other = rw other refl
last_more (o ∷ xs) c other = elim (cases_Bool (line_feeds xs == 0)) [
  | inl none ↦ elim (cases_Bool (o == 10)) [
    | inl is ↦ rw (none_more xs c other, none, is) refl
    | inr not ↦ rw (none_more xs c other, none, not) refl
  ]
  | inr some ↦ rw (none_more xs c other, some) (last_more xs c other)
]

pub more_characters : (xs : List ℕ) (c : ℕ) → characters (xs ++ c ∷ []) ≡ characters xs + characters (c ∷ [])
more_characters [] c = omega arith
more_characters (o ∷ xs) c = let h = more_characters xs c in elim (cases_Bool (begins_character o)) [
  | inl is ↦ rw is (omega (arith, h))
  | inr other ↦ rw other h
]

pub feeds_within : (xs : List ℕ) → line_feeds xs ≤ length xs
feeds_within [] = omega arith
feeds_within (o ∷ xs) = let h = feeds_within xs in elim (cases_Bool (o == 10)) [
  | inl is ↦ rw is (omega (arith, h))
  | inr other ↦ rw other (omega (arith, h))
]

pub characters_within : (xs : List ℕ) → characters xs ≤ length xs
characters_within [] = omega arith
characters_within (o ∷ xs) = let h = characters_within xs in elim (cases_Bool (begins_character o)) [
  | inl is ↦ rw is (omega (arith, h))
  | inr other ↦ rw other (omega (arith, h))
]

pub last_within : (xs : List ℕ) → length (last_line xs) ≤ length xs
last_within [] = omega arith
last_within (o ∷ xs) = let h = last_within xs in elim (cases_Bool (line_feeds xs == 0)) [
  | inl none ↦ elim (cases_Bool (o == 10)) [
    | inl is ↦ rw (none, is) (omega arith)
    | inr not ↦ rw (none, not) (omega arith)
  ]
  | inr some ↦ rw some (omega (arith, h))
]

-- the place behind one octet more: a line feed, the first octet of a character, or another
pub behind_feed : (xs : List ℕ) → record { line = line_feeds xs + 2; column = 1 } ≡ place_behind (xs ++ 10 ∷ [])
behind_feed xs = rw (feed_more xs, last_feed xs) (ap (λ n. record { line = n; column = 1 }) (omega arith))

pub behind_first : (xs : List ℕ) (c : ℕ) → (c == 10) ≡ false → begins_character c ≡ true
    → record { line = suc (line_feeds xs); column = characters (last_line xs) + 2 } ≡ place_behind (xs ++ c ∷ [])
behind_first xs c other is = rw (none_more xs c other, last_more xs c other, more_characters (last_line xs) c, is) (ap (λ n. record { line = suc (line_feeds xs); column = n }) (omega arith))

pub behind_other : (xs : List ℕ) (c : ℕ) → (c == 10) ≡ false → begins_character c ≡ false
    → place_behind xs ≡ place_behind (xs ++ c ∷ [])
behind_other xs c other is = rw (none_more xs c other, last_more xs c other, more_characters (last_line xs) c, is) (ap (λ n. record { line = suc (line_feeds xs); column = n }) (omega arith))

-- neither number is past the octets by more than one
pub line_within : (xs : List ℕ) → (place_behind xs).line ≤ length xs + 1
line_within xs = let h = feeds_within xs in omega (arith, h)

pub column_within : (xs : List ℕ) → (place_behind xs).column ≤ length xs + 1
column_within xs = let h = characters_within (last_line xs) in let k = last_within xs in omega (arith, h, k)

-- the line feeds of a front, and those between it and the end of a longer one
pub feeds_split : (n : ℕ) (xs : List ℕ) → line_feeds (take n xs) + line_feeds (drop n xs) ≡ line_feeds xs
feeds_split zero xs = omega arith
feeds_split (suc n) [] = omega arith
feeds_split (suc n) (o ∷ xs) = let h = feeds_split n xs in elim (cases_Bool (o == 10)) [
  | inl is ↦ rw is (omega (arith, h))
  | inr other ↦ rw other h
]

pub take_less : (m n : ℕ) (xs : List ℕ) → m ≤ n → take m (take n xs) ≡ take m xs
take_less zero n xs h = refl
take_less (suc m) zero xs h = absurd (omega (arith, h))
take_less (suc m) (suc n) [] h = refl
take_less (suc m) (suc n) (o ∷ xs) h = ap (λ ys. o ∷ ys) (take_less m n xs (omega (arith, h)))

pub line_behind : (m n : ℕ) (xs : List ℕ) → m ≤ n → line_feeds (take m xs) + line_feeds (drop m (take n xs)) ≡ line_feeds (take n xs)
line_behind m n xs h = rw (take_less m n xs h) at (feeds_split m (take n xs))
