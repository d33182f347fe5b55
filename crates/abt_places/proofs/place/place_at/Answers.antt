use Rattle.std.proofs.Common.{rules, ◌≡◌, ◌==◌, ap, sym, ◌∙◌, take, ℕ, ◌+◌, ◌<◌, ◌^◌, List, length, arith, get_or, true, false, suc}
use Rattle.std.proofs.lemmas.List.{take_more, length-take-le}
use Rattle.std.proofs.lemmas.Bool.{ne_eqb}
use Rattle.abt_places.specs.Places.{place_behind, begins_character, line_feeds, last_line, characters}
use Rattle.abt_places.specs.declared.place.Place.{Place}
use Rattle.abt_places.proofs.Feeds.{line_within, column_within, behind_feed, behind_first, behind_other}
use Rattle.abt_places.proofs.place.place_at.Goals as goal
use Rattle.abt_places.proofs.place.place_at.Goals.{then-octet-eq10, else-octet-eq10+then-begins_character, else-octet-eq10+else-begins_character}

-- there is room for one more
line_room : (xs : List ℕ) (i line column : ℕ) → i < length xs → length xs < 2 ^ 63 → record { line = line; column = column } ≡ place_behind (take i xs)
    → line + 1 < 2 ^ 64
line_room xs i line column low few is =
    let h = line_within (take i xs) in
    let k = length-take-le i xs (omega (arith, low)) in
    let e : line ≡ (place_behind (take i xs)).line = ap (λ (p : Place). p.line) is in
    omega (arith, h, k, e, low, few)

column_room : (xs : List ℕ) (i line column : ℕ) → i < length xs → length xs < 2 ^ 63 → record { line = line; column = column } ≡ place_behind (take i xs)
    → column + 1 < 2 ^ 64
column_room xs i line column low few is =
    let h = column_within (take i xs) in
    let k = length-take-le i xs (omega (arith, low)) in
    let e : column ≡ (place_behind (take i xs)).column = ap (λ (p : Place). p.column) is in
    omega (arith, h, k, e, low, few)

pub overflow_add-line : goal.overflow_add-line
overflow_add-line c =
    let few : length c.before-octet-items.result.now < 2 ^ 63 = search rules in
    let room = line_room _ _ _ _ c.loop-octet-test.true few c.loop-octet.invariant in
    omega (arith, room)

pub overflow_add-column : goal.overflow_add-column
overflow_add-column c =
    let few : length c.before-octet-items.result.now < 2 ^ 63 = search rules in
    let room = column_room _ _ _ _ c.loop-octet-test.true few c.loop-octet.invariant in
    omega (arith, room)

-- one octet more: a line feed, the first of a character, or another
feed : (xs : List ℕ) (i line column line' column' : ℕ) → i < length xs → record { line = line; column = column } ≡ place_behind (take i xs)
    → get_or xs i 0 ≡ 10 → line' ≡ line + 1 → column' ≡ 1 → record { line = line'; column = column' } ≡ place_behind (take (i + 1) xs)
feed xs i line column line' column' low same is line-is column-is =
    let e : line ≡ (place_behind (take i xs)).line = ap (λ (p : Place). p.line) same in
    let n : line' ≡ line_feeds (take i xs) + 2 = omega (arith, e, line-is) in
    rw (take_more xs i 0 low, is, n, column-is) (behind_feed (take i xs))

first : (xs : List ℕ) (i line column line' column' : ℕ) → i < length xs → record { line = line; column = column } ≡ place_behind (take i xs)
    → (get_or xs i 0 == 10) ≡ false → begins_character (get_or xs i 0) ≡ true → line' ≡ line → column' ≡ column + 1
    → record { line = line'; column = column' } ≡ place_behind (take (i + 1) xs)
first xs i line column line' column' low same other is line-is column-is =
    let e : line ≡ (place_behind (take i xs)).line = ap (λ (p : Place). p.line) same in
    let f : column ≡ (place_behind (take i xs)).column = ap (λ (p : Place). p.column) same in
    let n : line' ≡ suc (line_feeds (take i xs)) = omega (arith, e, line-is) in
    let m : column' ≡ characters (last_line (take i xs)) + 2 = omega (arith, f, column-is) in
    rw (take_more xs i 0 low, n, m) (behind_first (take i xs) (get_or xs i 0) other is)

inside : (xs : List ℕ) (i line column line' column' : ℕ) → i < length xs → record { line = line; column = column } ≡ place_behind (take i xs)
    → (get_or xs i 0 == 10) ≡ false → begins_character (get_or xs i 0) ≡ false → line' ≡ line → column' ≡ column
    → record { line = line'; column = column' } ≡ place_behind (take (i + 1) xs)
inside xs i line column line' column' low same other is line-is column-is =
    rw (take_more xs i 0 low, line-is, column-is) (same ∙ behind_other (take i xs) (get_or xs i 0) other is)

pub loop-octet-preserved : goal.loop-octet-preserved
loop-octet-preserved c =
    let low = c.loop-octet-test.true in
    let same = c.loop-octet.invariant in
    elim c.if-octet-eq10.branch [
      | then-octet-eq10 w ↦ feed _ _ _ _ _ _ low same w.if-octet-eq10.true w.line-is w.column-is
      | else-octet-eq10+then-begins_character w ↦ first _ _ _ _ _ _ low same (ne_eqb _ 10 w.if-octet-eq10.false) (sym (w.begins_character.ensures) ∙ w.if-begins_character.true) w.line-is w.column-is
      | else-octet-eq10+else-begins_character w ↦ inside _ _ _ _ _ _ low same (ne_eqb _ 10 w.if-octet-eq10.false) (sym (w.begins_character.ensures) ∙ w.if-begins_character.false) w.line-is w.column-is
    ]
