-- Places in texts: lines and columns, counted from 1.
use Rattle.std.specs.Prelude.{ℕ, suc, ◌==◌, ◌||◌, nat_le, nat_lt, Bool, if◌then◌else◌, List, [], ◌∷◌, take}
use Rattle.abt_text.specs.Text.{line_feed}
use Rattle.abt_places.specs.declared.place.Place.{Place}

-- how many lines a text ends
abbrev pub line_feeds : List ℕ → ℕ
line_feeds [] = 0
line_feeds (octet ∷ text) = if octet == line_feed then suc (line_feeds text) else line_feeds text

-- what stands behind the last line feed
abbrev pub last_line : List ℕ → List ℕ
last_line [] = []
last_line (octet ∷ text) = if line_feeds text == 0 then (if octet == line_feed then text else octet ∷ text) else last_line text

-- whether an octet of UTF-8 is the first of its character
abbrev pub begins_character : ℕ → Bool
begins_character octet = nat_lt octet 128 || nat_le 192 octet

-- how many characters begin in a text
abbrev pub characters : List ℕ → ℕ
characters [] = 0
characters (octet ∷ text) = if begins_character octet then suc (characters text) else characters text

-- The place behind a text: its line is one more than the line feeds, its column one more than the characters behind the last of them.
abbrev pub place_behind : List ℕ → Place
place_behind text = record { line = suc (line_feeds text); column = suc (characters (last_line text)) }

-- the place behind so many octets of a text
abbrev pub place_at : ℕ → List ℕ → Place
place_at at text = place_behind (take at text)

-- the line of that place
abbrev pub line_at : ℕ → List ℕ → ℕ
line_at at text = (place_at at text).line

-- the lines of some places of a text
abbrev pub lines_at : List ℕ → List ℕ → List ℕ
lines_at text [] = []
lines_at text (at ∷ places) = line_at at text ∷ lines_at text places
