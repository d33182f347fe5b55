-- Texts as a terminal shows them on one line, with nothing in them that a reader doesn't see.
use Rattle.std.specs.Prelude.{ℕ, ◌%◌, ◌==◌, ◌||◌, Bool, not, ◌&&◌, ◌+◌, map, codes, if◌then◌else◌, nat_lt}
use Rattle.std.specs.Char.{is_control}
use Rattle.std.specs.Str.{chars, encode_utf8_all}
use Rattle.abt_text.specs.Text.{Text, ◌⋅◌, newline}

-- whether a number is at least one and at most another
abbrev pub is_within : ℕ → ℕ → ℕ → Bool
is_within least most c = nat_lt c (most + 1) && not (nat_lt c least)

-- whether a character has no width, or changes the direction or the place of what stands beside it
abbrev pub is_unseen : ℕ → Bool
is_unseen c = c == 0xAD || c == 0x61C || c == 0x180E || c == 0xFEFF || is_within 0x200B 0x200F c || is_within 0x2028 0x202E c
    || is_within 0x2060 0x206F c || is_within 0xFFF9 0xFFFB c || is_within 0xE0000 0xE0FFF c

-- whether Unicode keeps a code from ever being a character; XML has some of them in no text
abbrev pub is_no_character : ℕ → Bool
is_no_character c = is_within 0xFDD0 0xFDEF c || c % 65536 == 0xFFFE || c % 65536 == 0xFFFF

-- what stands for a character: a question mark (63) for a control character, one that isn't seen, and a code that is none
abbrev pub shown_letter : ℕ → ℕ
shown_letter c = if is_control c || is_unseen c || is_no_character c then 63 else c

-- the text as it is shown
abbrev pub shown : Text → Text
shown text = encode_utf8_all (map shown_letter (chars text))

-- the line that tells why the file of a name isn't written or read
abbrev pub line_of : (name words : Text) → Text
line_of name words = shown name ⋅ codes ": " ⋅ words ⋅ newline
