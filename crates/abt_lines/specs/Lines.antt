-- The lines of a stream of octets (docs/FORMATS.md, "Parts by hand").
use Rattle.std.specs.Prelude.{ℕ, ◌==◌, nat_lt, if◌then◌else◌, List, [], ◌∷◌, length, map, Option, Some, None}
use Rattle.std.specs.Io.BufRead.{strip_last}
use Rattle.abt_text.specs.Text.{Text, line_feed}
use Rattle.abt_text.specs.Words.{with_octet}

-- how many octets of a line are read at most
abbrev pub line_max : ℕ
line_max = 4096

abbrev pub carriage_return : ℕ
carriage_return = 13

-- the lines of a text: each ends with a line feed, and what stands behind the last one is a line too, unless it is empty
abbrev pub lines_of : Text → List Text
lines_of [] = []
lines_of (octet ∷ text) = if octet == line_feed then [] ∷ lines_of text else with_octet octet (lines_of text)

-- a line that isn't too long
abbrev pub unless_long : Text → Option Text
unless_long line = if nat_lt line_max (length line) then None else Some line

-- what is seen of a line: it without the carriage return at its end; nothing, if that is too long
abbrev pub seen_of : Text → Option Text
seen_of line = unless_long (strip_last carriage_return line)

abbrev pub seen_lines : Text → List (Option Text)
seen_lines text = map seen_of (lines_of text)
