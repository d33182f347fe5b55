-- The records of a stream of octets: lines, and cells behind an octet (docs/LIVE.md, "Cells as octets").
use Rattle.std.specs.Prelude.{ℕ, ◌==◌, nat_le, Bool, false, if◌then◌else◌, List, [], ◌∷◌, length, Option, Some}
use Rattle.abt_text.specs.Text.{Text, ◌⋅◌, line_feed}
use Rattle.abt_lines.specs.Lines.{seen_of}

-- the least octet that stands before a cell: no line of a text in ASCII begins with it
abbrev pub mark_min : ℕ
mark_min = 128

-- whether a record that begins so is a cell
abbrev pub is_cell : Text → Bool
is_cell [] = false
is_cell (octet ∷ more) = nat_le mark_min octet

-- whether an octet ends the record that has begun: a cell is whole with 52 octets behind the first one, a line ends with its line feed
abbrev pub ends_with : (begun : Text) → (octet : ℕ) → Bool
ends_with begun octet = if is_cell begun then length begun == 52 else octet == line_feed

-- the octets of a record that an octet ends: the line feed isn't one of them
abbrev pub ended_by : (begun : Text) → (octet : ℕ) → Text
ended_by begun octet = if is_cell begun then begun ⋅ (octet ∷ []) else begun

-- a record that has begun, with an octet more, which makes no difference once a line is too long
abbrev pub go_on : (begun : Text) → (octet : ℕ) → Text
go_on begun octet = if nat_le 4098 (length begun) then begun else begun ⋅ (octet ∷ [])

-- what is seen of a record: all octets of a cell; of a line what is seen of lines, which is nothing if it is too long
abbrev pub record_of : Text → Option Text
record_of octets = if is_cell octets then Some octets else seen_of octets

-- what is left at the end is a record too, unless it is empty: a line, or a cell that is cut
abbrev pub left_of : Text → List (Option Text)
left_of [] = []
left_of (octet ∷ more) = record_of (octet ∷ more) ∷ []

-- the records of a text behind one that has begun
abbrev pub records_behind : (begun : Text) → Text → List (Option Text)
records_behind begun [] = left_of begun
records_behind begun (octet ∷ text) =
    if ends_with begun octet then record_of (ended_by begun octet) ∷ records_behind [] text else records_behind (go_on begun octet) text

abbrev pub records_of : Text → List (Option Text)
records_of text = records_behind [] text
