-- The octet before a cell (docs/LIVE.md, "Cells as octets").
use Rattle.std.specs.Prelude.{ℕ, ◌+◌, ◌-◌, nat_lt, if◌then◌else◌, ◌∷◌, Option, None, Some}
use Rattle.abt_cell.specs.Codec.{written_of}
use Rattle.abt_cell.specs.declared.message.Rm.{Rm}
use Rattle.abt_text.specs.Text.{Text}
use Rattle.abt_text.specs.Words.{below}

-- ports below this number have an octet, which is 128 and the number
abbrev pub marked_ports : ℕ
marked_ports = 127

-- the octet of the source of the connection that the cell names
abbrev pub source_mark : ℕ
source_mark = 255

-- the port whose octet it is
abbrev pub port_of : (mark : ℕ) → Option ℕ
port_of mark = if nat_lt mark 128 then None else below marked_ports (Some (mark - 128))

-- the octet of a port, if it has one
abbrev pub mark_of : (port : ℕ) → Option ℕ
mark_of port = if nat_lt port marked_ports then Some (128 + port) else None

-- the cell of a message behind an octet, or a line in its place if there is no octet
abbrev pub cell_behind : (mark : Option ℕ) → Rm → (line : Text) → Text
cell_behind (Some mark) message line = mark ∷ written_of message
cell_behind None message line = line

abbrev pub cell_to : (port : ℕ) → Rm → (line : Text) → Text
cell_to port message line = cell_behind (mark_of port) message line

-- the cell of a message behind the octet of its source
abbrev pub cell_to_source : Rm → Text
cell_to_source message = source_mark ∷ written_of message
