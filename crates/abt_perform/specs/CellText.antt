-- Cells as hexadecimal text, and what `abt cell` prints (docs/FORMATS.md, "The program").
use Rattle.std.specs.Prelude.{ℕ, List, length, Result, Ok, Err, codes, ◌==◌, if◌then◌else◌}
use Rattle.hex.specs.Hex.{decode_of, encode_lower}
use Rattle.hex.specs.declared.error.FromHexError.{FromHexError}
use Rattle.abt_rate.specs.Code.{code_of}
use Rattle.abt_cell.specs.Codec.{read_of, written_of, request_of}
use Rattle.abt_cell.specs.Channel.{Channel}
use Rattle.abt_cell.specs.Message.{Terms}
use Rattle.abt_cell.specs.declared.message.Rm.{Rm}
use Rattle.abt_cell.specs.declared.message.Rm.TheVariants.{Request, Answer}
use Rattle.abt_cell.specs.declared.fault.RmFault.{RmFault}
use Rattle.abt_text.specs.Text.{Text, ◌⋅◌, newline, decimal, code_text}
use Rattle.abt_perform.specs.declared.fault.Fault.{Fault}
use Rattle.abt_perform.specs.declared.fault.Fault.TheVariants as fault

-- what a cell says, with the fault under the program's name
abbrev pub message_or_fault : Result Rm RmFault → Result Rm Fault
message_or_fault (Ok rm) = Ok rm
message_or_fault (Err rm_fault) = Err (fault.Rm rm_fault)

abbrev pub message_in : Result (List ℕ) FromHexError → Result Rm Fault
message_in (Ok octets) = if length octets == 52 then message_or_fault (read_of octets) else Err fault.Length
message_in (Err hex_fault) = Err fault.Hex

-- the request or answer of the cell that a text spells, or the first thing that is wrong with it
abbrev pub message_of : Text → Result Rm Fault
message_of hex = message_in (decode_of hex)

-- a request or an answer as the hexadecimal text of the one cell that is written for it
abbrev pub message_hex : Rm → Text
message_hex rm = encode_lower (written_of rm)

unfoldable pub vc_text : Channel → Text
vc_text vc = codes "vpi " ⋅ decimal vc.vpi ⋅ codes " vci " ⋅ decimal vc.vci

unfoldable pub rates_text : (floor ask : ℕ) → Text
rates_text floor ask = codes "floor " ⋅ code_text (code_of floor) ⋅ codes " ask " ⋅ code_text (code_of ask)

unfoldable pub terms_text : Terms → Text
terms_text terms = vc_text terms.vc ⋅ codes " seq " ⋅ decimal terms.seq ⋅ codes " " ⋅ rates_text terms.floor terms.ask

-- which message it is
abbrev pub kind_text : Rm → Text
kind_text (Request terms) = codes "request"
kind_text (Answer reply) = if reply.granted then codes "answer yes" else codes "answer no"

-- what a request or an answer says
abbrev pub message_text : Rm → Text
message_text rm = kind_text rm ⋅ codes " " ⋅ terms_text (request_of rm)

abbrev pub cell_line : Rm → Text
cell_line rm = message_text rm ⋅ newline

abbrev pub cell_text_of : Result Rm Fault → Result Text Fault
cell_text_of (Ok rm) = Ok (cell_line rm)
cell_text_of (Err found) = Err found

abbrev pub cell_text : Text → Result Text Fault
cell_text hex = cell_text_of (message_of hex)
