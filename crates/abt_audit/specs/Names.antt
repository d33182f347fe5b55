-- The names of what is wrong with a line (docs/JOURNALS.md, "Faults").
use Rattle.std.specs.Prelude.{◌-◌, List, [], ◌∷◌, codes, slice_get, string_bytes, Option, Some, None, String}
use Rattle.std.specs.declared.alloc.Global.{Global}
use Rattle.abt_text.specs.Text.{Text, ◌⋅◌, decimal, newline}
use Rattle.abt_entry.specs.Members.{member_name}
use Rattle.abt_entry.specs.declared.fault.LineFault.{LineFault}
use Rattle.abt_entry.specs.declared.fault.LineFault.TheVariants as line
use Rattle.abt_journal_text.specs.declared.fault.Cause.{Cause}
use Rattle.abt_journal_text.specs.declared.fault.Cause.TheVariants as cause
use Rattle.abt_journal_text.specs.declared.fault.TextFault.{TextFault}
use Rattle.abt_journal_text.specs.declared.spot.Spot.{Spot}
use Rattle.abt_perform.specs.Names.{net_fault_name, rm_fault_name}

abbrev pub line_name : LineFault → Text
line_name line.Utf8 = codes "NotUtf8"
line_name line.Json = codes "Json"
line_name line.Twice = codes "Twice"
line_name line.Kind = codes "Kind"
line_name (line.Member member) = codes "Member " ⋅ member_name member
line_name line.Hex = codes "hex"
line_name (line.Cell fault) = rm_fault_name fault
line_name line.Memory = codes "memory"

abbrev pub cause_name : Cause → Text
cause_name cause.TooLong = codes "TooLong"
cause_name cause.Behind = codes "Behind"
cause_name (cause.Line fault) = line_name fault
cause_name cause.NoNet = codes "NoNet"
cause_name cause.SecondNet = codes "SecondNet"
cause_name (cause.Net fault) = codes "Net " ⋅ net_fault_name fault
cause_name cause.NoPort = codes "NoPort"
cause_name cause.NoSource = codes "NoSource"
cause_name cause.Place = codes "Place"
cause_name cause.Read = codes "read"
cause_name cause.Endless = codes "Endless"
cause_name cause.Memory = codes "memory"

-- the name of a text; the standard input has none
abbrev pub name_in : Option (String Global) → Text
name_in (Some name) = string_bytes name
name_in None = codes "-"

-- where a line stands: the name of its text, by these names, and its number there
abbrev pub spot_head : List (String Global) → Spot → Text
spot_head names spot = name_in (slice_get names (spot.text - 1)) ⋅ codes ":" ⋅ decimal spot.line ⋅ codes ": "

-- what is told of a fault of a text
abbrev pub text_fault_line : List (String Global) → TextFault → Text
text_fault_line names fault = codes "fault: " ⋅ spot_head names fault.spot ⋅ cause_name fault.cause ⋅ newline

-- what is told of a line that is cut, and left out
abbrev pub note_line : Spot → Text
note_line spot = codes "note: text " ⋅ decimal spot.text ⋅ codes " ends in the middle of line " ⋅ decimal spot.line ⋅ newline

abbrev pub note_lines : List Spot → Text
note_lines [] = []
note_lines (spot ∷ more) = note_line spot ⋅ note_lines more
