-- A request or an answer by its words (docs/FORMATS.md, "Cells in words").
use Rattle.std.specs.Prelude.{ℕ, ◌^◌, ◌==◌, nat_lt, if◌then◌else◌, Option, Some, None, Result, Ok, Err, true, false, string_bytes}
use Rattle.abt_cell.specs.Message.{Terms, answer_to}
use Rattle.abt_cell.specs.declared.message.Rm.{Rm}
use Rattle.abt_cell.specs.declared.message.Rm.TheVariants as rm
use Rattle.abt_format.specs.Values.{rate_of}
use Rattle.abt_text.specs.FirstFault.{◌>>=◌}
use Rattle.abt_text.specs.Words.{number_below}
use Rattle.abt_codes.specs.declared.message.Kind.{Kind}
use Rattle.abt_codes.specs.declared.message.Kind.TheVariants.{Request, Yes, No}
use Rattle.abt_codes.specs.declared.message.MessageWords.{MessageWords}
use Rattle.abt_codes.specs.declared.fault.CodesFault.{CodesFault}
use Rattle.abt_codes.specs.declared.fault.CodesFault.TheVariants.{Vpi, Vci, Seq, SeqZero, Floor, Ask, RateOrder}

-- a number or a rate that a word says, or the fault of that word
abbrev pub or_fault : CodesFault → Option ℕ → Result ℕ CodesFault
or_fault fault (Some number) = Ok number
or_fault fault None = Err fault

-- a request, or a yes or a no to it
abbrev pub rm_of : Kind → Terms → Rm
rm_of Request terms = rm.Request terms
rm_of Yes terms = rm.Answer (answer_to terms true)
rm_of No terms = rm.Answer (answer_to terms false)

-- numbers begin with 1, and the asked rate isn't below the floor
abbrev pub rm_with : Kind → Terms → Result Rm CodesFault
rm_with kind terms =
    if terms.seq == 0 then Err SeqZero
    else if nat_lt terms.ask terms.floor then Err RateOrder
    else Ok (rm_of kind terms)

-- the message that words say, or the fault of the first word that is wrong
abbrev pub rm_in : MessageWords → Result Rm CodesFault
rm_in words = do
  vpi ← or_fault Vpi (number_below (2 ^ 12) (string_bytes words.vpi))
  vci ← or_fault Vci (number_below (2 ^ 16) (string_bytes words.vci))
  seq ← or_fault Seq (number_below (2 ^ 32) (string_bytes words.seq))
  floor ← or_fault Floor (rate_of (string_bytes words.floor))
  ask ← or_fault Ask (rate_of (string_bytes words.ask))
  rm_with words.kind (record { vc = record { vpi = vpi; vci = vci }; seq = seq; floor = floor; ask = ask })
