-- What goes out when a rate's codes are asked for, or a cell is to be written.
use Rattle.std.specs.Prelude.{◌≡◌, ◌⊎◌, Bool, true, false, Option, None, Err, IsSomeAnd, IsOkAnd, codes, string_bytes}
use Rattle.std.specs.Io.KnownBytes.{Appends, Keeps}
use Rattle.abt_text.specs.Text.{Text, ◌⋅◌, newline}
use Rattle.abt_text.specs.Streams.{AppendsPrefix}
use Rattle.abt_perform.specs.CellText.{message_hex}
use Rattle.abt_perform.specs.Plans.{Tells}
use Rattle.abt_codes.specs.CodeObjects.{AreCodeObjects, written_object}
use Rattle.abt_codes.specs.CodeText.{IsCodeText}
use Rattle.abt_codes.specs.Message.{rm_in}
use Rattle.abt_codes.specs.Quantity.{quantity_in}
use Rattle.abt_codes.specs.declared.plan.CodesPlan.{CodesPlan}
use Rattle.abt_codes.specs.declared.plan.CodesPlan.TheVariants as asked
use Rattle.abt_codes.specs.declared.fault.CodesFault.{CodesFault}
use Rattle.abt_codes.specs.declared.fault.CodesFault.TheVariants.{Rate, Vpi, Vci, Seq, SeqZero, Floor, Ask, RateOrder, Write, Memory}

abbrev pub fault_name : CodesFault → Text
fault_name Rate = codes "rate"
fault_name Vpi = codes "vpi"
fault_name Vci = codes "vci"
fault_name Seq = codes "seq"
fault_name SeqZero = codes "SeqZero"
fault_name Floor = codes "floor"
fault_name Ask = codes "ask"
fault_name RateOrder = codes "RateOrder"
fault_name Write = codes "write"
fault_name Memory = codes "memory"

-- the line on standard error that tells why a plan isn't done
abbrev pub fault_line : CodesFault → Text
fault_line fault = codes "fault: " ⋅ fault_name fault ⋅ newline

-- A text is what a plan prints, in words or as JSON.
abbrev pub Says : (json : Bool) → CodesPlan → Text → Type 0
Says false (asked.Code word) text = IsSomeAnd (quantity_in (string_bytes word)) (λ quantity. IsCodeText quantity text)
Says true (asked.Code word) text = IsSomeAnd (quantity_in (string_bytes word)) (λ quantity. AreCodeObjects quantity text)
Says false (asked.Write words) text = IsOkAnd (rm_in words) (λ rm. text ≡ message_hex rm ⋅ newline)
Says true (asked.Write words) text = IsOkAnd (rm_in words) (λ rm. text ≡ written_object rm)

-- A plan has nothing to print, for this fault.
abbrev pub Refuses : CodesPlan → CodesFault → Type 0
Refuses (asked.Code word) fault = (fault ≡ Rate) × (quantity_in (string_bytes word) ≡ None)
Refuses (asked.Write words) fault = rm_in words ≡ Err fault

-- What a plan prints went out, and nothing else.
pub record IsPrinted (json : Bool) (plan : CodesPlan) (old new : Option Text) : Type 0 where
  pub text : Text
  pub says : Says json plan text
  pub written : Appends old new text

-- A part of it went out, from its beginning, and not all of it.
pub record IsPrintedPart (json : Bool) (plan : CodesPlan) (old new : Option Text) : Type 0 where
  pub text : Text
  pub says : Says json plan text
  pub written : AppendsPrefix old new text

-- what went out if a plan isn't done for this fault: a part if the output failed, and else nothing
abbrev pub EndsBy : CodesFault → (json : Bool) → CodesPlan → (old new : Option Text) → Type 0
EndsBy fault json plan old new =
    ((fault ≡ Write) × IsPrintedPart json plan old new) ⊎ (((fault ≡ Memory) ⊎ Refuses plan fault) × Keeps old new)

-- A plan that isn't done: why, what went out, and what was told.
pub record IsRefused (json : Bool) (plan : CodesPlan) (old new errors_old errors_new : Option Text) : Type 0 where
  pub fault : CodesFault
  pub printed : EndsBy fault json plan old new
  pub told : Tells (fault_line fault) errors_old errors_new
