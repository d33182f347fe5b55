-- Channels, requests and answers in members.
use Rattle.std.specs.Prelude.{ℕ, ◌^◌, nat_le, nat_lt, if◌then◌else◌, List, Option, Some, None, Result, Ok, Err}
use Rattle.json.specs.Json.{Json}
use Rattle.json.specs.Find.{as_str}
use Rattle.hex.specs.Hex.{decode_sized}
use Rattle.hex.specs.declared.error.FromHexError.{FromHexError}
use Rattle.abt_cell.specs.Channel.{Channel}
use Rattle.abt_cell.specs.Codec.{read_of}
use Rattle.abt_cell.specs.Message.{Terms, Reply}
use Rattle.abt_cell.specs.declared.fault.RmFault.{RmFault}
use Rattle.abt_cell.specs.declared.message.Rm.{Rm}
use Rattle.abt_cell.specs.declared.message.Rm.TheVariants as rm
use Rattle.abt_text.specs.Text.{Text}
use Rattle.abt_entry.specs.declared.fault.LineFault.TheVariants as fault
use Rattle.abt_entry.specs.declared.member.Member.{Member}
use Rattle.abt_entry.specs.declared.member.Member.TheVariants as of
use Rattle.abt_text.specs.FirstFault.{◌>>=◌}
use Rattle.abt_entry.specs.Reading.{Read}
use Rattle.abt_entry.specs.Values.{whole_at, rate_at, truth_at}

-- `vpi` and `vci`: 12 bits and 16
abbrev pub channel_in : Json → Read Channel
channel_in json = do
  vpi ← whole_at (2 ^ 12) of.Vpi json
  vci ← whole_at (2 ^ 16) of.Vci json
  Ok (record { vpi = vpi; vci = vci })

-- a number is from 1 on, and no ask is below its floor
abbrev pub terms_of : Channel → (seq floor ask : ℕ) → Read Terms
terms_of vc seq floor ask =
    if nat_lt 0 seq then
    if nat_le floor ask then Ok (record { vc = vc; seq = seq; floor = floor; ask = ask }) else Err (fault.Member of.Ask)
    else Err (fault.Member of.Seq)

-- a request by its fields
abbrev pub terms_in : Json → Read Terms
terms_in json = do
  vc ← channel_in json
  seq ← whole_at (2 ^ 32) of.Seq json
  floor ← rate_at of.Floor json
  ask ← rate_at of.Ask json
  terms_of vc seq floor ask

-- an answer by its fields
abbrev pub reply_in : Json → Read Reply
reply_in json = do
  terms ← terms_in json
  granted ← truth_at of.Granted json
  Ok (record { terms = terms; granted = granted })

abbrev pub read_rm : Result Rm RmFault → Read Rm
read_rm (Ok message) = Ok message
read_rm (Err e) = Err (fault.Cell e)

abbrev pub read_octets : Result (List ℕ) FromHexError → Read Rm
read_octets (Ok octets) = read_rm (read_of octets)
read_octets (Err e) = Err fault.Hex

-- the message of an RM cell of 52 octets in hexadecimal digits
abbrev pub message_of : Text → Read Rm
message_of text = read_octets (decode_sized text 52)

abbrev pub only_request : Member → Rm → Read Terms
only_request name (rm.Request terms) = Ok terms
only_request name (rm.Answer reply) = Err (fault.Member name)

abbrev pub only_answer : Member → Rm → Read Reply
only_answer name (rm.Request terms) = Err (fault.Member name)
only_answer name (rm.Answer reply) = Ok reply

abbrev pub request_by : Member → Json → Option Text → Read Terms
request_by name json None = terms_in json
request_by name json (Some text) = message_of text >>= only_request name

-- a request: the cell as a text, or else its fields
abbrev pub request_in : Member → Json → Read Terms
request_in name json = request_by name json (as_str json)

abbrev pub answer_by : Member → Json → Option Text → Read Reply
answer_by name json None = reply_in json
answer_by name json (Some text) = message_of text >>= only_answer name

-- an answer: the cell as a text, or else its fields
abbrev pub answer_in : Member → Json → Read Reply
answer_in name json = answer_by name json (as_str json)
