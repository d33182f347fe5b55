-- What a line says of a step of a port (docs/JOURNALS.md, "Ports").
use Rattle.std.specs.Prelude.{ℕ, ◌^◌, if◌then◌else◌, codes, Option, None, Some, option_and_then, Ok, Err}
use Rattle.std.specs.Str.{bytes_eq}
use Rattle.json.specs.Json.{Json}
use Rattle.json.specs.Find.{as_str}
use Rattle.abt_journal.specs.declared.entry.Entry.{Entry}
use Rattle.abt_journal.specs.declared.input.PortInput.{PortInput}
use Rattle.abt_journal.specs.declared.input.PortInput.TheVariants as input
use Rattle.abt_journal.specs.declared.input.PortReply.{PortReply}
use Rattle.abt_journal.specs.declared.input.PortReply.TheVariants as reply
use Rattle.abt_node.specs.declared.reply.Back.{Back}
use Rattle.abt_node.specs.declared.reply.Back.TheVariants as back
use Rattle.abt_node.specs.declared.reply.Onward.{Onward}
use Rattle.abt_node.specs.declared.reply.Onward.TheVariants as onward
use Rattle.abt_text.specs.Text.{Text}
use Rattle.abt_entry.specs.declared.fault.LineFault.TheVariants as fault
use Rattle.abt_entry.specs.declared.member.Member.{Member}
use Rattle.abt_entry.specs.declared.member.Member.TheVariants as of
use Rattle.abt_entry.specs.Cells.{channel_in, request_in, answer_in}
use Rattle.abt_text.specs.FirstFault.{◌>>=◌}
use Rattle.abt_entry.specs.Reading.{Read, needed}
use Rattle.abt_entry.specs.Values.{find, member_at, whole_of, whole_at, if_there}
use Rattle.abt_entry.specs.Words.{drop_of, verdict_of, arrive_fault_of, capacity_fault_of}

abbrev pub arrive_in : Json → Read PortInput
arrive_in json = do
  vc ← channel_in json
  at ← whole_at (2 ^ 64) of.At json
  Ok (input.Arrive vc at)

-- the input of the port: one of `request`, `answer`, `arrive` and `capacity`
abbrev pub input_in : Json → Read PortInput
input_in json =
    if_there (find of.Request json) (λ cell. request_in of.Request cell >>= (λ request. Ok (input.Request request)))
    (if_there (find of.Answer json) (λ cell. answer_in of.Answer cell >>= (λ answer. Ok (input.Answer answer)))
    (if_there (find of.Arrive json) arrive_in
    (if_there (find of.Capacity json) (λ units. whole_of (2 ^ 64) of.Capacity units >>= (λ capacity. Ok (input.Capacity capacity)))
    (Err fault.Kind))))

-- the word `passed`, or else what an object says
abbrev pub if_passed : {A : Type 0} → A → Option Text → Read A → Read A
if_passed pass (Some word) other = if bytes_eq word (codes "passed") then Ok pass else Err (fault.Member of.Reply)
if_passed pass None other = other

-- the reply to a request
abbrev pub onward_in : Json → Read Onward
onward_in json =
    if_passed onward.Pass (as_str json)
    (if_there (find of.Refused json) (λ cell. answer_in of.Refused cell >>= (λ answer. Ok (onward.Refuse answer)))
    (if_there (find of.Dropped json) (λ word. needed of.Dropped (option_and_then drop_of (as_str word)) >>= (λ cause. Ok (onward.Drop cause)))
    (Err fault.Kind)))

-- the reply to an answer
abbrev pub back_in : Json → Read Back
back_in json =
    if_passed back.Pass (as_str json)
    (if_there (find of.Dropped json) (λ word. needed of.Dropped (option_and_then drop_of (as_str word)) >>= (λ cause. Ok (back.Drop cause)))
    (Err fault.Kind))

-- the verdict on a data cell, or why it has none
abbrev pub judged_in : Json → Read PortReply
judged_in json =
    if_there (find of.Arrived json) (λ word. needed of.Arrived (option_and_then verdict_of (as_str word)) >>= (λ verdict. Ok (reply.Arrived (Ok verdict))))
    (if_there (find of.Refused json) (λ word. needed of.Refused (option_and_then arrive_fault_of (as_str word)) >>= (λ why. Ok (reply.Arrived (Err why))))
    (Err fault.Kind))

-- the word `set`, or why the link keeps the capacity that it had
abbrev pub if_set : Option Text → Read PortReply → Read PortReply
if_set (Some word) other = if bytes_eq word (codes "set") then Ok (reply.Capped (Ok tt)) else Err (fault.Member of.Reply)
if_set None other = other

abbrev pub capped_in : Json → Read PortReply
capped_in json =
    if_set (as_str json)
    (if_there (find of.Refused json) (λ word. needed of.Refused (option_and_then capacity_fault_of (as_str word)) >>= (λ why. Ok (reply.Capped (Err why))))
    (Err fault.Kind))

-- the reply of the port to an input of this kind
abbrev pub reply_in : PortInput → Json → Read PortReply
reply_in (input.Request request) json = onward_in json >>= (λ onward. Ok (reply.Requested onward))
reply_in (input.Answer answer) json = back_in json >>= (λ back. Ok (reply.Answered back))
reply_in (input.Arrive vc at) json = judged_in json
reply_in (input.Capacity capacity) json = capped_in json

-- who had it done: 0 if that isn't said
abbrev pub caller_in : Option Json → Read ℕ
caller_in None = Ok 0
caller_in (Some json) = whole_of (2 ^ 16) of.Caller json

-- its place: 0 if that isn't said
abbrev pub place_in : Option Json → Read ℕ
place_in None = Ok 0
place_in (Some json) = whole_of (2 ^ 64) of.Place json

-- a step of a port
abbrev pub step_in : Json → Read Entry
step_in json = do
  place ← place_in (find of.Place json)
  caller ← caller_in (find of.Caller json)
  at_input ← member_at of.Input json
  came ← input_in at_input
  at_reply ← member_at of.Reply json
  replied ← reply_in came at_reply
  Ok (record { place = place; caller = caller; input = came; reply = replied })
