-- Steps of ports and entries of sources, as they are written (docs/JOURNALS.md).
use Rattle.std.specs.Prelude.{ℕ, Bool, List, [], ◌∷◌, ◌++◌, codes, Ok, Err}
use Rattle.std.specs.Fmt.{decimal}
use Rattle.json.specs.Json.{Json, string, boolean, object, no_members}
use Rattle.json.specs.Token as token
use Rattle.json.specs.Tree.{json_tokens}
use Rattle.abt_cell.specs.Channel.{Channel}
use Rattle.abt_journal.specs.declared.entry.Entry.{Entry}
use Rattle.abt_journal.specs.declared.input.PortInput.{PortInput}
use Rattle.abt_journal.specs.declared.input.PortInput.TheVariants as input
use Rattle.abt_journal.specs.declared.input.PortReply.{PortReply}
use Rattle.abt_journal.specs.declared.input.PortReply.TheVariants as reply
use Rattle.abt_model.specs.declared.event.Event.{Event}
use Rattle.abt_model.specs.declared.event.Event.TheVariants as event
use Rattle.abt_model.specs.declared.outcome.Outcome.{Outcome}
use Rattle.abt_model.specs.declared.outcome.Outcome.TheVariants as outcome
use Rattle.abt_node.specs.Names.{drop_name}
use Rattle.abt_node.specs.declared.reply.Back.{Back}
use Rattle.abt_node.specs.declared.reply.Back.TheVariants as back
use Rattle.abt_node.specs.declared.reply.Onward.{Onward}
use Rattle.abt_node.specs.declared.reply.Onward.TheVariants as onward
use Rattle.abt_format.specs.Names.{cause_name, verdict_name, heard_name, start_fault_name, ask_fault_name, capacity_fault_name}
use Rattle.abt_shaper.specs.declared.fault.ShapeFault.{ShapeFault}
use Rattle.abt_shaper.specs.declared.fault.ShapeFault.TheVariants as shape
use Rattle.abt_model.specs.declared.entry.SourceEntry.{SourceEntry}
use Rattle.abt_model.specs.declared.entry.SourceEntry.TheVariants as entry
use Rattle.abt_keep.specs.declared.plan.StorePlan.{StorePlan}
use Rattle.abt_entry.specs.Members.{member_name}
use Rattle.abt_entry.specs.Written.{with_member, only, number_json, rate_text, rate_json, with_channel, request_json, answer_json}
use Rattle.abt_entry.specs.declared.member.Member.{Member}
use Rattle.abt_entry.specs.declared.member.Member.TheVariants as of
use Rattle.abt_entry.specs.Words.{arrive_fault_name, plan_name}

abbrev pub arrive_json : Channel → ℕ → Json
arrive_json vc at = object (with_channel vc (with_member of.At (number_json at) no_members))

abbrev pub input_json : PortInput → Json
input_json (input.Request request) = only of.Request (request_json request)
input_json (input.Answer answer) = only of.Answer (answer_json answer)
input_json (input.Arrive vc at) = only of.Arrive (arrive_json vc at)
input_json (input.Capacity capacity) = only of.Capacity (number_json capacity)

abbrev pub onward_json : Onward → Json
onward_json onward.Pass = string (codes "passed")
onward_json (onward.Refuse answer) = only of.Refused (answer_json answer)
onward_json (onward.Drop cause) = only of.Dropped (string (drop_name cause))

abbrev pub back_json : Back → Json
back_json back.Pass = string (codes "passed")
back_json (back.Drop cause) = only of.Dropped (string (drop_name cause))

abbrev pub reply_json : PortReply → Json
reply_json (reply.Requested onward) = onward_json onward
reply_json (reply.Answered back) = back_json back
reply_json (reply.Arrived (Ok verdict)) = only of.Arrived (string (verdict_name verdict))
reply_json (reply.Arrived (Err fault)) = only of.Refused (string (arrive_fault_name fault))
reply_json (reply.Capped (Ok set)) = string (codes "set")
reply_json (reply.Capped (Err fault)) = only of.Refused (string (capacity_fault_name fault))

-- a step of a port
abbrev pub step_json : ℕ → Entry → Json
step_json port entry =
    object (with_member of.Port (number_json port) (with_member of.Place (number_json entry.place) (with_member of.Caller (number_json entry.caller)
    (with_member of.Input (input_json entry.input) (with_member of.Reply (reply_json entry.reply) no_members)))))

-- an object of two numbers
abbrev pub numbers_json : Member × ℕ → Member × ℕ → Json
numbers_json first second = object (with_member first.0 (number_json first.1) (with_member second.0 (number_json second.1) no_members))

abbrev pub ask_json : ℕ → StorePlan → Json
ask_json rate plan = object (with_member of.Ask (rate_json rate) (with_member of.Store (string (plan_name plan)) no_members))

abbrev pub told_json : ℕ → Bool → Json
told_json seq granted = object (with_member of.Told (number_json seq) (with_member of.Granted (boolean granted) no_members))

-- the deed of a source; an event elsewhere has no words here
abbrev pub did_json : Event → Json
did_json (event.Start conn now) = only of.Start (number_json now)
did_json (event.Ask conn rate plan) = ask_json rate plan
did_json (event.Again conn) = string (codes "again")
did_json (event.Crash conn) = string (codes "crash")
did_json (event.Emit conn now) = only of.Emit (number_json now)
did_json (event.Told conn seq granted) = told_json seq granted
did_json elsewhere = string (codes "")

abbrev pub shape_json : ShapeFault → Json
shape_json shape.ClockBack = string (codes "ClockBack")
shape_json shape.TimeRange = string (codes "TimeRange")
shape_json shape.Zero = string (codes "Zero")
shape_json (shape.TooSoon next) = only of.TooSoon (number_json next)

abbrev pub emitted_json : (cell next : ℕ) → Json
emitted_json cell next = only of.Emitted (numbers_json (of.Cell, cell) (of.Next, next))

abbrev pub outcome_json : Outcome → Json
outcome_json outcome.Started = string (codes "started")
outcome_json (outcome.StartRefused fault) = only of.Refused (string (start_fault_name fault))
outcome_json (outcome.Asked request) = only of.Asked (request_json request)
outcome_json (outcome.AskRefused fault) = only of.Refused (string (ask_fault_name fault))
outcome_json (outcome.Repeated request) = only of.Again (request_json request)
outcome_json outcome.Crashed = string (codes "crashed")
outcome_json (outcome.Emitted cell next) = emitted_json cell next
outcome_json (outcome.EmitRefused fault) = only of.Refused (shape_json fault)
outcome_json (outcome.Told heard) = only of.Told (string (heard_name heard))
outcome_json (outcome.NotEnabled cause) = only of.NotEnabled (string (cause_name cause))
outcome_json elsewhere = string (codes "")

abbrev pub arrived_json : (cell place : ℕ) → Json
arrived_json cell place = numbers_json (of.Cell, cell) (of.Place, place)

-- an entry of the source of a connection
abbrev pub entry_json : ℕ → SourceEntry → Json
entry_json conn (entry.Did deed came) =
    object (with_member of.Source (number_json conn) (with_member of.Did (did_json deed) (with_member of.Outcome (outcome_json came) no_members)))
entry_json conn (entry.Sent place) = object (with_member of.Source (number_json conn) (with_member of.Sent (number_json place) no_members))
entry_json conn (entry.Arrived cell place) =
    object (with_member of.Source (number_json conn)
    (with_member of.Arrived (arrived_json cell place) no_members))

-- The tokens of parts of these, as they are written one after the other.
abbrev pub came_tokens : PortInput → List token.Token
came_tokens came = token.key (member_name of.Input) ∷ json_tokens (input_json came)

abbrev pub replied_tokens : PortReply → List token.Token
replied_tokens replied = token.key (member_name of.Reply) ∷ json_tokens (reply_json replied)

abbrev pub served_tokens : Entry → List token.Token
served_tokens entry = came_tokens entry.input ++ replied_tokens entry.reply

abbrev pub place_tokens : Entry → List token.Token
place_tokens entry =
    token.key (member_name of.Place) ∷ token.number (decimal entry.place) ∷ token.key (member_name of.Caller) ∷ token.number (decimal entry.caller) ∷ []

abbrev pub rest_tokens : Entry → List token.Token
rest_tokens entry = place_tokens entry ++ served_tokens entry

abbrev pub step_tokens : ℕ → Entry → List token.Token
step_tokens port entry = token.key (member_name of.Port) ∷ token.number (decimal port) ∷ rest_tokens entry

abbrev pub arrival_tokens : Channel → ℕ → List token.Token
arrival_tokens vc at =
    token.key (member_name of.Vpi) ∷ token.number (decimal vc.vpi) ∷ token.key (member_name of.Vci) ∷ token.number (decimal vc.vci)
    ∷ token.key (member_name of.At) ∷ token.number (decimal at) ∷ []

abbrev pub ask_tokens : ℕ → StorePlan → List token.Token
ask_tokens rate plan =
    token.key (member_name of.Ask) ∷ token.string (rate_text rate) ∷ token.key (member_name of.Store) ∷ token.string (plan_name plan) ∷ []

abbrev pub granted_tokens : Bool → List token.Token
granted_tokens granted = token.key (member_name of.Granted) ∷ token.boolean granted ∷ []

abbrev pub answered_tokens : ℕ → Bool → List token.Token
answered_tokens seq granted = token.key (member_name of.Told) ∷ token.number (decimal seq) ∷ granted_tokens granted

abbrev pub both_tokens : Member × ℕ → Member × ℕ → List token.Token
both_tokens first second =
    token.key (member_name first.0) ∷ token.number (decimal first.1) ∷ token.key (member_name second.0) ∷ token.number (decimal second.1) ∷ []

abbrev pub departure_tokens : (cell next : ℕ) → List token.Token
departure_tokens cell next = token.key (member_name of.Emitted) ∷ json_tokens (numbers_json (of.Cell, cell) (of.Next, next))

abbrev pub done_tokens : Event → List token.Token
done_tokens deed = token.key (member_name of.Did) ∷ json_tokens (did_json deed)

abbrev pub came_of_tokens : Outcome → List token.Token
came_of_tokens came = token.key (member_name of.Outcome) ∷ json_tokens (outcome_json came)

abbrev pub deed_tokens : Event → Outcome → List token.Token
deed_tokens deed came = done_tokens deed ++ came_of_tokens came

abbrev pub arrived_tokens : (cell place : ℕ) → List token.Token
arrived_tokens cell place = token.key (member_name of.Arrived) ∷ json_tokens (arrived_json cell place)

abbrev pub kind_tokens : SourceEntry → List token.Token
kind_tokens (entry.Did deed came) = deed_tokens deed came
kind_tokens (entry.Sent place) = token.key (member_name of.Sent) ∷ token.number (decimal place) ∷ []
kind_tokens (entry.Arrived cell place) = arrived_tokens cell place

abbrev pub members_tokens : ℕ → SourceEntry → List token.Token
members_tokens conn entry = token.key (member_name of.Source) ∷ token.number (decimal conn) ∷ kind_tokens entry
