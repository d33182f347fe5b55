-- What is said as JSON of rates, cells, outcomes and traces: the objects, a line each (docs/FORMATS.md, "JSON").
use Rattle.std.specs.Prelude.{ℕ, ◌+◌, List, [], ◌∷◌, ◌++◌, Bool, codes, ◌==◌, if◌then◌else◌, Option, Some, None, Result, Ok, Err}
use Rattle.json.specs.Token.{Token, key, string, number, boolean, null, begin_array, end_array}
use Rattle.abt_rate.specs.Rate.{spacing_of}
use Rattle.abt_rate.specs.Code.{code_of}
use Rattle.abt_cell.specs.Channel.{Channel}
use Rattle.abt_cell.specs.Codec.{request_of}
use Rattle.abt_cell.specs.Message.{Terms}
use Rattle.abt_cell.specs.declared.message.Rm.{Rm}
use Rattle.abt_cell.specs.declared.message.Rm.TheVariants.{Request, Answer}
use Rattle.abt_model.specs.declared.outcome.Outcome.{Outcome}
use Rattle.abt_model.specs.declared.outcome.Outcome.TheVariants.{Started, StartRefused, Asked, AskRefused, Repeated, Crashed, Emitted, EmitRefused, Arrived, Requested, Turned, Answered, Told, CapacitySet, CapacityRefused, NotEnabled}
use Rattle.abt_node.specs.Names.{drop_name}
use Rattle.abt_node.specs.declared.reply.Back.{Back}
use Rattle.abt_node.specs.declared.reply.Back.TheVariants as back
use Rattle.abt_node.specs.declared.reply.Onward.{Onward}
use Rattle.abt_node.specs.declared.reply.Onward.TheVariants as onward
use Rattle.abt_shaper.specs.declared.fault.ShapeFault.{ShapeFault}
use Rattle.abt_shaper.specs.declared.fault.ShapeFault.TheVariants.{ClockBack, TimeRange, Zero, TooSoon}
use Rattle.abt_format.specs.Values.{rate_of}
use Rattle.abt_format.specs.Names.{cause_name, verdict_name, heard_name, start_fault_name, ask_fault_name, capacity_fault_name}
use Rattle.abt_text.specs.Text.{Text, ◌⋅◌, decimal, code_text}
use Rattle.abt_model.specs.declared.trace.Trace.{Trace}
use Rattle.abt_perform.specs.CellText.{message_of}
use Rattle.abt_perform.specs.declared.fault.Fault.{Fault}
use Rattle.abt_perform.specs.declared.fault.Fault.TheVariants.{Code}
use Rattle.abt_entry.specs.ObjectMembers.{text_member, number_member, rate_member}
use Rattle.abt_json.specs.Kinds.{exact_members, kind_object}

-- the spacing of a rate's cells in picoseconds, null for the rate 0
abbrev pub spacing_token : ℕ → Token
spacing_token units = if units == 0 then null else number (decimal (spacing_of units))

abbrev pub spacing_member : ℕ → List Token
spacing_member units = key (codes "spacing") ∷ spacing_token units ∷ []

-- the code of a rate, its units and its spacing
abbrev pub rate_members : ℕ → List Token
rate_members units = rate_member (codes "code") units ++ number_member (codes "units") units ++ spacing_member units

abbrev pub rate_object : ℕ → Text
rate_object units = kind_object (codes "rate") (rate_members units)

abbrev pub rate_json_of : Option ℕ → Result Text Fault
rate_json_of (Some units) = Ok (rate_object units)
rate_json_of None = Err Code

-- what a rate code means
abbrev pub rate_json : Text → Result Text Fault
rate_json code = rate_json_of (rate_of code)

-- which message it is
abbrev pub message_name : Rm → Text
message_name (Request terms) = codes "request"
message_name (Answer reply) = if reply.granted then codes "yes" else codes "no"

abbrev pub rates_members : (floor ask : ℕ) → List Token
rates_members floor ask = rate_member (codes "floor") floor ++ rate_member (codes "ask") ask

-- the number of a request, its floor and its asked rate
abbrev pub request_members : Terms → List Token
request_members request = number_member (codes "seq") request.seq ++ rates_members request.floor request.ask

abbrev pub channel_members : Channel → List Token
channel_members vc = number_member (codes "vpi") vc.vpi ++ number_member (codes "vci") vc.vci

-- a request, or the request that is answered, with its channel
abbrev pub terms_members : Terms → List Token
terms_members request = channel_members request.vc ++ request_members request

-- which message it is, and its request
abbrev pub message_members : Rm → List Token
message_members rm = text_member (codes "message") (message_name rm) ++ terms_members (request_of rm)

abbrev pub cell_object : Rm → Text
cell_object rm = kind_object (codes "message") (message_members rm)

abbrev pub cell_json_of : Result Rm Fault → Result Text Fault
cell_json_of (Ok rm) = Ok (cell_object rm)
cell_json_of (Err found) = Err found

-- what the cell says that a text spells
abbrev pub cell_json : Text → Result Text Fault
cell_json hex = cell_json_of (message_of hex)

abbrev pub outcome_named : Text → List Token
outcome_named name = text_member (codes "outcome") name

-- an outcome with the name of a fault, a cause or what else it is about
abbrev pub outcome_with : (name member text : Text) → List Token
outcome_with name member text = outcome_named name ++ text_member member text

abbrev pub refused_members : Text → List Token
refused_members fault = outcome_with (codes "refused") (codes "fault") fault

-- when the next cell may leave, in picoseconds
abbrev pub next_members : ℕ → List Token
next_members next = exact_members (codes "next") (codes "next_text") next

abbrev pub shape_fault_members : ShapeFault → List Token
shape_fault_members ClockBack = refused_members (codes "ClockBack")
shape_fault_members TimeRange = refused_members (codes "TimeRange")
shape_fault_members Zero = refused_members (codes "Zero")
shape_fault_members (TooSoon next) = refused_members (codes "TooSoon") ++ next_members next

abbrev pub dropped_members : Text → List Token
dropped_members cause = outcome_with (codes "dropped") (codes "cause") cause

abbrev pub onward_members : Onward → List Token
onward_members onward.Pass = outcome_named (codes "passed")
onward_members (onward.Refuse answer) = outcome_named (codes "refuses")
onward_members (onward.Drop cause) = dropped_members (drop_name cause)

abbrev pub back_members : Back → List Token
back_members back.Pass = outcome_named (codes "passed")
back_members (back.Drop cause) = dropped_members (drop_name cause)

abbrev pub outcome_members : Outcome → List Token
outcome_members Started = outcome_named (codes "started")
outcome_members (StartRefused fault) = refused_members (start_fault_name fault)
outcome_members (Asked request) = outcome_named (codes "asked") ++ request_members request
outcome_members (AskRefused fault) = refused_members (ask_fault_name fault)
outcome_members (Repeated request) = outcome_named (codes "again") ++ request_members request
outcome_members Crashed = outcome_named (codes "crashed")
outcome_members (Emitted cell next) =
    outcome_named (codes "emitted") ++ number_member (codes "cell") cell ++ next_members next
outcome_members (EmitRefused fault) = shape_fault_members fault
outcome_members (Arrived verdict) = outcome_with (codes "arrived") (codes "verdict") (verdict_name verdict)
outcome_members (Requested reply) = onward_members reply
outcome_members Turned = outcome_named (codes "turned")
outcome_members (Answered reply) = back_members reply
outcome_members (Told heard) = outcome_with (codes "told") (codes "heard") (heard_name heard)
outcome_members CapacitySet = outcome_named (codes "set")
outcome_members (CapacityRefused fault) = refused_members (capacity_fault_name fault)
outcome_members (NotEnabled cause) = outcome_with (codes "not-enabled") (codes "cause") (cause_name cause)

abbrev pub outcome_object : ℕ → Outcome → Text
outcome_object place outcome = kind_object (codes "event") (number_member (codes "event") place ++ outcome_members outcome)

-- an object for each outcome, numbered on
abbrev pub outcome_objects : ℕ → List Outcome → Text
outcome_objects place [] = []
outcome_objects place (outcome ∷ outcomes) = outcome_object place outcome ⋅ outcome_objects (place + 1) outcomes

-- the codes of some rates
abbrev pub rate_strings : List ℕ → List Token
rate_strings [] = []
rate_strings (rate ∷ rates) = string (code_text (code_of rate)) ∷ rate_strings rates

-- the rates that the hops of a path hold
abbrev pub held_member : List ℕ → List Token
held_member held = key (codes "held") ∷ begin_array ∷ (rate_strings held ++ end_array ∷ [])

abbrev pub conn_object : ℕ → ℕ → List ℕ → Text
conn_object conn rate held =
    kind_object (codes "connection") (number_member (codes "connection") conn ++ rate_member (codes "rate") rate ++ held_member held)

-- an object for each connection, numbered on, with its rate and what its hops hold
abbrev pub conn_objects : ℕ → List ℕ → List (List ℕ) → Text
conn_objects conn (rate ∷ rates) (held ∷ more) = conn_object conn rate held ⋅ conn_objects (conn + 1) rates more
conn_objects conn _ _ = []

abbrev pub port_object : ℕ → ℕ → ℕ → Text
port_object port total capacity =
    kind_object (codes "port")
    (number_member (codes "port") port ++ exact_members (codes "total") (codes "total_text") total
    ++ exact_members (codes "capacity") (codes "capacity_text") capacity)

-- an object for each port, numbered on, with its total and its capacity
abbrev pub port_objects : ℕ → List ℕ → List ℕ → Text
port_objects port (total ∷ totals) (capacity ∷ capacities) = port_object port total capacity ⋅ port_objects (port + 1) totals capacities
port_objects port _ _ = []

abbrev pub safe_object : Bool → Text
safe_object safe = kind_object (codes "end") (key (codes "safe") ∷ boolean safe ∷ [])

-- how the net stands in the end
abbrev pub end_objects : Trace → Text
end_objects trace =
    conn_objects 0 trace.rates trace.held ⋅ port_objects 0 trace.totals trace.capacities ⋅ safe_object trace.safe

-- the outcomes of a run of events, and the net in the end
abbrev pub trace_objects : Trace → Text
trace_objects trace = outcome_objects 1 trace.outcomes ⋅ end_objects trace
