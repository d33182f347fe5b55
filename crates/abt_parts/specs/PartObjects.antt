-- The answers of a policer, a shaper, a port and a reader of cells, as objects (docs/FORMATS.md, "Parts by hand").
use Rattle.std.specs.Prelude.{◌≡◌, ℕ, ◌+◌, ◌==◌, nat_lt, if◌then◌else◌, List, [], ◌++◌, Option, Some, None, Result, Ok, Err, codes}
use Rattle.json.specs.Token.{Token}
use Rattle.abt_rate.specs.Limits.{arrive_max, emit_max}
use Rattle.abt_rate.specs.Rate.{spacing_of}
use Rattle.abt_cell.specs.Codec.{request_of}
use Rattle.abt_cell.specs.declared.message.Rm.{Rm}
use Rattle.abt_cell.specs.declared.message.Rm.TheVariants.{Request, Answer}
use Rattle.abt_entry.specs.ObjectMembers.{number_member, text_member}
use Rattle.abt_format.specs.Names.{verdict_name}
use Rattle.abt_gcra.specs.Policing.{Policing, policed}
use Rattle.abt_gcra.specs.declared.verdict.Verdict.{Verdict}
use Rattle.abt_json.specs.Kinds.{exact_members, kind_object}
use Rattle.abt_json.specs.Objects.{message_members}
use Rattle.abt_node.specs.Names.{drop_name}
use Rattle.abt_node.specs.Table.{Table, answer_to, reply_to, sum_of}
use Rattle.abt_node.specs.declared.reply.Back.{Back}
use Rattle.abt_node.specs.declared.reply.Back.TheVariants as back
use Rattle.abt_node.specs.declared.reply.DropCause.{DropCause}
use Rattle.abt_node.specs.declared.reply.Onward.{Onward}
use Rattle.abt_node.specs.declared.reply.Onward.TheVariants as onward
use Rattle.abt_perform.specs.CellText.{message_hex}
use Rattle.abt_perform.specs.Names as perform
use Rattle.abt_perform.specs.PortText.{table_knowing}
use Rattle.abt_perform.specs.declared.fault.Fault.{Fault}
use Rattle.abt_perform.specs.declared.fault.Fault.TheVariants.{Full}
use Rattle.abt_shaper.specs.Shaping.{Shaping}
use Rattle.abt_text.specs.Text.{Text}
use Rattle.abt_lines.specs.Runs.{Ends, Steps}
use Rattle.abt_parts.specs.Cells.{message_on, served_past}
use Rattle.abt_parts.specs.LineObjects.{IsObject, fault_object, line_object, moment_members, named_fault_object, object_to, objects_of}
use Rattle.abt_parts.specs.Lines.{moment_of}
use Rattle.abt_parts.specs.Police.{early_of, policed_past}
use Rattle.abt_parts.specs.Shape.{leaves_at, shaped_past}
use Rattle.abt_parts.specs.declared.fault.LineFault.TheVariants.{ClockBack, TimeRange, Zero}
use Rattle.abt_parts.specs.declared.police_objects.PolicedObjects.{PolicedObjects}
use Rattle.abt_parts.specs.declared.read_objects.ReadObjects.{ReadObjects}
use Rattle.abt_parts.specs.declared.serve_objects.ServedObjects.{ServedObjects}
use Rattle.abt_parts.specs.declared.shape_objects.ShapedObjects.{ShapedObjects}

-- a cell's verdict and how early it came
abbrev pub judged_members : Verdict → (early : ℕ) → List Token
judged_members verdict early =
    text_member (codes "verdict") (verdict_name verdict) ++ number_member (codes "early") early

-- the theoretical arrival time before a cell and after it
abbrev pub tat_members : (before after : Policing) → List Token
tat_members before after =
    moment_members (codes "tat") (codes "tat_text") before.tat ++ moment_members (codes "then") (codes "then_text") after.tat

abbrev pub verdict_members : Policing → ℕ → Verdict × Policing → List Token
verdict_members before at judged =
    exact_members (codes "at") (codes "at_text") at ++ judged_members judged.0 (early_of before at) ++ tat_members before judged.1

-- a cell that arrives where a rate is held: before the clock or too late it has a fault
abbrev pub arrival_object : ℕ → Policing → (held at : ℕ) → Text
arrival_object number policing held at =
    if nat_lt at policing.clock then fault_object number ClockBack
    else if nat_lt arrive_max at then fault_object number TimeRange
    else line_object (codes "arrival") number (verdict_members policing at (policed policing at held))

abbrev pub policed_object : (held : ℕ) → ℕ → Policing → Option Text → Text
policed_object held number policing line = object_to (arrival_object number policing held) number (moment_of line)

-- when a cell is ready, when it leaves, and from when on the next one may
abbrev pub leaving_members : (ready leaves next : ℕ) → List Token
leaving_members ready leaves next =
    exact_members (codes "ready") (codes "ready_text") ready ++ exact_members (codes "leaves") (codes "leaves_text") leaves
    ++ exact_members (codes "next") (codes "next_text") next

-- a cell that is ready at a moment: too late, or without a rate, it has a fault
abbrev pub ready_object : ℕ → Shaping → (rate ready : ℕ) → Text
ready_object number shaping rate ready =
    if nat_lt emit_max (leaves_at shaping ready) then fault_object number TimeRange
    else if rate == 0 then fault_object number Zero
    else line_object (codes "leaving") number (leaving_members ready (leaves_at shaping ready) (leaves_at shaping ready + spacing_of rate))

abbrev pub shaped_object : (rate : ℕ) → ℕ → Shaping → Option Text → Text
shaped_object rate number shaping line = object_to (ready_object number shaping rate) number (moment_of line)

-- a cell that isn't read, or isn't served
abbrev pub cell_fault_object : ℕ → Fault → Text
cell_fault_object number fault = named_fault_object number (perform.fault_name fault)

-- what the request or the answer of a cell says, or the fault of the cell
abbrev pub read_object : ℕ → Result Rm Fault → Text
read_object number (Ok rm) = line_object (codes "message") number (message_members rm)
read_object number (Err found) = cell_fault_object number found

-- what goes on or back: the cell that is written for a message
abbrev pub sent_object : ℕ → (kind : Text) → Rm → Text
sent_object number kind rm = line_object kind number (text_member (codes "cell") (message_hex rm))

abbrev pub drop_object : ℕ → DropCause → Text
drop_object number cause = line_object (codes "drop") number (text_member (codes "cause") (drop_name cause))

abbrev pub onward_object : ℕ → Rm → Onward → Text
onward_object number rm onward.Pass = sent_object number (codes "pass") rm
onward_object number rm (onward.Refuse answer) = sent_object number (codes "refuse") (Answer answer)
onward_object number rm (onward.Drop cause) = drop_object number cause

abbrev pub back_object : ℕ → Rm → Back → Text
back_object number rm back.Pass = sent_object number (codes "pass") rm
back_object number rm (back.Drop cause) = drop_object number cause

-- the decision of a port on a message of a connection that it knows
abbrev pub decision_object : ℕ → Table → Rm → Text
decision_object number table (Request terms) = onward_object number (Request terms) (reply_to table terms)
decision_object number table (Answer reply) = back_object number (Answer reply) (answer_to table reply)

-- or of one that it can't add
abbrev pub known_object : ℕ → Option Table → Rm → Text
known_object number (Some table) rm = decision_object number table rm
known_object number None rm = cell_fault_object number Full

abbrev pub port_object : ℕ → Table → Result Rm Fault → Text
port_object number table (Ok rm) = known_object number (table_knowing table (request_of rm).vc) rm
port_object number table (Err fault) = cell_fault_object number fault

abbrev pub served_object : ℕ → Table → Option Text → Text
served_object number table line = port_object number table (message_on line)

-- what is said behind the last cell that a port served
abbrev pub total_object : Table → Text
total_object table = kind_object (codes "total") (number_member (codes "total") (sum_of table))

-- the steps of the four, and what they say behind the last line
abbrev pub PolicesObject : Steps PolicedObjects
PolicesObject old number line said new =
    IsObject (policed_object old.held) (policed_past old.held) old.policer number line said new.policer × (new.held ≡ old.held)

abbrev pub ShapesObject : Steps ShapedObjects
ShapesObject old number line said new =
    IsObject (shaped_object old.rate) (shaped_past old.rate) old.shaper number line said new.shaper × (new.rate ≡ old.rate)

abbrev pub ReadsObject : Steps ReadObjects
ReadsObject old number line said new = said ≡ read_object number (message_on line)

abbrev pub ServesObject : Steps ServedObjects
ServesObject old number line said new = IsObject served_object served_past old.port number line said new.port

abbrev pub EndsSilent : {A : Type 0} → Ends A
EndsSilent last number said = said ≡ []

abbrev pub EndsByTotal : Ends ServedObjects
EndsByTotal last number said = said ≡ total_object last.port

-- their answers to some lines, the first of this number
abbrev pub policed_objects : (held : ℕ) → Policing → ℕ → List (Option Text) → Text
policed_objects held = objects_of (policed_object held) (policed_past held) (λ _. [])

abbrev pub shaped_objects : (rate : ℕ) → Shaping → ℕ → List (Option Text) → Text
shaped_objects rate = objects_of (shaped_object rate) (shaped_past rate) (λ _. [])

abbrev pub read_objects : ℕ → List (Option Text) → Text
read_objects = objects_of (λ number _ line. read_object number (message_on line)) (λ kept _. kept) (λ _. []) (tt {0})

abbrev pub served_objects : Table → ℕ → List (Option Text) → Text
served_objects = objects_of served_object served_past total_object
