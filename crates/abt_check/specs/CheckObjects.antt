-- How a check is told as JSON, an object a line (docs/FORMATS.md, "Checks").
use Rattle.std.specs.Prelude.{ℕ, List, [], ◌∷◌, ◌++◌, length, codes, Option, Some, None, string_bytes}
use Rattle.json.specs.Token.{Token}
use Rattle.abt_net.specs.declared.fault.NetFault.{NetFault}
use Rattle.abt_net.specs.declared.fault.NetFault.TheVariants as net
use Rattle.abt_entry.specs.ObjectMembers.{text_member, number_member, object_line}
use Rattle.abt_places.specs.Places.{place_at}
use Rattle.abt_places.specs.declared.place.Place.{Place}
use Rattle.abt_scenario.specs.Keys.{key_name}
use Rattle.abt_scenario.specs.declared.fault.ScenarioFault.{ScenarioFault}
use Rattle.abt_scenario.specs.declared.fault.ScenarioFault.TheVariants as scenario
use Rattle.abt_text.specs.Text.{Text, ◌⋅◌}
use Rattle.abt_check.specs.declared.finding.Found.{Found}
use Rattle.abt_check.specs.declared.finding.Warning.{Warning}
use Rattle.abt_check.specs.declared.finding.Checked.{Checked}

abbrev pub line_and_column : Place → List Token
line_and_column place = number_member (codes "line") place.line ++ number_member (codes "column") place.column

-- the place behind so many octets of a text, if they are known
abbrev pub place_members : Text → Option ℕ → List Token
place_members source None = []
place_members source (Some at) = line_and_column (place_at at source)

-- the name of the file, if there are several
abbrev pub file_members : Option Text → List Token
file_members None = []
file_members (Some name) = text_member (codes "file") name

-- the name of a fault
abbrev pub named : Text → List Token
named name = text_member (codes "fault") name

-- a fault, and what it names
abbrev pub with_number : (name member : Text) → ℕ → List Token
with_number name member number = named name ++ number_member member number

abbrev pub with_text : (name member text : Text) → List Token
with_text name member text = named name ++ text_member member text

-- a rule of nets, and the connection that breaks it
abbrev pub net_at : Text → ℕ → List Token
net_at name connection = with_text (codes "Net") (codes "net") name ++ number_member (codes "connection") connection

abbrev pub net_members : NetFault → List Token
net_members (net.NoPort connection) = net_at (codes "NoPort") connection
net_members (net.PathLength connection) = net_at (codes "PathLength") connection
net_members (net.PathRepeat connection) = net_at (codes "PathRepeat") connection
net_members (net.VcRepeat connection) = net_at (codes "VcRepeat") connection
net_members net.Limit = with_text (codes "Net") (codes "net") (codes "Limit")
net_members net.Memory = with_text (codes "Net") (codes "net") (codes "memory")

abbrev pub fault_members : ScenarioFault → List Token
fault_members scenario.Toml = named (codes "Toml")
fault_members (scenario.MissingKey key) = with_text (codes "MissingKey") (codes "key") (key_name key)
fault_members (scenario.WrongType key) = with_text (codes "WrongType") (codes "key") (key_name key)
fault_members (scenario.Net fault) = net_members fault
fault_members (scenario.EventText number) = with_number (codes "EventText") (codes "event") number
fault_members (scenario.ScriptText connection number) =
    with_number (codes "ScriptText") (codes "connection") connection ++ number_member (codes "command") number
fault_members (scenario.OperatorText number) = with_number (codes "OperatorText") (codes "operation") number
fault_members scenario.Memory = named (codes "memory")

-- a fault: its file and place, its name with what it names, and what is wrong, in words
abbrev pub fault_object : (file : Option Text) → (source : Text) → Found → Text
fault_object file source found = object_line (text_member (codes "kind") (codes "fault") ++ file_members file
    ++ place_members source found.at ++ fault_members found.fault ++ text_member (codes "message") (string_bytes found.text))

abbrev pub fault_objects : (file : Option Text) → (source : Text) → List Found → Text
fault_objects file source [] = []
fault_objects file source (found ∷ others) = fault_object file source found ⋅ fault_objects file source others

-- a warning: its file and place, and what is doubtful, in words
abbrev pub warning_object : (file : Option Text) → (source : Text) → Warning → Text
warning_object file source warning = object_line (text_member (codes "kind") (codes "warning") ++ file_members file
    ++ place_members source warning.at ++ text_member (codes "message") (string_bytes warning.text))

abbrev pub warning_objects : (file : Option Text) → (source : Text) → List Warning → Text
warning_objects file source [] = []
warning_objects file source (warning ∷ others) = warning_object file source warning ⋅ warning_objects file source others

-- the last object: how many there are of each
abbrev pub counts_object : (file : Option Text) → Checked → Text
counts_object file checked = object_line (text_member (codes "kind") (codes "counts") ++ file_members file
    ++ number_member (codes "faults") (length checked.faults.items) ++ number_member (codes "warnings") (length checked.warnings.items))

-- the faults, the warnings, and how many there are
abbrev pub check_objects : (file : Option Text) → (source : Text) → Checked → Text
check_objects file source checked =
    fault_objects file source checked.faults.items ⋅ warning_objects file source checked.warnings.items ⋅ counts_object file checked

-- a file that isn't checked: its fault, and why
abbrev pub unread_object : (file fault why : Text) → Text
unread_object file fault why = object_line (text_member (codes "kind") (codes "fault") ++ text_member (codes "file") file
    ++ named fault ++ text_member (codes "message") why)
