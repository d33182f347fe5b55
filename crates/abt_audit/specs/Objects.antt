-- What an audit tells as JSON: an object on a line for each finding (docs/AUDITS.md, "Findings as JSON").
use Rattle.std.specs.Prelude.{ℕ, ◌-◌, true, List, [], ◌∷◌, ◌++◌, codes, slice_get, String}
use Rattle.std.specs.declared.alloc.Global.{Global}
use Rattle.json.specs.Token.{Token, boolean, key}
use Rattle.abt_entry.specs.ObjectMembers.{number_member, object_line, text_member}
use Rattle.abt_journal_text.specs.declared.fault.TextFault.{TextFault}
use Rattle.abt_journal_text.specs.declared.spot.Spot.{Spot}
use Rattle.abt_text.specs.Text.{Text, ◌⋅◌}
use Rattle.abt_weave.specs.declared.actor.Actor.{Actor}
use Rattle.abt_weave.specs.declared.actor.Actor.TheVariants.{Source, Port}
use Rattle.abt_audit.specs.Names.{cause_name, name_in}

-- an object of a kind
abbrev pub kind_members : Text → List Token → List Token
kind_members kind members = text_member (codes "kind") kind ++ members

abbrev pub kind_object : Text → List Token → Text
kind_object kind members = object_line (kind_members kind members)

-- journals that are woven into so many events, whose trace is safe
abbrev pub woven_members : ℕ → List Token
woven_members events = number_member (codes "events") events ++ key (codes "safe") ∷ boolean true ∷ []

abbrev pub woven_object : ℕ → Text
woven_object events = kind_object (codes "woven") (woven_members events)

-- the port or the source that a journal is of, by its number
abbrev pub actor_member : Actor → List Token
actor_member (Port p) = number_member (codes "port") p
actor_member (Source c) = number_member (codes "source") c

-- a log that obeys in so many entries
abbrev pub obeys_object : Actor → ℕ → Text
obeys_object actor count = kind_object (codes "obeys") (actor_member actor ++ number_member (codes "entries") count)

-- a line that is cut, and left out
abbrev pub note_members : Spot → List Token
note_members spot =
    text_member (codes "note") (codes "cut") ++ number_member (codes "text") spot.text ++ number_member (codes "line") spot.line

abbrev pub note_object : Spot → Text
note_object spot = kind_object (codes "note") (note_members spot)

abbrev pub note_objects : List Spot → Text
note_objects [] = []
note_objects (spot ∷ more) = note_object spot ⋅ note_objects more

-- where a line stands: the name of its text, by these names, and its number there
abbrev pub spot_members : List (String Global) → Spot → List Token
spot_members names spot =
    text_member (codes "file") (name_in (slice_get names (spot.text - 1))) ++ number_member (codes "line") spot.line

-- a fault of a text
abbrev pub text_members : List (String Global) → TextFault → List Token
text_members names fault = spot_members names fault.spot ++ text_member (codes "fault") (cause_name fault.cause)

abbrev pub text_object : List (String Global) → TextFault → Text
text_object names fault = kind_object (codes "text") (text_members names fault)

-- a fault that is no text's
abbrev pub fault_object : Text → List Token → Text
fault_object fault members = kind_object (codes "fault") (text_member (codes "fault") fault ++ members)

-- no text has a line
abbrev pub nothing_object : Text
nothing_object = fault_object (codes "Nothing") []

-- the net hasn't the port, or the connection
abbrev pub absent_name : Actor → Text
absent_name (Port p) = codes "port"
absent_name (Source c) = codes "connection"

abbrev pub absent_object : Actor → Text
absent_object actor = fault_object (absent_name actor) (actor_member actor)
