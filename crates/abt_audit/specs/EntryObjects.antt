-- Entries at which journals are stuck, as JSON (docs/AUDITS.md, "Findings as JSON").
use Rattle.std.specs.Prelude.{ℕ, ◌==◌, ◌&&◌, List, [], ◌∷◌, ◌++◌, Option, Some, None, option_map, if◌then◌else◌, codes, String}
use Rattle.std.specs.declared.alloc.Global.{Global}
use Rattle.json.specs.Json.{Json}
use Rattle.json.specs.Print.{print}
use Rattle.json.specs.Token.{Token, begin_object, end_object, key}
use Rattle.json.specs.Tree.{json_tokens}
use Rattle.abt_entry.specs.EntryWritten.{step_json, entry_json}
use Rattle.abt_entry.specs.ObjectMembers.{number_member, text_member}
use Rattle.abt_journal_text.specs.Books.{lists_of}
use Rattle.abt_journal_text.specs.declared.run.Run.{Run}
use Rattle.abt_journal_text.specs.declared.spot.Spot.{Spot}
use Rattle.abt_text.specs.Text.{Text, ◌⋅◌}
use Rattle.abt_weave.specs.declared.actor.Actor.{Actor}
use Rattle.abt_weave.specs.declared.actor.Actor.TheVariants.{Source, Port}
use Rattle.abt_audit.specs.Objects.{actor_member, kind_object, spot_members}
use Rattle.abt_audit.specs.Stuck.{item_at, entry_at}
use Rattle.abt_audit.specs.declared.entry_object.Said.{Said}
use Rattle.abt_audit.specs.declared.missing.Missing.{Missing}
use Rattle.abt_audit.specs.declared.missing.Missing.TheVariants as missing

-- where an entry stands, and the entry
abbrev pub said_by : Option Spot → Option Json → Option (Spot × Json)
said_by (Some spot) (Some entry) = Some (spot, entry)
said_by (Some spot) None = None
said_by None entry = None

-- the same of the entry of a place in the journal of an actor
abbrev pub said_at : Run → Actor → (place : ℕ) → Option (Spot × Json)
said_at run (Port p) place =
    said_by (item_at (lists_of run.port_spots) p place) (option_map (step_json p) (item_at run.journals p place))
said_at run (Source c) place =
    said_by (item_at (lists_of run.source_spots) c place) (option_map (entry_json c) (entry_at run.sources.items c place))

-- what is found of it: where it stands, and its text
abbrev pub said_text : Said → Spot × Text
said_text said = (said.spot, said.entry.items)

abbrev pub printed : Json → Text
printed json = print (json_tokens json)

abbrev pub printed_at : Spot × Json → Spot × Text
printed_at said = (said.0, printed said.1)

-- where it stands, whose journal it is in, and how many entries of that come before it
abbrev pub stuck_members : List (String Global) → Spot → Actor → (place : ℕ) → List Token
stuck_members names spot actor place = spot_members names spot ++ actor_member actor ++ number_member (codes "place") place

-- the words of a reason, without the colon and the space that part it from what stands before it
abbrev pub words_of : Text → Text
words_of (colon ∷ space ∷ words) = if colon == 58 && space == 32 then words else (colon ∷ space ∷ words)
words_of words = words

-- the line from which on something is so, if there is one
abbrev pub since_members : List (String Global) → Option Spot → List Token
since_members names None = []
since_members names (Some spot) = key (codes "since") ∷ begin_object ∷ (spot_members names spot ++ end_object ∷ [])

-- a reason, if there is one
abbrev pub why_members : List (String Global) → (reason : Text) → Option Spot → List Token
why_members names [] since = []
why_members names (octet ∷ more) since = text_member (codes "why") (words_of (octet ∷ more)) ++ since_members names since

-- the cell that an entry waits for, and the first and the last moment at which it may come, in picoseconds
abbrev pub window_members : Missing → List Token
window_members (missing.Cell c cell from to) =
    number_member (codes "cell") cell ++ number_member (codes "from") from ++ number_member (codes "to") to
window_members other = []

-- what the entry says, as it is written
abbrev pub entry_member : Json → List Token
entry_member entry = key (codes "entry") ∷ json_tokens entry

-- what the protocol answers, if it answers
abbrev pub protocol_member : Option Json → List Token
protocol_member None = []
protocol_member (Some answer) = key (codes "protocol") ∷ json_tokens answer

-- what the protocol answers, as it is written behind what the entry says
abbrev pub answer_text : Option Text → Text
answer_text None = []
answer_text (Some answer) = codes ",\"protocol\":" ⋅ answer

-- The object of an entry: where it stands, why it is stuck, what it says, and what the protocol answers.
abbrev pub entry_object : (kind : Text) → List (String Global) → Actor → (place : ℕ) → (why : List Token) → Option Json → Option (Spot × Json) → Text
entry_object kind names actor place why answer None = []
entry_object kind names actor place why answer (Some said) =
    kind_object kind (stuck_members names said.0 actor place ++ why ++ entry_member said.1 ++ protocol_member answer)
