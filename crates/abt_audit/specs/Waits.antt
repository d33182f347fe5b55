-- What is told of entries in no order: each, and what it waits for (docs/AUDITS.md, "What is told", "Findings as JSON").
use Rattle.std.specs.Prelude.{◌≡◌, ◌-◌, List, [], ◌∷◌, ◌++◌, Option, Some, None, codes, slice_get, String}
use Rattle.std.specs.declared.alloc.Global.{Global}
use Rattle.json.specs.Token.{Token}
use Rattle.abt_text.specs.Text.{Text, ◌⋅◌, code_text, decimal}
use Rattle.abt_rate.specs.Code.{code_of}
use Rattle.abt_format.specs.Measures.{seconds_text}
use Rattle.abt_model.specs.Past.{Past}
use Rattle.abt_model.specs.Run.{facts_after}
use Rattle.abt_model.specs.declared.outcome.Cause.TheVariants.{NotSent}
use Rattle.abt_model.specs.declared.event.Event.{Event}
use Rattle.abt_model.specs.declared.event.Event.TheVariants.{Answer, Request, Told}
use Rattle.abt_journal_text.specs.declared.run.Run.{Run}
use Rattle.abt_journal_text.specs.declared.spot.Spot.{Spot}
use Rattle.abt_reason.specs.Reasons.{cause_reason, verdict_text}
use Rattle.abt_reason.specs.declared.grounds.Numbers.TheVariants as numbers
use Rattle.abt_weave.specs.declared.actor.Stuck.{Stuck}
use Rattle.abt_audit.specs.EntryObjects.{entry_object, said_at, why_members, window_members}
use Rattle.abt_audit.specs.Missing.{missing_of}
use Rattle.abt_audit.specs.Names.{name_in}
use Rattle.abt_audit.specs.Parts.{IsWovenPart, run_journals}
use Rattle.abt_audit.specs.Stuck.{line_at}
use Rattle.abt_audit.specs.Why.{why_line}
use Rattle.abt_audit.specs.declared.form.Form.{Form}
use Rattle.abt_audit.specs.declared.form.Form.TheVariants.{Words, Json}
use Rattle.abt_audit.specs.declared.missing.Missing.{Missing}
use Rattle.abt_audit.specs.declared.missing.Missing.TheVariants as missing
use Rattle.abt_audit.specs.declared.parting.WovenPart.{WovenPart}

-- the message that an event takes on, and where it is to be
abbrev pub message_words : Event → Text
message_words (Request c hop seq) = codes "request " ⋅ decimal seq ⋅ codes " of connection " ⋅ decimal c ⋅ codes " at hop " ⋅ decimal hop
message_words (Answer c hop seq granted) =
    verdict_text granted ⋅ decimal seq ⋅ codes " of connection " ⋅ decimal c ⋅ codes " at hop " ⋅ decimal hop
message_words (Told c seq granted) = verdict_text granted ⋅ decimal seq ⋅ codes " of connection " ⋅ decimal c ⋅ codes " at its source"
message_words other = []

-- where a step stands, if a text has it
abbrev pub spot_words : List (String Global) → Option Spot → Text
spot_words names (Some spot) = codes ", " ⋅ name_in (slice_get names (spot.text - 1)) ⋅ codes ":" ⋅ decimal spot.line
spot_words names None = codes ", which no text has"

-- what an entry waits for, by what it misses
abbrev pub waits_words : List (String Global) → Missing → Text
waits_words names missing.Nothing = []
waits_words names (missing.NoChannel vc) = codes ": no connection has the channel " ⋅ decimal vc.vpi ⋅ codes "/" ⋅ decimal vc.vci
waits_words names (missing.OffPath c p) = codes ": the path of connection " ⋅ decimal c ⋅ codes " doesn't visit port " ⋅ decimal p
waits_words names (missing.NotFirst c p) =
    codes ": cells of connection " ⋅ decimal c ⋅ codes " come to the first port of its path, and not to port " ⋅ decimal p
waits_words names (missing.Unasked c seq) =
    codes ": waits for request " ⋅ decimal seq ⋅ codes " of connection " ⋅ decimal c ⋅ codes ", which its source hasn't asked"
waits_words names (missing.OtherRates c seq floor ask) =
    codes ": request " ⋅ decimal seq ⋅ codes " of connection " ⋅ decimal c ⋅ codes " has the floor " ⋅ code_text (code_of floor) ⋅ codes " and asks for "
    ⋅ code_text (code_of ask)
waits_words names (missing.Beside c place) = codes ": waits for source " ⋅ decimal c ⋅ codes " to say that it was sent at place " ⋅ decimal place
waits_words names (missing.Message event sought) = codes ": waits for " ⋅ message_words event ⋅ cause_reason numbers.Nothing sought NotSent
waits_words names (missing.NoCell c cell) =
    codes ": waits for cell " ⋅ decimal cell ⋅ codes " of connection " ⋅ decimal c ⋅ codes ", which hasn't left"
waits_words names (missing.Cell c cell from to) =
    codes ": of connection " ⋅ decimal c ⋅ codes " the oldest cell that can still come is " ⋅ decimal cell ⋅ codes ", from " ⋅ seconds_text from
    ⋅ codes " s to " ⋅ seconds_text to ⋅ codes " s"
waits_words names (missing.Step port place spot) =
    codes ": goes with step " ⋅ decimal place ⋅ codes " of port " ⋅ decimal port ⋅ spot_words names spot

-- an entry at which a journal is stuck, and what it waits for
abbrev pub waiting_line : List (String Global) → Run → Stuck → Missing → Text
waiting_line names run stuck missing = line_at names run stuck.actor stuck.place ⋅ why_line (waits_words names missing) []

abbrev pub waiting_members : List (String Global) → Missing → List Token
waiting_members names missing = why_members names (waits_words names missing) None ++ window_members missing

abbrev pub waiting_object : List (String Global) → Run → Stuck → Missing → Text
waiting_object names run stuck missing =
    entry_object (codes "stuck") names stuck.actor stuck.place (waiting_members names missing) None (said_at run stuck.actor stuck.place)

abbrev pub waiting_by : Form → List (String Global) → Run → Stuck → Missing → Text
waiting_by Words names run stuck missing = waiting_line names run stuck missing
waiting_by Json names run stuck missing = waiting_object names run stuck missing

-- the same after this past
abbrev pub waiting_text : Form → List (String Global) → Run → Past → Stuck → Text
waiting_text form names run past stuck = waiting_by form names run stuck (missing_of run past stuck.actor stuck.place)

abbrev pub waiting_texts : Form → List (String Global) → Run → Past → List Stuck → Text
waiting_texts form names run past [] = []
waiting_texts form names run past (stuck ∷ more) = waiting_text form names run past stuck ⋅ waiting_texts form names run past more

-- The text has each of the entries, and what it waits for after the events that are woven from the journals before such entries.
pub record IsWaitingText (form : Form) (names : List (String Global)) (run : Run) (stuck : List Stuck) (text : Text) : Type 0 where
  pub part : WovenPart
  pub is_part : IsWovenPart run.net (run_journals run) part
  pub are : text ≡ waiting_texts form names run (facts_after run.net part.events) stuck
