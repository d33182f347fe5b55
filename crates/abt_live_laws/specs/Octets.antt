-- What the octets of a journal are read as (docs/JOURNALS.md).
use Rattle.std.specs.Prelude.{◌≡◌, ◌≢◌, ℕ, ◌<◌, ◌^◌, List, [], ◌∷◌, All, IfSome, map}
use Rattle.std.specs.Str.{IsUtf8}
use Rattle.abt_text.specs.Text.{Text, ◌⋅◌, line_feed, newline}
use Rattle.abt_text.specs.Words.{Lacks}
use Rattle.abt_rate.specs.Rate.{IsRate}
use Rattle.abt_keep.specs.declared.plan.StorePlan.TheVariants.{FailsBefore}
use Rattle.abt_source.specs.declared.fault.AskFault.TheVariants.{Keep}
use Rattle.abt_model.specs.declared.event.Event.TheVariants.{Ask}
use Rattle.abt_model.specs.declared.outcome.Outcome.TheVariants.{AskRefused}
use Rattle.abt_model.specs.declared.entry.SourceEntry.TheVariants.{Did}
use Rattle.abt_entry.specs.Lines.{Says}
use Rattle.abt_entry.specs.declared.line.Line as read_line
use Rattle.abt_entry.specs.declared.line.Line.TheVariants as line
use Rattle.abt_journal_text.specs.Tellable.{IsEntry, IsStep}
use Rattle.abt_processes.specs.Processes.{JournalLine, About, Open, Deed}
use Rattle.abt_live_laws.specs.Journals as ports
use Rattle.abt_live_laws.specs.Machine.{line_text, lines_text}

-- Octets that an audit takes for one line, which says just this.
pub record IsReadAs (octets : Text) (says : read_line.Line) : Type 0 where
  pub utf8 : IsUtf8 octets
  pub alone : Lacks line_feed octets
  pub said : Says octets says

-- A text is lines, each with its line feed, which say just this, one after the other.
abbrev pub AreRead : (text : Text) → List read_line.Line → Type 0
AreRead text [] = text ≡ []
AreRead text (says ∷ more) = (octets : Text) × (rest : Text) × (text ≡ octets ⋅ newline ⋅ rest) × IsReadAs octets says × AreRead rest more

-- Numbers of a step fit the fields of its line, and so does that of a cell.
pub record FitsPortLine (step : ports.DoneStep) : Type 0 where
  pub port : step.id < 2 ^ 16
  pub entry : IsStep step.entry
  pub cell : IfSome step.cell (λ cell. cell < 2 ^ 64)

-- what is read of a step
abbrev pub step_read : ports.DoneStep → read_line.Line
step_read step = line.Port step.id step.entry

-- The journal of a switch is read as just its steps.
abbrev pub StepsAreRead : Type 0
StepsAreRead = (steps : List ports.DoneStep) → All FitsPortLine steps → AreRead (ports.lines_text steps) (map step_read steps)

-- numbers of a source's line fit its fields; audits read no line that an ask is about to write
abbrev pub FitsSourceLine : (conn : ℕ) → JournalLine → Type 0
FitsSourceLine conn (About rate) = ⊥
FitsSourceLine conn (Open rate) = IsRate rate
FitsSourceLine conn (Deed event outcome) = IsEntry conn (Did event outcome)

-- what is read of it: an ask whose record wasn't kept leaves open whether it is stored
abbrev pub source_read : (conn : ℕ) → JournalLine → read_line.Line
source_read conn (About rate) = line.Open conn (Did (Ask conn rate FailsBefore) (AskRefused Keep))
source_read conn (Open rate) = line.Open conn (Did (Ask conn rate FailsBefore) (AskRefused Keep))
source_read conn (Deed event outcome) = line.Source conn (Did event outcome)

-- The journal of a source without the lines of what was about to be done is read as just its deeds.
abbrev pub DeedsAreRead : Type 0
DeedsAreRead =
    (conn : ℕ) (lines : List JournalLine) → conn < 2 ^ 16 → All (FitsSourceLine conn) lines → AreRead (lines_text conn lines) (map (source_read conn) lines)
