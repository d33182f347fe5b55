-- What the lines of a source's journal say (docs/LIVE.md, "A source that starts again").
use Rattle.std.specs.Prelude.{ℕ, ◌+◌, Bool, true, false, List, [], ◌∷◌, ◌++◌, fold, max, Option, None, Some}
use Rattle.abt_source.specs.declared.fault.AskFault.TheVariants.{Keep}
use Rattle.abt_model.specs.declared.event.Event.{Event}
use Rattle.abt_model.specs.declared.event.Event.TheVariants.{Start, Ask, Crash, Emit}
use Rattle.abt_model.specs.declared.outcome.Outcome.{Outcome}
use Rattle.abt_model.specs.declared.outcome.Outcome.TheVariants.{Started, AskRefused, Crashed, Emitted}
use Rattle.abt_model.specs.declared.entry.SourceEntry.{SourceEntry}
use Rattle.abt_model.specs.declared.entry.SourceEntry.TheVariants.{Did}
use Rattle.abt_processes.specs.Processes.{JournalLine, About, Open, Deed}

-- the line of a deed: one of an ask whose record wasn't kept leaves open what the store did
abbrev pub line_of : Event → Outcome → JournalLine
line_of (Ask c rate plan) (AskRefused Keep) = Open rate
line_of event outcome = Deed event outcome

-- the lines of the deeds of a source, of all that stands in its projection of events
abbrev pub lines_of : List SourceEntry → List JournalLine
lines_of [] = []
lines_of (Did event outcome ∷ entries) = line_of event outcome ∷ lines_of entries
lines_of (entry ∷ entries) = lines_of entries

-- those of a journal without what was about to be done
abbrev pub deeds_in : List JournalLine → List JournalLine
deeds_in [] = []
deeds_in (About rate ∷ lines) = deeds_in lines
deeds_in (line ∷ lines) = line ∷ deeds_in lines

-- what a journal tells of a source: how many cells it emitted, the greatest moment of a start or an emission, whether it was up, and the rate of
-- the ask that was about to write last, if nothing is said of what came of it
pub record Told : Type 0 where
  pub cells : ℕ
  pub clock : ℕ
  pub is_up : Bool
  pub about : Option ℕ

abbrev pub nothing_told : Told
nothing_told = record { cells = 0; clock = 0; is_up = false; about = None }

abbrev pub with_deed : Told → Event → Outcome → Told
with_deed told (Start c now) Started = record told { clock = max now told.clock; is_up = true }
with_deed told (Emit c now) (Emitted cell next) = record told { cells = told.cells + 1; clock = max now told.clock }
with_deed told (Crash c) Crashed = record told { is_up = false }
with_deed told event outcome = told

abbrev pub with_line : Told → JournalLine → Told
with_line told (About rate) = record told { about = Some rate }
with_line told (Open rate) = record told { about = None }
with_line told (Deed event outcome) = with_deed (record told { about = None }) event outcome

abbrev pub told_by : List JournalLine → Told
told_by lines = fold with_line nothing_told lines

-- What a process that begins again writes of the one before: an ask that was about to write may have been stored, and a source that was up
-- crashed.
abbrev pub open_lines : Option ℕ → List JournalLine
open_lines None = []
open_lines (Some rate) = Open rate ∷ []

abbrev pub crash_lines : (conn : ℕ) → Bool → List JournalLine
crash_lines conn false = []
crash_lines conn true = Deed (Crash conn) Crashed ∷ []

abbrev pub restart_lines : (conn : ℕ) → Told → List JournalLine
restart_lines conn told = open_lines told.about ++ crash_lines conn told.is_up
