-- What a source that starts again has from its journal is what the journal's lines tell (docs/LIVE.md, "The law").
use Rattle.std.specs.Prelude.{◌≡◌, ℕ, List, [], ◌∷◌, Option, None, Some}
use Rattle.abt_cell.specs.Channel.{Channel}
use Rattle.abt_keep.specs.Record.{KeptRecord}
use Rattle.abt_processes.specs.Actors.{begun}
use Rattle.abt_processes.specs.Processes.{JournalLine, About, Open, Deed}
use Rattle.abt_processes.specs.Journals.{Told, restart_lines, told_by}
use Rattle.abt_live.specs.History.{restart_text}
use Rattle.abt_live.specs.Source.{new_actor}
use Rattle.abt_live_laws.specs.Machine.{lines_text}
use Rattle.abt_live.specs.declared.past.Past.{Past}
use Rattle.abt_live.specs.Past.{deed_after, no_past, settled}

-- what a line that is read makes of a source's past, if it can come there: so `past_after` of `abt_live` has it
abbrev pub past_with : Past → JournalLine → Option Past
past_with past (About rate) = Some (record past { about = Some rate })
past_with past (Open rate) = Some (settled past)
past_with past (Deed event outcome) = deed_after (settled past) event outcome

-- the past once such lines were read, one after the other
abbrev pub past_behind : Option Past → List JournalLine → Option Past
past_behind None lines = None
past_behind (Some past) [] = Some past
past_behind (Some past) (line ∷ lines) = past_behind (past_with past line) lines

-- a past is what a journal tells
pub record IsPastOf (told : Told) (past : Past) : Type 0 where
  pub cells : past.cells ≡ told.cells
  pub clock : past.clock ≡ told.clock
  pub is_up : past.is_up ≡ told.is_up
  pub about : past.about ≡ told.about

-- Whoever has read all lines of a journal, each of which can come there, has what they tell.
abbrev pub PastsAreTold : Type 0
PastsAreTold = (lines : List JournalLine) (past : Past) → past_behind (Some no_past) lines ≡ Some past → IsPastOf (told_by lines) past

-- So a process begins as the machine has it, and writes just the lines of what became of the one before.
abbrev pub BeginsSo : Type 0
BeginsSo =
    (conn : ℕ) (vc : Channel) (stored : KeptRecord) (lines : List JournalLine) (past : Past) → past_behind (Some no_past) lines ≡ Some past
    → (new_actor vc stored past.cells past.clock ≡ begun vc stored (told_by lines).cells (told_by lines).clock)
    × (restart_text conn past ≡ lines_text conn (restart_lines conn (told_by lines)))
