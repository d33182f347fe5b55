-- What the journal of a switch says of its ports, over any lines.
use Rattle.std.specs.Prelude.{◌≡◌, ℕ, ◌==◌, if◌then◌else◌, List, [], ◌∷◌, slice_get, Option, Some}
use Rattle.std.specs.Io.KnownBytes.{Appends}
use Rattle.abt_text.specs.Text.{Text, ◌⋅◌}
use Rattle.abt_journal.specs.declared.entry.Entry.{Entry}
use Rattle.abt_journal.specs.declared.input.PortInput.{PortInput}
use Rattle.abt_lines.specs.Runs.{Runs}
use Rattle.abt_live.specs.declared.live_port.LivePort.{LivePort}
use Rattle.abt_live.specs.declared.switch.SwitchLines.{SwitchLines}
use Rattle.abt_live.specs.Ports.{entry_at, past_step, switch_line}
use Rattle.abt_live.specs.Switch.{SwitchesLine}

-- a step that a switch did: the port, by its place among the switch's and by its number, the entry, and the number of a data cell
pub record DoneStep : Type 0 where
  pub place : ℕ
  pub id : ℕ
  pub entry : Entry
  pub cell : Option ℕ

-- the lines of some steps
abbrev pub lines_text : List DoneStep → Text
lines_text [] = []
lines_text (step ∷ steps) = switch_line step.id step.entry step.cell ⋅ lines_text steps

-- the entries of the port at a place
abbrev pub entries_at : (place : ℕ) → List DoneStep → List Entry
entries_at place [] = []
entries_at place (step ∷ steps) = if step.place == place then step.entry ∷ entries_at place steps else entries_at place steps

-- These are the entries of a port one after the other: each has the count of its steps before, and the reply of the table then.
abbrev pub AreSteps : LivePort → List Entry → (new : LivePort) → Type 0
AreSteps live [] new = new ≡ live
AreSteps live (entry ∷ entries) new = (input : PortInput) × (entry ≡ entry_at live input) × AreSteps (past_step live input) entries new

-- Over any lines the journal got the lines of some steps, and nothing else: those of each port are its steps, one after the other.
abbrev pub JournalsAreSteps : {J : Type 0} → (contents : J → Option Text) → Type 0
JournalsAreSteps {J = J} contents =
    (old new : SwitchLines J) (number : ℕ) (lines : List (Option Text)) (said : Text) → Runs (SwitchesLine contents) old number lines said new
    → (steps : List DoneStep) × Appends (contents old.journal) (contents new.journal) (lines_text steps)
    × ((place : ℕ) (live : LivePort) → slice_get old.ports.items place ≡ Some live
    → (after : LivePort) × (slice_get new.ports.items place ≡ Some after) × AreSteps live (entries_at place steps) after)
