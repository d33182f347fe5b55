-- What a switch that stops has written into its journal.
use Rattle.std.specs.Prelude.{◌≡◌, ◌⊎◌, ℕ, List, [], Option}
use Rattle.abt_text.specs.Text.{Text}
use Rattle.abt_lines.specs.Served.{AppendsFront}
use Rattle.abt_live.specs.declared.live_port.LivePort.{LivePort}
use Rattle.abt_live.specs.declared.switch_asked.SwitchAsked.{SwitchAsked}
use Rattle.abt_live.specs.declared.switch_asked.SwitchAsked.TheVariants.{Step, Wrong}
use Rattle.abt_live.specs.Ports.{entry_at, switch_line}
use Rattle.abt_live.specs.Switch.{Takes}

-- The line of the step that is asked for, or nothing.
abbrev pub CanWrite : List LivePort → SwitchAsked → Text → Type 0
CanWrite ports (Step id input cell) line =
    (line ≡ []) ⊎ ((live : LivePort) × (place : ℕ) × Takes ports id input live place × (line ≡ switch_line id (entry_at live input) cell))
CanWrite ports (Wrong fault) line = line ≡ []

-- That was begun to be written, and nothing else was.
abbrev pub JournalBegan : List LivePort → SwitchAsked → (old new : Option Text) → Type 0
JournalBegan ports asked old new = (line : Text) × CanWrite ports asked line × AppendsFront old new line
