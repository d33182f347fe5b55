-- Journals of sources that run their scripts (docs/RULES.md, "Workers").
use Rattle.std.specs.Prelude.{◌≡◌, ℕ, ◌≤◌, ◌++◌, List, [], ◌∷◌, map, All}
use Rattle.std.specs.Option.{ForSome}
use Rattle.abt_net.specs.declared.conn.Conn.{Conn}
use Rattle.abt_facts.specs.declared.fact.Fact.{Fact}
use Rattle.abt_journal.specs.declared.entry.Entry.{Entry}
use Rattle.abt_journal.specs.declared.entry.Receipt.{Receipt}
use Rattle.abt_journal.specs.declared.input.PortInput.{PortInput}
use Rattle.abt_journal.specs.declared.input.PortInput.TheVariants.{Arrive}
use Rattle.abt_model.specs.declared.script_command.Command.{Command}
use Rattle.abt_model.specs.declared.script_command.Command.TheVariants.{Start, Ask, Again, Crash, Emit, Listen}
use Rattle.abt_model.specs.declared.entry.SourceEntry.{SourceEntry}
use Rattle.abt_links.specs.CommandEffects.{LineStep, CommandEffect, Does}

-- the moment of the last cell among these steps, or else that of the last one before
abbrev pub moment_after : ℕ → PortInput → ℕ
moment_after arrived (Arrive vc at) = at
moment_after arrived input = arrived

abbrev pub arrived_after : ℕ → List LineStep → ℕ
arrived_after arrived [] = arrived
arrived_after arrived (step ∷ steps) = arrived_after (moment_after arrived step.input) steps

-- one deed and then another
abbrev pub then_done : CommandEffect → CommandEffect → CommandEffect
then_done first rest = record {
  entries = first.entries ++ rest.entries;
  steps = first.steps ++ rest.steps;
  facts = rest.facts;
}

-- What the source of connection c does on the commands of a script, one after the other, after such facts and such a last arrival.
abbrev pub Runs : Conn → (c : ℕ) → List Fact → (arrived : ℕ) → List Command → CommandEffect → Type 0
Runs conn c facts arrived [] effect = effect ≡ record { entries = []; steps = []; facts = facts }
Runs conn c facts arrived (command ∷ commands) effect =
    (first : CommandEffect) × (rest : CommandEffect) × Does conn c facts arrived command first
    × Runs conn c first.facts (arrived_after arrived first.steps) commands rest × (effect ≡ then_done first rest)

-- The journal of the source of connection c, to which nothing had happened, runs the script, and names these steps of
-- the first port of its path.
abbrev pub RunsScript : Conn → (c : ℕ) → List Command → List SourceEntry → List LineStep → Type 0
RunsScript conn c commands entries steps =
    (facts : List Fact) × Runs conn c [] 0 commands (record { entries = entries; steps = steps; facts = facts })

-- the step that a port's entry is
abbrev pub step_of : Entry → LineStep
step_of entry = record { place = entry.place; input = entry.input }

-- The receipts are those for these steps of this port, in their order.
pub record AreReceiptsFor (port : ℕ) (steps : List LineStep) (receipts : List Receipt) : Type 0 where
  pub each : map (λ r. step_of r.entry) receipts ≡ steps
  pub there : All (λ r. r.port ≡ port) receipts

-- No cell of a script that isn't lost is later by more than the tau of its connection.
abbrev pub IsInTolerance : (tau : ℕ) → Command → Type 0
IsInTolerance tau (Emit now jitter) = ForSome jitter (λ j. j ≤ tau)
IsInTolerance tau (Start now) = Unit {0}
IsInTolerance tau (Ask rate plan) = Unit {0}
IsInTolerance tau Again = Unit {0}
IsInTolerance tau Crash = Unit {0}
IsInTolerance tau (Listen turns) = Unit {0}
