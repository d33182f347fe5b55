-- Effects of the commands of a script on a source (docs/RULES.md, "Workers").
use Rattle.std.specs.Prelude.{◌≡◌, ℕ, ◌+◌, ◌≤◌, ◌++◌, true, List, [], ◌∷◌, length, max, Option, None, Some}
use Rattle.abt_cell.specs.Channel.{Channel}
use Rattle.abt_cell.specs.Message.{Terms, Reply}
use Rattle.abt_net.specs.declared.conn.Conn.{Conn}
use Rattle.abt_facts.specs.declared.fact.Fact.{Fact}
use Rattle.abt_facts.specs.Source.{state_of}
use Rattle.abt_model.specs.declared.command.SourceCommand.{SourceCommand}
use Rattle.abt_model.specs.declared.command.SourceCommand.TheVariants as source
use Rattle.abt_model.specs.declared.outcome.Outcome.{Outcome}
use Rattle.abt_model.specs.declared.outcome.Outcome.TheVariants.{Asked, Repeated, Emitted}
use Rattle.abt_actor.specs.Actor.{is_asking_in}
use Rattle.abt_actor.specs.Commands.{event_of, command_answer, command_adds}
use Rattle.abt_journal.specs.declared.input.PortInput.{PortInput}
use Rattle.abt_journal.specs.declared.input.PortInput.TheVariants.{Request, Arrive}
use Rattle.abt_model.specs.declared.script_command.Command.{Command}
use Rattle.abt_model.specs.declared.script_command.Command.TheVariants as script
use Rattle.abt_model.specs.declared.entry.SourceEntry.{SourceEntry}
use Rattle.abt_model.specs.declared.entry.SourceEntry.TheVariants.{Did, Sent, Arrived}

-- a step that a source's journal names: its place in the journal of the first port of the path, and what came to that port
pub record LineStep : Type 0 where
  pub place : ℕ
  pub input : PortInput

-- the effect of a command: the entries of the source's journal, the steps that these name, and the facts of the source then,
-- the newest first
pub record CommandEffect : Type 0 where
  pub entries : List SourceEntry
  pub steps : List LineStep
  pub facts : List Fact

-- The outcome of the source of connection c, by its facts, when it is told to do something: the entry for it, and the
-- facts then.
abbrev pub did : Channel → (c : ℕ) → List Fact → SourceCommand → SourceEntry
did vc c facts command = Did (event_of c command) (command_answer vc facts command)

abbrev pub facts_past : Channel → List Fact → SourceCommand → List Fact
facts_past vc facts command = command_adds facts command (command_answer vc facts command) ++ facts

-- The deed begins with that, and the rest of its entries are these.
pub record Begins (vc : Channel) (c : ℕ) (facts : List Fact) (command : SourceCommand) (rest : List SourceEntry) (effect : CommandEffect) : Type 0 where
  pub entries : effect.entries ≡ did vc c facts command ∷ rest
  pub after : effect.facts ≡ facts_past vc facts command

-- the request that goes out, if one does
abbrev pub request_in : Outcome → Option Terms
request_in (Asked request) = Some request
request_in (Repeated request) = Some request
request_in outcome = None

-- Such a request is served at once.
abbrev pub Sends : Option Terms → List SourceEntry → List LineStep → Type 0
Sends None entries steps = (entries ≡ []) × (steps ≡ [])
Sends (Some request) entries steps =
    (place : ℕ) × (entries ≡ Sent place ∷ []) × (steps ≡ record { place = place; input = Request request } ∷ [])

-- the cell that leaves, if one does
abbrev pub cell_in : Outcome → Option ℕ
cell_in (Emitted cell next) = Some cell
cell_in outcome = None

-- when a cell arrives that left at `now` and is later by its jitter than its line's delay: not before the last arrival
abbrev pub arrival_of : Conn → (arrived now jitter : ℕ) → ℕ
arrival_of conn arrived now jitter = max (now + conn.delay + jitter) arrived

-- Such a cell is served then, unless it is lost.
abbrev pub Arrives : Conn → (arrived now : ℕ) → (jitter cell : Option ℕ) → List SourceEntry → List LineStep → Type 0
Arrives conn arrived now (Some jitter) (Some cell) entries steps =
    (place : ℕ) × (entries ≡ Arrived cell place ∷ [])
    × (steps ≡ record { place = place; input = Arrive conn.vc (arrival_of conn arrived now jitter) } ∷ [])
Arrives conn arrived now jitter cell entries steps = (entries ≡ []) × (steps ≡ [])

-- A source takes answers, each while it waits for one, and does with each what a source does.
abbrev pub Hears : Channel → (c : ℕ) → List Fact → List SourceEntry → List Fact → Type 0
Hears vc c facts [] after = after ≡ facts
Hears vc c facts (entry ∷ entries) after =
    (answer : Reply) × (is_asking_in (state_of facts) ≡ true) × (entry ≡ did vc c facts (source.Told answer))
    × Hears vc c (facts_past vc facts (source.Told answer)) entries after

-- The effect of a command on the source of connection c, by its facts, given when the last cell of the connection
-- arrived.
abbrev pub Does : Conn → (c : ℕ) → List Fact → (arrived : ℕ) → Command → CommandEffect → Type 0
Does conn c facts arrived (script.Start now) effect = Begins conn.vc c facts (source.Start now) [] effect × (effect.steps ≡ [])
Does conn c facts arrived (script.Ask rate plan) effect =
    (rest : List SourceEntry) × Begins conn.vc c facts (source.Ask rate plan) rest effect
    × Sends (request_in (command_answer conn.vc facts (source.Ask rate plan))) rest effect.steps
Does conn c facts arrived script.Again effect =
    (rest : List SourceEntry) × Begins conn.vc c facts source.Again rest effect
    × Sends (request_in (command_answer conn.vc facts source.Again)) rest effect.steps
Does conn c facts arrived script.Crash effect = Begins conn.vc c facts source.Crash [] effect × (effect.steps ≡ [])
Does conn c facts arrived (script.Emit now jitter) effect =
    (rest : List SourceEntry) × Begins conn.vc c facts (source.Emit now) rest effect
    × Arrives conn arrived now jitter (cell_in (command_answer conn.vc facts (source.Emit now))) rest effect.steps
Does conn c facts arrived (script.Listen turns) effect =
    Hears conn.vc c facts effect.entries effect.facts × (length effect.entries ≤ turns) × (effect.steps ≡ [])
