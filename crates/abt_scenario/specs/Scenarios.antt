-- The scenario that a text says, or its first fault (docs/FORMATS.md, "Scenario").
use Rattle.std.specs.Prelude.{◌≡◌, ◌⊎◌, ℕ, ◌+◌, List, [], ◌∷◌, Option, Some, None, Ok, Err, MatchResult}
use Rattle.toml.specs.Data.{Members}
use Rattle.abt_net.specs.Faults.{IsFirstFault}
use Rattle.abt_net.specs.Topology.{Topology, IsWithinRules}
use Rattle.abt_net.specs.declared.fault.NetFault.{NetFault}
use Rattle.abt_model.specs.declared.event.Event.{Event}
use Rattle.abt_model.specs.declared.script_command.Command.{Command}
use Rattle.abt_format.specs.CommandTexts.{command_of}
use Rattle.abt_format.specs.EventTexts.{event_of}
use Rattle.abt_format.specs.OperationTexts.{operation_of}
use Rattle.abt_text.specs.Text.{Text}
use Rattle.abt_scenario.specs.declared.fault.ScenarioFault.{ScenarioFault}
use Rattle.abt_scenario.specs.declared.fault.ScenarioFault.TheVariants.{Net, EventText, ScriptText, OperatorText}
use Rattle.abt_scenario.specs.declared.scenario.Scenario.{Scenario}
use Rattle.abt_text.specs.FirstFault.{◌>>=◌}
use Rattle.abt_scenario.specs.Reading.{Read}
use Rattle.abt_scenario.specs.Walk.{DraftRead, draft_in, draft_of}

abbrev pub event_or_fault : ℕ → Option Event → Read Event
event_or_fault number (Some event) = Ok event
event_or_fault number None = Err (EventText number)

-- the events of some texts, the first of this number
abbrev pub events_from : ℕ → List Text → Read (List Event)
events_from number [] = Ok []
events_from number (text ∷ texts) = do
  event ← event_or_fault number (event_of text)
  events ← events_from (number + 1) texts
  Ok (event ∷ events)

abbrev pub command_or_fault : ℕ → ℕ → Option Command → Read Command
command_or_fault connection number (Some command) = Ok command
command_or_fault connection number None = Err (ScriptText connection number)

-- the commands of some texts of a connection's script, the first of this number
abbrev pub commands_from : ℕ → ℕ → List Text → Read (List Command)
commands_from connection number [] = Ok []
commands_from connection number (text ∷ texts) = do
  command ← command_or_fault connection number (command_of text)
  commands ← commands_from connection (number + 1) texts
  Ok (command ∷ commands)

-- the scripts of some connections, the first of this number
abbrev pub scripts_from : ℕ → List (List Text) → Read (List (List Command))
scripts_from connection [] = Ok []
scripts_from connection (texts ∷ scripts) = do
  commands ← commands_from connection 1 texts
  others ← scripts_from (connection + 1) scripts
  Ok (commands ∷ others)

abbrev pub operation_or_fault : ℕ → Option (ℕ × ℕ) → Read (ℕ × ℕ)
operation_or_fault number (Some operation) = Ok operation
operation_or_fault number None = Err (OperatorText number)

-- the operations of some texts, the first of this number
abbrev pub operations_from : ℕ → List Text → Read (List (ℕ × ℕ))
operations_from number [] = Ok []
operations_from number (text ∷ texts) = do
  operation ← operation_or_fault number (operation_of text)
  operations ← operations_from (number + 1) texts
  Ok (operation ∷ operations)

-- the ports and connections of a draft
abbrev pub net_in : DraftRead → Topology
net_in draft = record { capacities = draft.capacities; conns = draft.connections.conns }

-- the scenario of a draft whose ports and connections are a net
abbrev pub scenario_over : DraftRead → Read Scenario
scenario_over draft = do
  events ← events_from 1 draft.events
  scripts ← scripts_from 0 draft.connections.scripts
  operations ← operations_from 1 draft.operations
  Ok (record { net = net_in draft; events = events; scripts = scripts; operator = operations })

-- The fault is the first of ports and connections that are no net.
abbrev pub IsNetFault : Topology → ScenarioFault → Type 0
IsNetFault net fault = (net_fault : NetFault) × IsFirstFault net net_fault × (fault ≡ Net net_fault)

-- A draft is read so: the net comes first, then the events, then the scripts, and last the operator.
abbrev pub ReadsDraft : DraftRead → Read Scenario → Type 0
ReadsDraft draft (Ok scenario) = IsWithinRules (net_in draft) × (scenario_over draft ≡ Ok scenario)
ReadsDraft draft (Err fault) = IsNetFault (net_in draft) fault ⊎ (IsWithinRules (net_in draft) × (scenario_over draft ≡ Err fault))

-- The table of a text is read so: as this scenario, or with this first fault.
abbrev pub ReadsTable : Members → Read Scenario → Type 0
ReadsTable members answer = MatchResult (draft_in members) (λ draft. ReadsDraft draft answer) (λ fault. answer ≡ Err fault)

-- A text is read so: as this scenario, or with this first fault.
abbrev pub Reads : Text → Read Scenario → Type 0
Reads text answer = MatchResult (draft_of text) (λ draft. ReadsDraft draft answer) (λ fault. answer ≡ Err fault)
