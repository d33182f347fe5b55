-- What a source does with a command, by the facts of its connection, the newest first: what the event of that name does
-- (docs/FORMATS.md, "Events and outcomes").
use Rattle.std.specs.Prelude.{ℕ, List, if◌then◌else◌}
use Rattle.abt_cell.specs.Channel.{Channel}
use Rattle.abt_cell.specs.Message.{Reply}
use Rattle.abt_source.specs.Calls.{same_terms}
use Rattle.abt_facts.specs.declared.fact.Fact.{Fact}
use Rattle.abt_facts.specs.Source.{SourceState, Down, Idle, Asking, state_of}
use Rattle.abt_model.specs.declared.command.SourceCommand.{SourceCommand}
use Rattle.abt_model.specs.declared.command.SourceCommand.TheVariants.{Start, Ask, Again, Crash, Emit, Told}
use Rattle.abt_model.specs.declared.event.Event.{Event}
use Rattle.abt_model.specs.declared.outcome.Heard.{Heard}
use Rattle.abt_model.specs.declared.outcome.Heard.TheVariants.{Ignored}
use Rattle.abt_model.specs.declared.outcome.Outcome.{Outcome}
use Rattle.abt_model.specs.declared.outcome.Outcome.TheVariants.{Crashed, Told as HasTold}
use Rattle.abt_source.specs.SourceFacts.{request_of}
use Rattle.abt_model.specs.Answers.{if_up, start_answer, ask_answer, again_answer, emit_answer, hearing}
use Rattle.abt_model.specs.Commands.{event_told}
use Rattle.abt_model.specs.Targets.{event_at_source}
use Rattle.abt_model.specs.Outcomes.{facts_added}

-- the event that a command is at the source of connection c
abbrev pub event_of : ℕ → SourceCommand → Event
event_of c command = event_at_source c (event_told command)

-- a source hears the answer to the request that it waits for, and no other
abbrev pub heard_by : Channel → List Fact → SourceState → Reply → Heard
heard_by vc facts Down answer = Ignored
heard_by vc facts Idle answer = Ignored
heard_by vc facts (Asking seq) answer = if same_terms (request_of vc facts seq) answer.terms then hearing answer.granted else Ignored

-- the outcome of a command of a connection's source
abbrev pub command_answer : Channel → List Fact → SourceCommand → Outcome
command_answer vc facts (Start now) = start_answer (state_of facts) facts now
command_answer vc facts (Ask rate plan) = if_up (state_of facts) (ask_answer vc facts rate plan)
command_answer vc facts Again = again_answer vc (state_of facts) facts
command_answer vc facts Crash = if_up (state_of facts) Crashed
command_answer vc facts (Emit now) = if_up (state_of facts) (emit_answer facts now)
command_answer vc facts (Told answer) = HasTold (heard_by vc facts (state_of facts) answer)

-- the facts that it adds, the newest first
abbrev pub command_adds : List Fact → SourceCommand → Outcome → List Fact
command_adds facts command outcome = facts_added facts (event_of 0 command) outcome
