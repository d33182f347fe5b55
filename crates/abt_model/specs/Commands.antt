-- Commands to sources as events.
use Rattle.abt_model.specs.declared.command.SourceCommand.{SourceCommand}
use Rattle.abt_model.specs.declared.command.SourceCommand.TheVariants.{Start, Ask, Again, Crash, Emit, Told}
use Rattle.abt_model.specs.declared.target.SourceEvent.{SourceEvent}
use Rattle.abt_model.specs.declared.target.SourceEvent.TheVariants as source

abbrev pub event_told : SourceCommand → SourceEvent
event_told (Start now) = source.Start now
event_told (Ask rate plan) = source.Ask rate plan
event_told Again = source.Again
event_told Crash = source.Crash
event_told (Emit now) = source.Emit now
event_told (Told answer) = source.Told answer.terms.seq answer.granted
