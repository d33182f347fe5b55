-- The events that commands of scripts are (docs/FORMATS.md, "Scripts").
use Rattle.std.specs.Prelude.{ℕ, Option, Some, None}
use Rattle.abt_model.specs.declared.event.Event.{Event}
use Rattle.abt_model.specs.declared.event.Event.TheVariants as event
use Rattle.abt_model.specs.declared.script_command.Command.{Command}
use Rattle.abt_model.specs.declared.script_command.Command.TheVariants.{Start, Ask, Again, Crash, Emit, Listen}

abbrev pub event_of : (c : ℕ) → Command → Option Event
event_of c (Start now) = Some (event.Start c now)
event_of c (Ask rate plan) = Some (event.Ask c rate plan)
event_of c Again = Some (event.Again c)
event_of c Crash = Some (event.Crash c)
event_of c (Emit now jitter) = Some (event.Emit c now)
event_of c (Listen turns) = None
