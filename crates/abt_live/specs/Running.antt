-- A source in any state, as the code keeps it, and the actor that it is with what outlives a crash.
use Rattle.std.specs.Prelude.{ℕ}
use Rattle.abt_keep.specs.Record.{KeptRecord}
use Rattle.abt_facts.specs.Source.{SourceState, Down, Idle, Asking}
use Rattle.abt_source.specs.SourceView.{SourceView}
use Rattle.abt_actor.specs.Actor.{ActorView}
use Rattle.abt_live.specs.declared.running.Running.{Running}
use Rattle.abt_live.specs.declared.running.Running.TheVariants.{Down as IsDown, Idle as IsIdle, Asking as IsAsking}

abbrev pub source_in : Running → SourceView
source_in (IsDown source) = source
source_in (IsIdle source) = source
source_in (IsAsking source) = source

abbrev pub state_in : Running → SourceState
state_in (IsDown source) = Down
state_in (IsIdle source) = Idle
state_in (IsAsking source) = Asking source.last

-- an actor whose source is in any state, with the record in its store, the count of its cells and its clock
abbrev pub actor_in : Running → KeptRecord → (cells clock : ℕ) → ActorView
actor_in running kept cells clock = record { source = source_in running; state = state_in running; kept = kept; cells = cells; clock = clock }
