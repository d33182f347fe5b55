-- A source in any state, as the code keeps it, and what an ask makes of it.
use Rattle.std.specs.Prelude.{◌==◌, ℕ, Result, Ok, Err, if◌then◌else◌}
use Rattle.abt_rate.specs.Limits.{number_max}
use Rattle.abt_cell.specs.Message.{Terms}
use Rattle.abt_keep.specs.Record.{KeptRecord}
use Rattle.abt_keep.specs.MemoryStore.{StoreView, keep_under}
use Rattle.abt_keep.specs.declared.fault.StoreFault.{StoreFault}
use Rattle.abt_facts.specs.Source.{SourceState, Down, Idle, Asking}
use Rattle.abt_source.specs.SourceView.{SourceView}
use Rattle.abt_source.specs.Calls.{asking_source, next_request, has_to_write, record_to_write}
use Rattle.abt_source.specs.declared.fault.AskFault.{AskFault}
use Rattle.abt_source.specs.declared.fault.AskFault.TheVariants.{SeqExhausted, Keep}
use Rattle.abt_actor.specs.Actor.{ActorView}
use Rattle.abt_actor.specs.declared.any_source.AnySource.{AnySource}
use Rattle.abt_actor.specs.declared.any_source.AnySource.TheVariants.{Down as IsDown, Idle as IsIdle, Asking as IsAsking}

-- a source in any state
abbrev pub source_in : AnySource → SourceView
source_in (IsDown source) = source
source_in (IsIdle source) = source
source_in (IsAsking source) = source

abbrev pub state_in : AnySource → SourceState
state_in (IsDown source) = Down
state_in (IsIdle source) = Idle
state_in (IsAsking source) = Asking source.last

-- an actor whose source is in any state, with the record in its store, the count of its cells and its clock
abbrev pub actor_in : AnySource → KeptRecord → (cells clock : ℕ) → ActorView
actor_in running kept cells clock = record { source = source_in running; state = state_in running; kept = kept; cells = cells; clock = clock }

-- the request of an ask that goes out
abbrev pub goes_from : AnySource → ℕ → Result (SourceView × Terms) (AnySource × AskFault)
goes_from running rate = Ok (asking_source (source_in running) (next_request (source_in running) rate), next_request (source_in running) rate)

-- the result of an ask of a source that is up, and its store after it
abbrev pub asked_by : AnySource → ℕ → Result (Unit {0}) StoreFault × StoreView → Result (SourceView × Terms) (AnySource × AskFault) × StoreView
asked_by running rate (Ok _, store) = (goes_from running rate, store)
asked_by running rate (Err _, store) = (Err (running, Keep), store)

abbrev pub result_of_asking : AnySource → StoreView → ℕ → Result (SourceView × Terms) (AnySource × AskFault) × StoreView
result_of_asking running store rate =
    if (source_in running).last == number_max then (Err (running, SeqExhausted), store)
    else (if has_to_write (source_in running) rate then asked_by running rate (keep_under store.plan store (record_to_write (source_in running) rate))
    else (goes_from running rate, store))
