-- A source in any state, as the code keeps it.
use Rattle.std.specs.Prelude.{◌≡◌, Bool, true, false, None}
use Rattle.abt_keep.specs.Record.{KeptRecord}
use Rattle.abt_source.specs.SourceView.{SourceView}
use Rattle.abt_lifetime.specs.Lifetime.{StoredView}
use Rattle.abt_lifetime.specs.declared.any_source.AnySource.{AnySource}
use Rattle.abt_lifetime.specs.declared.any_source.AnySource.TheVariants.{Down, Idle, Asking}

abbrev pub source_in : AnySource → SourceView
source_in (Down source) = source
source_in (Idle source) = source
source_in (Asking source) = source

abbrev pub is_up_in : AnySource → Bool
is_up_in (Down source) = false
is_up_in (Idle source) = true
is_up_in (Asking source) = true

-- A source that isn't asking waits for no answer.
abbrev pub WaitsOnlyAsking : AnySource → Type 0
WaitsOnlyAsking (Down source) = Unit {0}
WaitsOnlyAsking (Idle source) = source.newest ≡ None
WaitsOnlyAsking (Asking source) = Unit {0}

-- a source in any state, with the record that its store holds
abbrev pub stored_in : AnySource → Bool → KeptRecord → StoredView
stored_in running was_started held = record { is_up = is_up_in running; was_started = was_started; source = source_in running; held = held }
