-- Answers that came to sources and wait there, the oldest of each first.
use Rattle.std.specs.Prelude.{◌<◌, ◌⊎◌, ℕ, List, [], map, length, slice_index_or}
use Rattle.std.specs.declared.alloc.Global.{Global}
use Rattle.std.specs.declared.collections.VecDeque.{VecDeque}
use Rattle.abt_model.specs.declared.event.Event.{Event}
use Rattle.abt_play.specs.UnderWay.{count_of}
use Rattle.abt_play.specs.declared.parcel.Parcel.{Parcel}

-- those of each source
abbrev pub boxes_of : List (VecDeque Event Global) → List (List Event)
boxes_of queues = map (λ queue. queue.items) queues

-- those of the source of a connection
abbrev pub box_of : List (List Event) → (c : ℕ) → List Event
box_of boxes c = slice_index_or boxes c []

-- An answer has come to the source of a connection, or a message of that connection is under way.
abbrev pub CanHear : (c : ℕ) → (boxes : List (List Event)) → List Parcel → Type 0
CanHear c boxes parcels = (0 < length (box_of boxes c)) ⊎ (0 < count_of c parcels)
