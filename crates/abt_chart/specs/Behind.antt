-- Where each message is sent or brought next (docs/PICTURES.md, "Messages").
use Rattle.std.specs.Prelude.{◌≡◌, ◌≢◌, ◌⊎◌, ℕ, ◌-◌, ◌<◌, ◌≤◌, List, length, Option, None, Some, IfSome, IfNone, slice_get}
use Rattle.abt_chart.specs.Arrows.{sent_at, brought_at, IsDeparture}
use Rattle.abt_chart.specs.Places.{PlacesView, place_in}
use Rattle.abt_chart.specs.declared.arrow.Departure.{Departure}
use Rattle.abt_chart.specs.declared.message.Message.{Message}
use Rattle.abt_chart.specs.declared.told.Told.{Told}

-- From event n on, event i is the first that sends or brings a message.
pub record IsNext (told : List Told) (message : Message) (n i : ℕ) : Type 0 where
  pub from : n ≤ i
  pub within : i < length told
  pub has : (sent_at told i ≡ Some message) ⊎ (brought_at told i ≡ Some message)
  pub none_sends : (k : ℕ) → n ≤ k → k < i → sent_at told k ≢ Some message
  pub none_brings : (k : ℕ) → n ≤ k → k < i → brought_at told k ≢ Some message

-- No event from event n on sends or brings it.
pub record IsGone (told : List Told) (message : Message) (n : ℕ) : Type 0 where
  pub none_sends : (k : ℕ) → n ≤ k → sent_at told k ≢ Some message
  pub none_brings : (k : ℕ) → n ≤ k → brought_at told k ≢ Some message

-- The place of each message is that of the first event from event n on that sends or brings it.
pub record AreNext (told : List Told) (n : ℕ) (places : PlacesView) : Type 0 where
  pub next : (message : Message) → IfSome (place_in places message) (IsNext told message n)
  pub gone : (message : Message) → IfNone (place_in places message) (IsGone told message n)

-- what an event sends, if it sends a message
pub record IsSending (told : List Told) (i : ℕ) (departure : Option Departure) : Type 0 where
  pub departs : IfSome departure (IsDeparture told i)
  pub nothing : IfNone departure (sent_at told i ≡ None)

-- what so many events before event `end` send, the last first
pub record AreSendings (told : List Told) (end count : ℕ) (departures : List (Option Departure)) : Type 0 where
  pub count_is : length departures ≡ count
  pub each : (k : ℕ) (departure : Option Departure) → slice_get departures k ≡ Some departure → IsSending told (end - 1 - k) departure
