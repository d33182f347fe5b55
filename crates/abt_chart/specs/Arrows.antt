-- Which sending each message that came is of, and which messages never came. Events of a run count from 0.
use Rattle.std.specs.Prelude.{◌≡◌, ◌≢◌, ◌↔◌, ℕ, ◌<◌, ◌≤◌, List, Option, Some, IfSome, IfNone, IsTrue, slice_get, option_and_then}
use Rattle.abt_chart.specs.declared.arrow.Arrival.{Arrival}
use Rattle.abt_chart.specs.declared.arrow.Departure.{Departure}
use Rattle.abt_chart.specs.declared.message.Kind.TheVariants as kind
use Rattle.abt_chart.specs.declared.message.Message.{Message}
use Rattle.abt_chart.specs.declared.message.Stop.TheVariants.{Hop}
use Rattle.abt_chart.specs.declared.told.Told.{Told}

-- the message that an event sent, and the one that it brought, if the run has so many events
abbrev pub sent_at : List Told → ℕ → Option Message
sent_at told k = option_and_then (λ (t : Told). t.sent) (slice_get told k)

abbrev pub brought_at : List Told → ℕ → Option Message
brought_at told k = option_and_then (λ (t : Told). t.brought) (slice_get told k)

-- Of the events before event i, event s is the newest that sent a message.
pub record IsNewestSending (told : List Told) (message : Message) (i s : ℕ) : Type 0 where
  pub before : s < i
  pub sends : sent_at told s ≡ Some message
  pub none_since : (k : ℕ) → s < k → k < i → sent_at told k ≢ Some message

-- No event before event i sent it.
pub record IsUnsent (told : List Told) (message : Message) (i : ℕ) : Type 0 where
  pub none : (k : ℕ) → k < i → sent_at told k ≢ Some message

-- Event i brings the message that event s sent.
pub record Brings (told : List Told) (message : Message) (s i : ℕ) : Type 0 where
  pub newest : IsNewestSending told message i s
  pub brings : brought_at told i ≡ Some message

-- Event i is the first that brings what event s sent.
pub record IsFirstComing (told : List Told) (message : Message) (s i : ℕ) : Type 0 where
  pub brings : Brings told message s i
  pub first : (k : ℕ) → Brings told message s k → i ≤ k

-- What event s sent never comes: it was lost, or a newer copy came in its place.
pub record NeverComes (told : List Told) (message : Message) (s : ℕ) : Type 0 where
  pub never : (k : ℕ) → Brings told message s k → ⊥

-- A copy of it came before event i.
pub record CameBefore (told : List Told) (message : Message) (i : ℕ) : Type 0 where
  pub k : ℕ
  pub before : k < i
  pub brings : brought_at told k ≡ Some message

-- one message is the source's own request of a greater number than another's
pub record IsNewer (newer message : Message) : Type 0 where
  pub conn : newer.conn ≡ message.conn
  pub kind_is : newer.kind ≡ kind.Request
  pub stop : newer.stop ≡ Hop 1
  pub seq : message.seq < newer.seq

-- The source of its connection had sent a newer request before event i.
pub record IsOvertaken (told : List Told) (message : Message) (i : ℕ) : Type 0 where
  pub k : ℕ
  pub newer : Message
  pub before : k < i
  pub sends : sent_at told k ≡ Some newer
  pub is_newer : IsNewer newer message

-- what event i brings: the event that sent it, whether a copy had come before, and whether a newer request had been sent before
pub record IsArrival (told : List Told) (i : ℕ) (arrival : Arrival) : Type 0 where
  pub brings : brought_at told i ≡ Some arrival.message
  pub sent : IfSome arrival.sent (IsNewestSending told arrival.message i)
  pub unsent : IfNone arrival.sent (IsUnsent told arrival.message i)
  pub again : IsTrue arrival.again ↔ CameBefore told arrival.message i
  pub late : IsTrue arrival.late ↔ IsOvertaken told arrival.message i

-- what event s sends: the event that brings it first, if one does
pub record IsDeparture (told : List Told) (s : ℕ) (departure : Departure) : Type 0 where
  pub sends : sent_at told s ≡ Some departure.message
  pub came : IfSome departure.came (IsFirstComing told departure.message s)
  pub lost : IfNone departure.came (NeverComes told departure.message s)
