-- What is known of the messages of the events before one (docs/PICTURES.md, "Messages").
use Rattle.std.specs.Prelude.{◌≡◌, ◌↔◌, ℕ, nat_eq, nat_lt, Bool, false, List, Option, None, Some, IfSome, IfNone, IsTrue, is_some}
use Rattle.std.specs.Map.{lookup}
use Rattle.abt_chart.specs.Arrows.{IsNewestSending, IsUnsent, CameBefore, IsNewer, IsOvertaken}
use Rattle.abt_chart.specs.Places.{PlacesView, place_in}
use Rattle.abt_chart.specs.declared.message.Message.{Message}
use Rattle.abt_chart.specs.declared.told.Told.{Told}

-- the greatest number of its own requests that the source of each connection sent
pub record RequestsView : Type 0 where
  pub entries : List (ℕ × ℕ)

abbrev pub is_below : (seq : ℕ) → Option ℕ → Bool
is_below seq None = false
is_below seq (Some newest) = nat_lt seq newest

-- whether the source of its connection sent a newer request than a message
abbrev pub has_newer : RequestsView → Message → Bool
has_newer requests message = is_below message.seq (lookup (nat_eq message.conn) requests.entries)

-- this one is a newer request of its source
pub record SendsNewer (sent : Option Message) (message : Message) : Type 0 where
  pub newer : Message
  pub sends : sent ≡ Some newer
  pub is_newer : IsNewer newer message

-- the newest event that sent each message, and that brought it, and the newest request of each source
pub record BeforeView : Type 0 where
  pub sent : PlacesView
  pub came : PlacesView
  pub requests : RequestsView

-- What is known of each message is that of the events before event n.
pub record IsBefore (told : List Told) (n : ℕ) (before : BeforeView) : Type 0 where
  pub sent : (message : Message) → IfSome (place_in before.sent message) (IsNewestSending told message n)
  pub unsent : (message : Message) → IfNone (place_in before.sent message) (IsUnsent told message n)
  pub came : (message : Message) → IsTrue (is_some (place_in before.came message)) ↔ CameBefore told message n
  pub overtaken : (message : Message) → IsTrue (has_newer before.requests message) ↔ IsOvertaken told message n
