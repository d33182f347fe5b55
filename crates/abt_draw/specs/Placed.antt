-- The arrows of a picture: each from the column and the row where its message was sent to those where it came.
use Rattle.std.specs.Prelude.{◌≡◌, ◌⊎◌, ℕ, List, Option, None, Some, IfSome, IfNone}
use Rattle.abt_net.specs.Topology.{Topology}
use Rattle.abt_chart.specs.Messages.{stop_before, stop_after}
use Rattle.abt_chart.specs.Tellings.{hops_of}
use Rattle.abt_chart.specs.declared.arrow.Arrival.{Arrival}
use Rattle.abt_chart.specs.declared.arrow.Departure.{Departure}
use Rattle.abt_chart.specs.declared.message.Kind.{Kind}
use Rattle.abt_chart.specs.declared.message.Kind.TheVariants as kind
use Rattle.abt_chart.specs.declared.message.Message.{Message}
use Rattle.abt_chart.specs.declared.message.Stop.{Stop}
use Rattle.abt_chart.specs.declared.message.Stop.TheVariants.{Source, Hop, End}
use Rattle.abt_draw.specs.Places.{actor_at, level_of, IsColumn, HasNoColumn}
use Rattle.abt_draw.specs.declared.actor.Actor.{Actor}
use Rattle.abt_draw.specs.declared.arrow.Arrow.{Arrow}
use Rattle.abt_draw.specs.declared.arrow.Lost.{Lost}
use Rattle.abt_draw.specs.declared.place.Rows.{Rows}

-- the stop from which a message is sent to another: requests go along the path, answers back
abbrev pub stop_from : (hops : ℕ) → Kind → Stop → Stop
stop_from hops kind.Request (Hop hop) = stop_before hop
stop_from hops kind.Request End = Hop hops
stop_from hops kind.Request Source = Source
stop_from hops answer (Hop hop) = stop_after hops hop
stop_from hops answer Source = Hop 1
stop_from hops answer End = End

abbrev pub sender_of : Topology → Message → Option Actor
sender_of net message = actor_at net message.conn (stop_from (hops_of net (Some message.conn)) message.kind message.stop)

abbrev pub receiver_of : Topology → Message → Option Actor
receiver_of net message = actor_at net message.conn message.stop

-- the level of the event that sent a message: above the first row, if it isn't known
abbrev pub level_from : Rows → Option ℕ → ℕ
level_from rows None = 0
level_from rows (Some event) = level_of rows event

-- Somebody has a column.
abbrev pub Stands : List Actor → Option Actor → ℕ → Type 0
Stands columns who column = IfSome who (λ actor. IsColumn columns actor column) × IfNone who ⊥

-- the arrow of the message that an event brings
pub record IsArrow (net : Topology) (columns : List Actor) (rows : Rows) (event : ℕ) (arrival : Arrival) (arrow : Arrow) : Type 0 where
  pub message : arrow.message ≡ arrival.message
  pub sender : Stands columns (sender_of net arrival.message) arrow.from.column
  pub receiver : Stands columns (receiver_of net arrival.message) arrow.to.column
  pub sent : arrow.from.level ≡ level_from rows arrival.sent
  pub came : arrow.to.level ≡ level_of rows event
  pub again : arrow.again ≡ arrival.again
  pub late : arrow.late ≡ arrival.late

-- the stump of a message that an event sends and that never comes
pub record IsLost (net : Topology) (columns : List Actor) (rows : Rows) (event : ℕ) (departure : Departure) (lost : Lost) : Type 0 where
  pub message : lost.message ≡ departure.message
  pub never : departure.came ≡ None
  pub sender : Stands columns (sender_of net departure.message) lost.from.column
  pub receiver : Stands columns (receiver_of net departure.message) lost.toward
  pub sent : lost.from.level ≡ level_of rows event

-- Who has no column.
abbrev pub IsAbsent : List Actor → Option Actor → Type 0
IsAbsent columns who = IfSome who (HasNoColumn columns)

-- The sender or the receiver of a message has no column.
abbrev pub IsUnseen : Topology → List Actor → Message → Type 0
IsUnseen net columns message = IsAbsent columns (sender_of net message) ⊎ IsAbsent columns (receiver_of net message)
