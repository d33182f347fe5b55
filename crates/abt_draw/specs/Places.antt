-- Where things stand in a picture: who has which column, and how far down an event is.
use Rattle.std.specs.Prelude.{◌≡◌, ◌≢◌, ℕ, zero, suc, ◌+◌, ◌-◌, ◌*◌, ◌<◌, nat_lt, if◌then◌else◌, List, length, Option, None, Some, option_map, option_and_then, slice_get, unwrap_or}
use Rattle.abt_net.specs.declared.conn.Conn.{Conn}
use Rattle.abt_net.specs.Topology.{Topology, conn_at}
use Rattle.abt_chart.specs.declared.message.Stop.{Stop}
use Rattle.abt_chart.specs.declared.message.Stop.TheVariants.{Source, Hop, End}
use Rattle.abt_draw.specs.declared.actor.Actor.{Actor}
use Rattle.abt_draw.specs.declared.actor.Actor.TheVariants as actor
use Rattle.abt_draw.specs.declared.place.Rows.{Rows}

-- the port of a hop, counted from 1
abbrev pub port_in : List ℕ → (hop : ℕ) → Option ℕ
port_in path zero = None
port_in path (suc before) = slice_get path before

-- whose lifeline a stop of a connection is on
abbrev pub actor_at : Topology → (c : ℕ) → Stop → Option Actor
actor_at net c Source = Some (actor.Source c)
actor_at net c (Hop hop) = option_map actor.Port (option_and_then (λ (conn : Conn). port_in conn.path hop) (conn_at net c))
actor_at net c End = Some (actor.End c)

-- An actor has a column: the first that is its own.
pub record IsColumn (columns : List Actor) (who : Actor) (column : ℕ) : Type 0 where
  pub own : slice_get columns column ≡ Some who
  pub first : (k : ℕ) → k < column → slice_get columns k ≢ Some who

-- No column is an actor's.
pub record HasNoColumn (columns : List Actor) (who : Actor) : Type 0 where
  pub none : (k : ℕ) → k < length columns → slice_get columns k ≢ Some who

-- how far down an event is: 0 before the first that is shown, then from 1 for the first row to one more than there are rows behind the last
abbrev pub level_of : Rows → (event : ℕ) → ℕ
level_of rows event = if nat_lt event rows.first then 0 else unwrap_or (slice_get rows.levels.now (event - rows.first)) (rows.count + 1)

-- in tenths of a unit: the middle of a column, and that of a row
abbrev pub x_of : (left step column : ℕ) → ℕ
x_of left step column = left + step * column

abbrev pub y_of : (level : ℕ) → ℕ
y_of level = 400 + 260 * level
