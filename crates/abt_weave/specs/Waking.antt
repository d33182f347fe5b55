-- What a look has placed, and who can have waited for it. Events are listed with the newest first, but for those that a look adds to.
use Rattle.std.specs.Prelude.{◌≡◌, ℕ, ◌+◌, ◌-◌, ◌<◌, ◌≤◌, Bool, true, List, [], ◌∷◌, ◌++◌, Some, length, slice_index, ◌⊎◌}
use Rattle.abt_cell.specs.Channel.{Channel}
use Rattle.abt_net.specs.declared.conn.Conn.{Conn}
use Rattle.abt_net.specs.Topology.{Topology, conn_at}
use Rattle.abt_model.specs.declared.event.Event.{Event}
use Rattle.abt_model.specs.declared.event.Event.TheVariants.{Capacity}
use Rattle.abt_model.specs.Answers.{is_hop}
use Rattle.abt_model.specs.Outcomes.{conn_of}
use Rattle.abt_model.specs.PortTable.{hop_visited}
use Rattle.abt_weave.specs.declared.actor.Actor.{Actor}
use Rattle.abt_weave.specs.declared.actor.Actor.TheVariants.{Source, Port}
use Rattle.abt_weave.specs.Projections.{Step}
use Rattle.abt_weave.specs.Stuck.{RunJournals, next_step}
use Rattle.abt_weave.specs.Actors.{actor_at, actor_count}
use Rattle.abt_weave.specs.Candidates.{channel_of}
use Rattle.abt_weave.specs.Comes.{IsTurnOf}

-- The event was placed behind the old ones, if it needed one with its Turn before it. These lists have the oldest first.
abbrev pub HasPlaced : Topology → Event → (old new : List Event) → Type 0
HasPlaced net event old new = (new ≡ old ++ event ∷ []) ⊎ ((turn : Event) × IsTurnOf net event turn × (new ≡ (old ++ turn ∷ []) ++ event ∷ []))

-- a hop is another one, or stands beside it on a path: the source stands before the first, at 0
abbrev pub AreNear : (hop other : ℕ) → Type 0
AreNear hop other = (hop ≤ other + 1) × (other ≤ hop + 1)

-- the next step of a port is about this channel
pub record IsAbout (net : Topology) (js : RunJournals) (earlier : List Event) (p : ℕ) (vc : Channel) : Type 0 where
  pub step : Step
  pub next : next_step net js earlier p ≡ Some step
  pub channel : channel_of step.input ≡ Some vc

-- A port stands on the path of the connection of an event, which came to it, or whose channel its next step is about and which came to a hop beside it.
pub record IsPassed (net : Topology) (js : RunJournals) (earlier : List Event) (event : Event) (p : ℕ) : Type 0 where
  pub c : ℕ
  pub whose : conn_of event ≡ Some c
  pub conn : Conn
  pub known : conn_at net c ≡ Some conn
  pub hop : ℕ
  pub within : is_hop (length conn.path) hop ≡ true
  pub port : slice_index conn.path (hop - 1) ≡ p
  pub why : (hop ≡ hop_visited event) ⊎ (AreNear hop (hop_visited event) × IsAbout net js earlier p conn.vc)

-- An event, the last of these, is one that an actor can have waited for: for a source one of its connection that happened there or at the first hop; for a port one
-- that came to it, or to a hop beside it of the connection that its next step is about.
abbrev pub Touches : Topology → RunJournals → List Event → Event → Actor → Type 0
Touches net js earlier event (Source d) = (conn_of event ≡ Some d) × (hop_visited event ≤ 1)
Touches net js earlier event (Port p) = ((u : ℕ) × (event ≡ Capacity p u)) ⊎ IsPassed net js earlier event p

-- the actors of these numbers
abbrev pub AreTouched : Topology → RunJournals → List Event → Event → ℕ → Type 0
AreTouched net js earlier event i = (i < actor_count net) × Touches net js earlier event (actor_at net i)

-- the number of this port, if an event came to it or its next step is about this channel
abbrev pub IsPortFor : Topology → RunJournals → List Event → (p : ℕ) (came : Bool) → Channel → (i : ℕ) → Type 0
IsPortFor net js earlier p came vc i = (i ≡ length net.conns + p) × ((came ≡ true) ⊎ IsAbout net js earlier p vc)

-- the port at the hop of a connection to which an event came, and those beside it whose next steps are about the connection, by their numbers
pub record AreOnPath (net : Topology) (js : RunJournals) (earlier : List Event) (c hop i : ℕ) : Type 0 where
  pub conn : Conn
  pub known : conn_at net c ≡ Some conn
  pub place : ℕ
  pub low : place < length conn.path
  pub number : i ≡ length net.conns + slice_index conn.path place
  pub why : (place + 1 ≡ hop) ⊎ (AreNear (place + 1) hop × IsAbout net js earlier (slice_index conn.path place) conn.vc)

-- the source of a connection, if an event happened there or came to the first hop
abbrev pub IsSourceFor : (c hop i : ℕ) → Type 0
IsSourceFor c hop i = (i ≡ c) × (hop ≤ 1)

-- those, and that source
abbrev pub AreOfConn : Topology → RunJournals → List Event → (c hop i : ℕ) → Type 0
AreOfConn net js earlier c hop i = (IsSourceFor c hop i × (c < length net.conns)) ⊎ AreOnPath net js earlier c hop i
