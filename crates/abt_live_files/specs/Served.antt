-- What goes out when a switch or a source of a scenario's net answers lines (docs/LIVE.md).
use Rattle.std.specs.Prelude.{◌≡◌, ◌<◌, ◌⊎◌, ℕ, Bool, true, false, List, [], ◌∷◌, All, Contains, map, length, Option, None, Some, Ok, IfSome, slice_get, string_bytes}
use Rattle.std.specs.Io.KnownBytes.{Keeps}
use Rattle.abt_text.specs.Text.{Text}
use Rattle.abt_cell.specs.Channel.{Channel}
use Rattle.abt_keep.specs.Record.{KeptRecord}
use Rattle.abt_lines.specs.Served.{ServesAll, ServesPart}
use Rattle.abt_net.specs.Topology.{Topology, channel_at}
use Rattle.abt_net.specs.declared.conn.Conn.{Conn}
use Rattle.abt_records.specs.Served.{ServesRecords, ServesSome}
use Rattle.abt_scenario.specs.Engine.{Explains}
use Rattle.abt_scenario.specs.Scenarios.{Reads}
use Rattle.abt_scenario.specs.declared.scenario.Scenario as scenario_of
use Rattle.abt_live.specs.declared.past.Past.{Past}
use Rattle.abt_live.specs.declared.source_lines.SourceLines.{SourceLines}
use Rattle.abt_live.specs.declared.switch.SwitchLines.{SwitchLines}
use Rattle.abt_live.specs.Ports.{opening_of}
use Rattle.abt_live.specs.Serving.{EndsSilent}
use Rattle.abt_live.specs.Source.{new_actor}
use Rattle.abt_live.specs.Switch.{SwitchesLine}
use Rattle.abt_live.specs.SwitchRecords.{SwitchesRecord}
use Rattle.abt_live_files.specs.declared.fault.LiveStop.{LiveStop}
use Rattle.abt_live_files.specs.declared.fault.LiveStop.TheVariants.{Scenario, Port, Connection, Store, Journal, Serving}
use Rattle.abt_plans.specs.declared.process.SourcePlan.{SourcePlan}
use Rattle.abt_plans.specs.declared.process.SwitchPlan.{SwitchPlan}
use Rattle.abt_live_files.specs.Clock.{KeepsReading, machine_clock}
use Rattle.abt_live_files.specs.Opened.{BeginsBy}
use Rattle.abt_live_files.specs.SourceServed.{BeginsClocked, BeginsHanded, ServesClocked, ServesHanded}
use Rattle.abt_live_files.specs.Words.{TellsEach, stop_pieces}

-- A switch has these ports of a net, which have done nothing yet.
pub record IsOpened {J : Type 0} (net : Topology) (ids : List ℕ) (first : SwitchLines J) : Type 0 where
  pub ports : first.ports.items ≡ map (opening_of net) ids
  pub net_is : first.net.now ≡ net

-- The net of the scenario that was read has these ports.
pub record HasPorts (text : Option Text) (ids : List ℕ) (net : Topology) : Type 0 where
  pub scenario : scenario_of.Scenario
  pub read : IfSome text (λ source. Reads source (Ok scenario))
  pub net_is : net ≡ scenario.net
  pub within : All (λ id. id < length net.capacities) ids

-- the answers of a switch to all that a reader had left went out, and nothing else: over lines, or over lines and cells
abbrev pub ServesSwitch : {J : Type 0} → (contents : J → Option Text) → (is_binary : Bool) → (first : SwitchLines J) → (left old new : Option Text) → Type 0
ServesSwitch {J = J} contents false first left old new =
    (last : SwitchLines J) × ServesAll (SwitchesLine contents) EndsSilent first last left old new
ServesSwitch {J = J} contents true first left old new = (last : SwitchLines J) × ServesRecords (SwitchesRecord contents) first last left old new

-- a beginning of them did
abbrev pub BeginsSwitch : {J : Type 0} → (contents : J → Option Text) → (is_binary : Bool) → (first : SwitchLines J) → (left old new : Option Text) → Type 0
BeginsSwitch contents false first left old new = ServesPart (SwitchesLine contents) EndsSilent first left old new
BeginsSwitch contents true first left old new = ServesSome (SwitchesRecord contents) first left old new

-- The answers of a switch with the ports of a plan to all that a reader had left went out, and nothing else.
pub record IsSwitchServed {J : Type 0} (contents : J → Option Text) (text : Option Text) (plan : SwitchPlan) (left old new : Option Text) : Type 0 where
  pub net : Topology
  pub has : HasPorts text plan.ports.items net
  pub first : SwitchLines J
  pub opened : IsOpened net plan.ports.items first
  pub served : ServesSwitch contents plan.is_binary first left old new

-- A beginning of them did, or none, since there was no memory for the ports.
pub record IsSwitchCutOff {J : Type 0} (contents : J → Option Text) (text : Option Text) (plan : SwitchPlan) (left old new : Option Text) : Type 0 where
  pub net : Topology
  pub has : HasPorts text plan.ports.items net
  pub part : Keeps old new
      ⊎ ((first : SwitchLines J) × IsOpened net plan.ports.items first × BeginsSwitch contents plan.is_binary first left old new)

-- A port is named that the net doesn't have.
pub record LacksPort (text : Option Text) (ids : List ℕ) (id : ℕ) : Type 0 where
  pub scenario : scenario_of.Scenario
  pub read : IfSome text (λ source. Reads source (Ok scenario))
  pub named : Contains ids id
  pub lacks : id < length scenario.net.capacities → ⊥

-- Why not all lines of a switch are answered, and what went out.
abbrev pub StopsSwitch : {J : Type 0} → (contents : J → Option Text) → LiveStop → (text : Option Text) → SwitchPlan → (left old new : Option Text) → Type 0
StopsSwitch contents (Scenario fault) text plan left old new = IfSome text (Explains fault) × Keeps old new
StopsSwitch contents (Port id) text plan left old new = LacksPort text plan.ports.items id × Keeps old new
StopsSwitch contents (Journal fault) text plan left old new = ((net : Topology) × HasPorts text plan.ports.items net) × Keeps old new
StopsSwitch contents (Serving fault) text plan left old new = IsSwitchCutOff contents text plan left old new
StopsSwitch contents other text plan left old new = ⊥

-- Not all lines of a switch are answered, for a reason that is told.
pub record IsSwitchUnserved {J : Type 0} (contents : J → Option Text) (text : Option Text) (plan : SwitchPlan)
    (left old new errors_old errors_new : Option Text) : Type 0 where
  pub why : LiveStop
  pub stops : StopsSwitch contents why text plan left old new
  pub told : TellsEach (stop_pieces [] (string_bytes plan.journal) why) errors_old errors_new

-- The net of the scenario that was read has this connection.
pub record HasConnection (text : Option Text) (conn : ℕ) (vc : Channel) : Type 0 where
  pub scenario : scenario_of.Scenario
  pub read : IfSome text (λ source. Reads source (Ok scenario))
  pub channel : channel_at scenario.net.conns conn ≡ Some vc

-- A source of a channel begins: it is down, over some store, and goes on behind its past, which is that of its journal.
pub record IsBegun {K J : Type 0} (content : K → KeptRecord) (contents : J → Option Text) (plan : SourcePlan) (vc : Channel)
    (first : SourceLines K J) : Type 0 where
  pub conn_is : first.conn ≡ plan.conn
  pub vc_is : first.vc ≡ vc
  pub past : Past
  pub begins : BeginsBy contents plan.conn plan.is_new past first.journal
  pub store : K
  pub source_is : first.source ≡ new_actor vc (content store) past.cells past.clock

-- the port that the requests of a connection go to first
abbrev pub first_of : (path : List ℕ) → ℕ
first_of [] = 0
first_of (port ∷ more) = port

abbrev pub first_hop : Option Conn → ℕ
first_hop None = 0
first_hop (Some conn) = first_of conn.path

-- the answers of a source to all that a reader had left went out, and nothing else: over moments that are handed in, or those of the machine's clock
abbrev pub ServesSource : {K J : Type 0} → (contents : J → Option Text) → (epoch : Option ℕ) → (is_binary : Bool) → (first : SourceLines K J)
    → (first_port : ℕ) → (left old new : Option Text) → Type 0
ServesSource contents None is_binary first first_port left old new =
    ServesHanded contents is_binary (record { lines = first; first_port = first_port }) left old new
ServesSource contents (Some epoch) is_binary first first_port left old new =
    ServesClocked KeepsReading contents is_binary
    (record { records = record { lines = first; first_port = first_port }; clock = machine_clock epoch }) left old new

-- a beginning of them did
abbrev pub BeginsSource : {K J : Type 0} → (contents : J → Option Text) → (epoch : Option ℕ) → (is_binary : Bool) → (first : SourceLines K J)
    → (first_port : ℕ) → (left old new : Option Text) → Type 0
BeginsSource contents None is_binary first first_port left old new =
    BeginsHanded contents is_binary (record { lines = first; first_port = first_port }) left old new
BeginsSource contents (Some epoch) is_binary first first_port left old new =
    BeginsClocked KeepsReading contents is_binary
    (record { records = record { lines = first; first_port = first_port }; clock = machine_clock epoch }) left old new

-- The answers of such a source to all that a reader had left went out, and nothing else.
pub record IsSourceServed {K J : Type 0} (content : K → KeptRecord) (contents : J → Option Text) (text : Option Text) (plan : SourcePlan)
    (left old new : Option Text) : Type 0 where
  pub vc : Channel
  pub has : HasConnection text plan.conn vc
  pub first : SourceLines K J
  pub begun : IsBegun content contents plan vc first
  pub served : ServesSource contents plan.epoch plan.is_binary first (first_hop (slice_get has.scenario.net.conns plan.conn)) left old new

-- A beginning of them did.
pub record IsSourceCutOff {K J : Type 0} (content : K → KeptRecord) (contents : J → Option Text) (text : Option Text) (plan : SourcePlan)
    (left old new : Option Text) : Type 0 where
  pub vc : Channel
  pub has : HasConnection text plan.conn vc
  pub first : SourceLines K J
  pub begun : IsBegun content contents plan vc first
  pub part : BeginsSource contents plan.epoch plan.is_binary first (first_hop (slice_get has.scenario.net.conns plan.conn)) left old new

-- The net doesn't have the connection that is named.
pub record LacksConnection (text : Option Text) (conn : ℕ) : Type 0 where
  pub scenario : scenario_of.Scenario
  pub read : IfSome text (λ source. Reads source (Ok scenario))
  pub lacks : channel_at scenario.net.conns conn ≡ None

-- Its net has the connection, and its store or its journal isn't opened.
abbrev pub IsUnopened : (text : Option Text) → SourcePlan → (old new : Option Text) → Type 0
IsUnopened text plan old new = ((vc : Channel) × HasConnection text plan.conn vc) × Keeps old new

-- Why not all lines of a source are answered, and what went out.
abbrev pub StopsSource : {K J : Type 0} → (content : K → KeptRecord) → (contents : J → Option Text) → LiveStop → (text : Option Text) → SourcePlan
    → (left old new : Option Text) → Type 0
StopsSource content contents (Scenario fault) text plan left old new = IfSome text (Explains fault) × Keeps old new
StopsSource content contents (Connection conn) text plan left old new = (conn ≡ plan.conn) × LacksConnection text conn × Keeps old new
StopsSource content contents (Store fault) text plan left old new = IsUnopened text plan old new
StopsSource content contents (Journal fault) text plan left old new = IsUnopened text plan old new
StopsSource content contents (Serving fault) text plan left old new = IsSourceCutOff content contents text plan left old new
StopsSource content contents (Port id) text plan left old new = ⊥

-- Not all lines of a source are answered, for a reason that is told.
pub record IsSourceUnserved {K J : Type 0} (content : K → KeptRecord) (contents : J → Option Text) (text : Option Text) (plan : SourcePlan)
    (left old new errors_old errors_new : Option Text) : Type 0 where
  pub why : LiveStop
  pub stops : StopsSource content contents why text plan left old new
  pub told : TellsEach (stop_pieces (string_bytes plan.store) (string_bytes plan.journal) why) errors_old errors_new
