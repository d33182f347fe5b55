-- Sources at their access lines, by what was seen of the history.
use Rattle.std.specs.Prelude.{◌≡◌, ℕ, ◌+◌, ◌<◌, ◌≤◌, true, false, List, [], ◌∷◌, ◌++◌, length, max, Some}
use mathlib.Core.List.{IsPrefix}
use Rattle.abt_cell.specs.Channel.{Channel}
use Rattle.abt_cell.specs.Message.{Terms}
use Rattle.abt_gcra.specs.declared.verdict.Verdict.{Verdict}
use Rattle.abt_net.specs.declared.conn.Conn.{Conn}
use Rattle.abt_net.specs.Topology.{Topology, IsWithinRules, conn_at}
use Rattle.abt_facts.specs.declared.fact.Fact.{Fact}
use Rattle.abt_facts.specs.Cells.{last_arrival_of}
use Rattle.abt_facts.specs.Requests.{was_asked}
use Rattle.abt_source.specs.SourceFacts.{request_of}
use Rattle.abt_model.specs.declared.command.SourceCommand.{SourceCommand}
use Rattle.abt_model.specs.declared.command.SourceCommand.TheVariants as source
use Rattle.abt_model.specs.declared.entry.SourceEntry.{SourceEntry}
use Rattle.abt_model.specs.declared.entry.SourceEntry.TheVariants.{Did, Sent, Arrived as ArrivedAt}
use Rattle.abt_model.specs.declared.event.Event.{Event}
use Rattle.abt_model.specs.declared.event.Event.TheVariants as event
use Rattle.abt_model.specs.declared.event.Event.TheVariants.{Arrive}
use Rattle.abt_model.specs.declared.outcome.Outcome.{Outcome}
use Rattle.abt_model.specs.declared.outcome.Outcome.TheVariants.{Asked, Repeated, Emitted, Arrived}
use Rattle.abt_model.specs.Outcomes.{outcome_of}
use Rattle.abt_model.specs.Past.{Past, facts_of}
use Rattle.abt_actor.specs.Actor.{ActorView, actor_of, CarriesOut}
use Rattle.abt_actor.specs.Commands.{event_of}
use Rattle.abt_journal.specs.declared.input.PortInput.{PortInput}
use Rattle.abt_journal.specs.declared.input.PortInput.TheVariants.{Request as RequestIn, Arrive as ArriveIn}
use Rattle.abt_weave.specs.Projections.{past_of, entries_on}
use Rattle.abt_serving.specs.Messages.{LiesHome}
use Rattle.abt_history.specs.declared.deed.Deed.{Deed}
use Rattle.abt_history.specs.declared.brought.Brought.{Brought}
use Rattle.abt_history.specs.declared.brought.Brought.TheVariants.{Request, Cell}
use Rattle.abt_history.specs.Histories.{happened, turns_of_source, is_out, has_ended}

-- what contracts see of a source in a run: its connection's number and channel, its actor, its journal, the moment of the last arrival,
-- and what was seen when it did its last
pub record SiteView : Type 0 where
  pub conn : ℕ
  pub vc : Channel
  pub actor : ActorView
  pub entries : List SourceEntry
  pub arrived : ℕ
  pub front : List Deed

-- the facts of a connection, as far as they were seen
abbrev pub facts_seen : Topology → (c : ℕ) → (front : List Deed) → List Fact
facts_seen net c front = facts_of c (past_of net (happened front))

-- The source is not at its first port, hasn't ended, and has had so many turns, by what it has seen.
pub record IsHome (net : Topology) (c turns : ℕ) (front : List Deed) : Type 0 where
  pub low : c < length net.conns
  pub out : is_out c front ≡ false
  pub unended : has_ended c front ≡ false
  pub turns_are : turns_of_source c front ≡ turns

-- Its journal is the source's part of what was seen, and its actor is the one that this gives.
pub record IsSite (net : Topology) (site : SiteView) : Type 0 where
  pub rules : IsWithinRules net
  pub home : IsHome net site.conn (length site.entries) site.front
  pub channel : (line : Conn) → conn_at net site.conn ≡ Some line → site.vc ≡ line.vc
  pub did : entries_on net site.conn (happened site.front) ≡ site.entries
  pub last_arrival : last_arrival_of (facts_seen net site.conn site.front) ≡ site.arrived
  pub actor_is : site.actor ≡ actor_of site.vc (facts_seen net site.conn site.front)

-- an answer that a source is told was sent to it
abbrev pub IsSaid : Topology → Past → (c : ℕ) → SourceCommand → Type 0
IsSaid net past c (source.Told answer) = LiesHome net past c answer
IsSaid net past c other = Unit {0}

-- the source has asked this
abbrev pub IsAsked : Topology → (c : ℕ) → Channel → (front : List Deed) → Terms → Type 0
IsAsked net c vc front request =
    (was_asked (facts_seen net c front) request.seq ≡ true) × (request ≡ request_of vc (facts_seen net c front) request.seq)

-- a cell of the source can arrive at this moment
abbrev pub CanArrive : Topology → (c : ℕ) → (front : List Deed) → (cell at : ℕ) → Type 0
CanArrive net c front cell at = (verdict : Verdict) × (outcome_of net (past_of net (happened front)) (Arrive c cell at) ≡ Arrived verdict)

-- the source can bring this to its first port
abbrev pub CanBring : Topology → (c : ℕ) → Channel → (front : List Deed) → Brought → Type 0
CanBring net c vc front (Request request) = IsAsked net c vc front request
CanBring net c vc front (Cell cell at) = CanArrive net c front cell at

-- what it can bring once it has done this: a request that went out, or a cell that left
abbrev pub Allows : Topology → SiteView → SourceCommand → Outcome → Type 0
Allows net site (source.Ask rate plan) (Asked request) = IsAsked net site.conn site.vc site.front request
Allows net site source.Again (Repeated request) = IsAsked net site.conn site.vc site.front request
Allows net site (source.Emit now) (Emitted cell next) =
    (line : Conn) (jitter : ℕ) → conn_at net site.conn ≡ Some line → jitter ≤ line.tau →
    CanArrive net site.conn site.front cell (max (now + line.delay + jitter) site.arrived)
Allows net site command other = Unit {0}

-- The source carries out a command, and notes it.
pub record HasCarriedOut (old new : SiteView) (command : SourceCommand) (outcome : Outcome) : Type 0 where
  pub conn : new.conn ≡ old.conn
  pub vc : new.vc ≡ old.vc
  pub actor : CarriesOut old.actor command outcome new.actor
  pub entries : new.entries ≡ old.entries ++ Did (event_of old.conn command) outcome ∷ []
  pub arrived : new.arrived ≡ old.arrived

-- what is brought, as an event, as the port's input, and as the entry that the source has of it; and the last arrival then
abbrev pub event_brought : (c : ℕ) → Brought → Event
event_brought c (Request request) = event.Request c 1 request.seq
event_brought c (Cell cell at) = Arrive c cell at

abbrev pub input_brought : Channel → Brought → PortInput
input_brought vc (Request request) = RequestIn request
input_brought vc (Cell cell at) = ArriveIn vc at

abbrev pub entry_brought : (place : ℕ) → Brought → SourceEntry
entry_brought place (Request request) = Sent place
entry_brought place (Cell cell at) = ArrivedAt cell place

abbrev pub arrived_with : (last : ℕ) → Brought → ℕ
arrived_with last (Request request) = last
arrived_with last (Cell cell at) = at

-- The source has brought this to its first port, and is back.
pub record HasBrought (net : Topology) (c : ℕ) (own new : List Deed) (place : ℕ) (brought : Brought) : Type 0 where
  pub seen : IsPrefix own new
  pub home : is_out c new ≡ false
  pub unended : has_ended c new ≡ false
  pub turns : turns_of_source c new ≡ turns_of_source c own + 1
  pub did : entries_on net c (happened new) ≡ entries_on net c (happened own) ++ entry_brought place brought ∷ []
  pub last_arrival : last_arrival_of (facts_seen net c new) ≡ arrived_with (last_arrival_of (facts_seen net c own)) brought
