-- Entries that a line can say: their numbers fit it, and the reply or the outcome is one of the kind of the input or the event.
use Rattle.std.specs.Prelude.{◌≡◌, ℕ, ◌<◌, ◌^◌, ⊤, All}
use Rattle.abt_rate.specs.Rate.{IsRate}
use Rattle.abt_net.specs.Topology.{Topology}
use Rattle.abt_net.specs.declared.conn.Conn.{Conn}
use Rattle.abt_journal.specs.declared.entry.Entry.{Entry}
use Rattle.abt_journal.specs.declared.input.PortInput.{PortInput}
use Rattle.abt_journal.specs.declared.input.PortInput.TheVariants as input
use Rattle.abt_journal.specs.declared.input.PortReply.{PortReply}
use Rattle.abt_journal.specs.declared.input.PortReply.TheVariants as reply
use Rattle.abt_model.specs.declared.event.Event.{Event}
use Rattle.abt_model.specs.declared.event.Event.TheVariants as event
use Rattle.abt_model.specs.declared.outcome.Outcome.{Outcome}
use Rattle.abt_model.specs.declared.outcome.Outcome.TheVariants as outcome
use Rattle.abt_node.specs.declared.reply.Onward.{Onward}
use Rattle.abt_node.specs.declared.reply.Onward.TheVariants as onward
use Rattle.abt_shaper.specs.declared.fault.ShapeFault.{ShapeFault}
use Rattle.abt_shaper.specs.declared.fault.ShapeFault.TheVariants as shape
use Rattle.abt_model.specs.declared.entry.SourceEntry.{SourceEntry}
use Rattle.abt_model.specs.declared.entry.SourceEntry.TheVariants as entry
use Rattle.abt_journal_text.specs.Fits.{IsChannel, IsTerms}

abbrev pub IsInput : PortInput → Type 0
IsInput (input.Request request) = IsTerms request
IsInput (input.Answer answer) = IsTerms answer.terms
IsInput (input.Arrive vc at) = IsChannel vc × (at < 2 ^ 64)
IsInput (input.Capacity capacity) = capacity < 2 ^ 64

abbrev pub IsOnward : Onward → Type 0
IsOnward onward.Pass = ⊤
IsOnward (onward.Refuse answer) = IsTerms answer.terms
IsOnward (onward.Drop cause) = ⊤

-- the reply is one to an input of this kind
abbrev pub IsReply : PortInput → PortReply → Type 0
IsReply (input.Request request) (reply.Requested onward) = IsOnward onward
IsReply (input.Answer answer) (reply.Answered back) = ⊤
IsReply (input.Arrive vc at) (reply.Arrived result) = ⊤
IsReply (input.Capacity capacity) (reply.Capped result) = ⊤
IsReply came replied = ⊥

pub record IsStep (step : Entry) : Type 0 where
  pub place : step.place < 2 ^ 64
  pub caller : step.caller < 2 ^ 16
  pub input : IsInput step.input
  pub reply : IsReply step.input step.reply

-- the deed of the source of a connection
abbrev pub IsDeed : ℕ → Event → Type 0
IsDeed conn (event.Start c now) = (c ≡ conn) × (now < 2 ^ 64)
IsDeed conn (event.Ask c rate plan) = (c ≡ conn) × IsRate rate
IsDeed conn (event.Again c) = c ≡ conn
IsDeed conn (event.Crash c) = c ≡ conn
IsDeed conn (event.Emit c now) = (c ≡ conn) × (now < 2 ^ 64)
IsDeed conn (event.Told c seq granted) = (c ≡ conn) × (seq < 2 ^ 32)
IsDeed conn elsewhere = ⊥

abbrev pub IsShapeFault : ShapeFault → Type 0
IsShapeFault (shape.TooSoon next) = next < 2 ^ 64
IsShapeFault other = ⊤

abbrev pub IsStart : Event → Type 0
IsStart (event.Start c now) = ⊤
IsStart other = ⊥

abbrev pub IsAsk : Event → Type 0
IsAsk (event.Ask c rate plan) = ⊤
IsAsk other = ⊥

abbrev pub IsEmit : Event → Type 0
IsEmit (event.Emit c now) = ⊤
IsEmit other = ⊥

-- the outcomes of a deed: each refusal is one that the deed can have
abbrev pub CanCome : Event → Outcome → Type 0
CanCome deed outcome.Started = ⊤
CanCome deed (outcome.StartRefused fault) = IsStart deed
CanCome deed (outcome.Asked request) = IsTerms request
CanCome deed (outcome.AskRefused fault) = IsAsk deed
CanCome deed (outcome.Repeated request) = IsTerms request
CanCome deed outcome.Crashed = ⊤
CanCome deed (outcome.Emitted cell next) = (cell < 2 ^ 64) × (next < 2 ^ 64)
CanCome deed (outcome.EmitRefused fault) = IsEmit deed × IsShapeFault fault
CanCome deed (outcome.Told heard) = ⊤
CanCome deed (outcome.NotEnabled cause) = ⊤
CanCome deed elsewhere = ⊥

-- an entry of the source of a connection
abbrev pub IsEntry : ℕ → SourceEntry → Type 0
IsEntry conn (entry.Did deed came) = IsDeed conn deed × CanCome deed came
IsEntry conn (entry.Sent place) = place < 2 ^ 64
IsEntry conn (entry.Arrived cell place) = (cell < 2 ^ 64) × (place < 2 ^ 64)

-- the numbers of a connection, and of a net
pub record IsConn (conn : Conn) : Type 0 where
  pub vc : IsChannel conn.vc
  pub path : All (λ hop. hop < 2 ^ 16) conn.path
  pub delay : conn.delay < 2 ^ 64
  pub tau : conn.tau < 2 ^ 64

pub record IsNet (net : Topology) : Type 0 where
  pub capacities : All (λ units. units < 2 ^ 64) net.capacities
  pub conns : All IsConn net.conns
