-- What a source did, and what it may bring to its first port.
use Rattle.std.proofs.Common.{◌≡◌, ℕ, ◌≤◌, ◌++◌, ◌∷◌, [], Bool, true, false, List, Some, sym, ap, subst, ◌∙◌, inl, inr}
use Rattle.std.specs.Prelude.{◌⊎◌, ◌==◌, if◌then◌else◌, slice_index}
use Rattle.abt_cell.specs.Channel.{Channel}
use Rattle.abt_cell.specs.Message.{Terms}
use Rattle.abt_rate.specs.Limits.{number_max}
use Rattle.abt_keep.specs.declared.plan.StorePlan.{StorePlan}
use Rattle.abt_keep.specs.declared.plan.StorePlan.TheVariants.{Works, FailsBefore, FailsAfter}
use Rattle.abt_net.specs.declared.conn.Conn.{Conn}
use Rattle.abt_net.specs.Topology.{Topology, conn_at}
use Rattle.abt_facts.specs.declared.fact.Fact.{Fact}
use Rattle.abt_facts.specs.Source.{SourceState, Down, Idle, Asking, state_of, last_of, writes}
use Rattle.abt_source.specs.declared.fault.AskFault.TheVariants.{SeqExhausted}
use Rattle.abt_model.specs.Answers.{if_up, ask_answer, again_answer, kept_answer, stored_answer, next_request}
use Rattle.abt_model.specs.declared.command.SourceCommand.{SourceCommand}
use Rattle.abt_model.specs.declared.command.SourceCommand.TheVariants as source
use Rattle.abt_model.specs.declared.outcome.Outcome.{Outcome}
use Rattle.abt_model.specs.declared.outcome.Outcome.TheVariants.{Asked, Repeated, Emitted, AskRefused}
use Rattle.abt_model.specs.declared.entry.SourceEntry.TheVariants.{Did}
use Rattle.abt_actor.specs.Actor.{actor_of}
use Rattle.abt_actor.specs.Commands.{event_of, command_answer, command_adds}
use Rattle.abt_history.specs.declared.brought.Brought.TheVariants.{Request, Cell}
use Rattle.abt_history.specs.Modes.{When}
use Rattle.abt_history.specs.Sites.{SiteView, HasCarriedOut, Allows, CanBring, IsAsked, CanArrive}
use Rattle.abt_links.specs.CommandEffects.{arrival_of}
use Rattle.abt_links.specs.Lines.{IsLine, IsRequest}
use Rattle.abt_links.specs.SourceWorkers.{HasDone, worked}
use Rattle.abt_links.specs.declared.source_worker.SourceWorker.{SourceWorker}

pub done_by : {K F T : Type 0} (old new : SourceWorker K F T) (command : SourceCommand) (outcome : Outcome) → HasCarriedOut old.site new.site command outcome → new.seat ≡ old.seat → (facts : List Fact) → old.site.actor ≡ actor_of old.site.vc facts
    → HasDone old.site.vc old.site.conn facts command (worked old) outcome (worked new)
done_by {K} {F} {T} old new command outcome did same facts is =
    let a = did.actor old.site.vc facts is in
    record {
      answer = a.0;
      actor = subst (λ (o : Outcome). new.site.actor ≡ actor_of old.site.vc (command_adds facts command o ++ facts)) a.0 a.1;
      entries = did.entries ∙ ap (λ (o : Outcome). old.site.entries ++ Did (event_of old.site.conn command) o ∷ []) a.0;
      seat = same;
      arrived = did.arrived;
    }

-- an asking is answered by no repeat, and a repeat by no asking

stored_never : (plan : StorePlan) (next request : Terms) → Repeated request ≡ stored_answer plan next → ⊥
stored_never Works next request is = cc
stored_never FailsBefore next request is = cc
stored_never FailsAfter next request is = cc

kept_never : (b : Bool) (plan : StorePlan) (next request : Terms) → Repeated request ≡ kept_answer b plan next → ⊥
kept_never true plan next request is = stored_never plan next request is
kept_never false plan next request is = cc

ask_never : (vc : Channel) (facts : List Fact) (rate : ℕ) (plan : StorePlan) (request : Terms) → Repeated request ≡ ask_answer vc facts rate plan → ⊥
ask_never vc facts rate plan request is = by (last_of facts == number_max) is
  where
    by : (b : Bool) → Repeated request ≡ (if b then AskRefused SeqExhausted else kept_answer (writes facts rate) plan (next_request vc facts rate)) → ⊥
    by true h = cc
    by false h = kept_never (writes facts rate) plan (next_request vc facts rate) request h

up_never : (state : SourceState) (vc : Channel) (facts : List Fact) (rate : ℕ) (plan : StorePlan) (request : Terms) → Repeated request ≡ if_up state (ask_answer vc facts rate plan) → ⊥
up_never Down vc facts rate plan request is = cc
up_never Idle vc facts rate plan request is = ask_never vc facts rate plan request is
up_never (Asking seq) vc facts rate plan request is = ask_never vc facts rate plan request is

again_never : (state : SourceState) (vc : Channel) (facts : List Fact) (request : Terms) → Asked request ≡ again_answer vc state facts → ⊥
again_never Down vc facts request is = cc
again_never Idle vc facts request is = cc
again_never (Asking seq) vc facts request is = cc

-- what went out may be brought
sent_allowed : (net : Topology) (site : SiteView) (command : SourceCommand) (outcome : Outcome) (vc : Channel) (facts : List Fact) (request : Terms)
    → IsRequest command → (outcome ≡ Asked request) ⊎ (outcome ≡ Repeated request) → outcome ≡ command_answer vc facts command → Allows net site command outcome → IsAsked net site.conn site.vc site.front request
sent_allowed net site (source.Ask rate plan) outcome vc facts request ok (inl asked) answer allowed = subst (Allows net site (source.Ask rate plan)) asked allowed
sent_allowed net site (source.Ask rate plan) outcome vc facts request ok (inr again) answer allowed = absurd (up_never (state_of facts) vc facts rate plan request (sym again ∙ answer))
sent_allowed net site source.Again outcome vc facts request ok (inl asked) answer allowed = absurd (again_never (state_of facts) vc facts request (sym asked ∙ answer))
sent_allowed net site source.Again outcome vc facts request ok (inr again) answer allowed = subst (Allows net site source.Again) again allowed
sent_allowed net site (source.Start now) outcome vc facts request ok shape answer allowed = absurd ok
sent_allowed net site source.Crash outcome vc facts request ok shape answer allowed = absurd ok
sent_allowed net site (source.Emit now) outcome vc facts request ok shape answer allowed = absurd ok
sent_allowed net site (source.Told reply) outcome vc facts request ok shape answer allowed = absurd ok

pub request_allowed : (b : Bool) (net : Topology) (site : SiteView) (command : SourceCommand) (outcome : Outcome) (vc : Channel) (facts : List Fact) (request : Terms)
    → IsRequest command → (outcome ≡ Asked request) ⊎ (outcome ≡ Repeated request) → outcome ≡ command_answer vc facts command → When b (Allows net site command outcome)
    → When b (CanBring net site.conn site.vc site.front (Request request))
request_allowed true net site command outcome vc facts request ok shape answer allowed = sent_allowed net site command outcome vc facts request ok shape answer allowed
request_allowed false net site command outcome vc facts request ok shape answer allowed = tt

pub cell_allowed : (b : Bool) (net : Topology) (site : SiteView) (outcome : Outcome) (line : Conn) (c port cell now jitter at last next : ℕ)
    → outcome ≡ Emitted cell next → When b (Allows net site (source.Emit now) outcome) → When b (IsLine net c line port) → site.conn ≡ c → jitter ≤ line.tau → last ≡ site.arrived → at ≡ arrival_of line last now jitter
    → When b (CanBring net site.conn site.vc site.front (Cell cell at))
cell_allowed true net site outcome line c port cell now jitter at last next left allowed there same low since when =
    let may = subst (Allows net site (source.Emit now)) left allowed in
    let known : conn_at net site.conn ≡ Some line = ap (conn_at net) same ∙ there.known in
    subst (λ n. CanArrive net site.conn site.front cell n) (sym (when ∙ ap (λ (a : ℕ). arrival_of line a now jitter) since)) (may line jitter known low)
cell_allowed false net site outcome line c port cell now jitter at last next left allowed there same low since when = tt

-- the port that a source goes to is the first of its path
goes_to : (net : Topology) (line : Conn) (c port : ℕ) (site : SiteView) → IsLine net c line port → site.conn ≡ c → (other : Conn) → conn_at net site.conn ≡ Some other → port ≡ slice_index other.path 0
goes_to net line c port site there same other is =
    let one : line ≡ other = (let a = there.known in let e = is in let s = ap (conn_at net) same in cc) in
    there.first ∙ ap (λ (l : Conn). slice_index l.path 0) one

pub goes_first : (b : Bool) (net : Topology) (line : Conn) (c port : ℕ) (site : SiteView) → When b (IsLine net c line port) → site.conn ≡ c
    → When b ((other : Conn) → conn_at net site.conn ≡ Some other → port ≡ slice_index other.path 0)
goes_first true net line c port site there same = goes_to net line c port site there same
goes_first false net line c port site there same = tt
