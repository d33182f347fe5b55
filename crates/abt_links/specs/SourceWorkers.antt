-- Sources at their access lines, as their workers keep them.
use Rattle.std.specs.Prelude.{◌≡◌, ℕ, ◌≤◌, ◌++◌, ◌∷◌, [], List, length}
use Rattle.abt_cell.specs.Channel.{Channel}
use Rattle.abt_net.specs.declared.conn.Conn.{Conn}
use Rattle.abt_facts.specs.declared.fact.Fact.{Fact}
use Rattle.abt_model.specs.declared.command.SourceCommand.{SourceCommand}
use Rattle.abt_model.specs.declared.outcome.Outcome.{Outcome}
use Rattle.abt_actor.specs.Actor.{ActorView, actor_of}
use Rattle.abt_actor.specs.Commands.{command_answer}
use Rattle.abt_journal.specs.declared.entry.Receipt.{Receipt}
use Rattle.abt_journal.specs.Receipts.{Seated}
use Rattle.abt_model.specs.declared.script_command.Command.{Command}
use Rattle.abt_model.specs.declared.entry.SourceEntry.{SourceEntry}
use Rattle.abt_links.specs.CommandEffects.{LineStep, CommandEffect, did, facts_past, Hears, Does}
use Rattle.abt_links.specs.Scripts.{arrived_after, AreReceiptsFor, Runs}
use Rattle.abt_history.specs.Sites.{SiteView}
use Rattle.abt_links.specs.declared.source_worker.SourceWorker.{SourceWorker}

-- what a worker keeps: its source's actor and journal, the moment of the last arrival, and its seat
pub record WorkerView : Type 0 where
  pub actor : ActorView
  pub entries : List SourceEntry
  pub arrived : ℕ
  pub seat : Seated

abbrev pub worked : {K Front Tally : Type 0} → SourceWorker K Front Tally → WorkerView
worked worker = record { actor = worker.site.actor; entries = worker.site.entries; arrived = worker.site.arrived; seat = worker.seat }

-- The source is still the one of its connection.
pub record StaysHome (old new : SiteView) : Type 0 where
  pub conn : new.conn ≡ old.conn
  pub vc : new.vc ≡ old.vc

-- Some facts of a connection give the actor.
abbrev pub IsGiven : Channel → ActorView → Type 0
IsGiven vc actor = (facts : List Fact) × (actor ≡ actor_of vc facts)

-- The worker carried out what its source was told to do, by these facts, and noted it.
pub record HasDone (vc : Channel) (c : ℕ) (facts : List Fact) (command : SourceCommand) (old : WorkerView) (outcome : Outcome) (new : WorkerView) : Type 0 where
  pub answer : outcome ≡ command_answer vc facts command
  pub actor : new.actor ≡ actor_of vc (facts_past vc facts command)
  pub entries : new.entries ≡ old.entries ++ did vc c facts command ∷ []
  pub seat : new.seat ≡ old.seat
  pub arrived : new.arrived ≡ old.arrived

-- The worker's journal and receipts have one deed more, whose steps are at this port.
pub record IsAfter (vc : Channel) (port : ℕ) (effect : CommandEffect) (old new : WorkerView) : Type 0 where
  pub actor : new.actor ≡ actor_of vc effect.facts
  pub entries : new.entries ≡ old.entries ++ effect.entries
  pub arrived : new.arrived ≡ arrived_after old.arrived effect.steps
  pub caller : new.seat.caller ≡ old.seat.caller
  pub receipts : (more : List Receipt) × (new.seat.receipts ≡ old.seat.receipts ++ more) × AreReceiptsFor port effect.steps more

-- The worker obeyed a command of its script.
abbrev pub Obeys : Conn → (c port : ℕ) → Command → WorkerView → WorkerView → Type 0
Obeys conn c port command old new =
    (facts : List Fact) → old.actor ≡ actor_of conn.vc facts →
    (effect : CommandEffect) × Does conn c facts old.arrived command effect × IsAfter conn.vc port effect old new

-- The worker took answers, so many at most, and nothing else.
pub record HasHeard (vc : Channel) (c turns : ℕ) (facts : List Fact) (old new : WorkerView) (entries : List SourceEntry) (after : List Fact) : Type 0 where
  pub hears : Hears vc c facts entries after
  pub most : length entries ≤ turns
  pub actor : new.actor ≡ actor_of vc after
  pub entries_are : new.entries ≡ old.entries ++ entries
  pub seat : new.seat ≡ old.seat
  pub arrived : new.arrived ≡ old.arrived

abbrev pub Listened : Channel → (c turns : ℕ) → WorkerView → WorkerView → Type 0
Listened vc c turns old new =
    (facts : List Fact) → old.actor ≡ actor_of vc facts →
    (entries : List SourceEntry) × (after : List Fact) × HasHeard vc c turns facts old new entries after

-- The worker has run these commands of its script.
pub record HasRun (conn : Conn) (c port : ℕ) (commands : List Command) (facts : List Fact) (steps : List LineStep) (worker : WorkerView) : Type 0 where
  pub actor : worker.actor ≡ actor_of conn.vc facts
  pub runs : Runs conn c [] 0 commands (record { entries = worker.entries; steps = steps; facts = facts })
  pub arrived : worker.arrived ≡ arrived_after 0 steps
  pub caller : worker.seat.caller ≡ c
  pub receipts : AreReceiptsFor port steps worker.seat.receipts

abbrev pub IsBehind : Conn → (c port : ℕ) → List Command → WorkerView → Type 0
IsBehind conn c port commands worker = (facts : List Fact) × (steps : List LineStep) × HasRun conn c port commands facts steps worker
