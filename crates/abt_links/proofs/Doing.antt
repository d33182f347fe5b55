-- What a source did on one command, with the step that it had served or without one.
use Rattle.std.proofs.Common.{◌≡◌, ℕ, List, [], ◌∷◌, ◌++◌, Option, Some, None, refl, sym, ap, subst, ◌∙◌, append-nil, append_assoc, arith}
use Rattle.std.proofs.lemmas.List.Elements.{All-push}
use Rattle.abt_cell.specs.Channel.{Channel}
use Rattle.abt_cell.specs.Message.{Terms}
use Rattle.abt_net.specs.declared.conn.Conn.{Conn}
use Rattle.abt_facts.specs.declared.fact.Fact.{Fact}
use Rattle.abt_model.specs.declared.command.SourceCommand.{SourceCommand}
use Rattle.abt_model.specs.declared.command.SourceCommand.TheVariants as source
use Rattle.abt_model.specs.declared.outcome.Outcome.{Outcome}
use Rattle.abt_actor.specs.Actor.{actor_of}
use Rattle.abt_actor.specs.Commands.{command_answer}
use Rattle.abt_journal.specs.declared.entry.Receipt.{Receipt}
use Rattle.abt_journal.specs.declared.input.PortInput.{PortInput}
use Rattle.abt_journal.specs.declared.input.PortInput.TheVariants.{Request, Arrive}
use Rattle.abt_journal.specs.declared.input.PortReply.{PortReply}
use Rattle.abt_journal.specs.Receipts.{Seated}
use Rattle.abt_model.specs.declared.entry.SourceEntry.{SourceEntry}
use Rattle.abt_model.specs.declared.entry.SourceEntry.TheVariants.{Sent, Arrived}
use Rattle.abt_links.specs.CommandEffects.{LineStep, CommandEffect, did, facts_past, Begins, request_in, Sends, cell_in, arrival_of, Arrives}
use Rattle.abt_links.specs.Scripts.{moment_after, step_of, AreReceiptsFor}
use Rattle.abt_links.specs.SourceWorkers.{WorkerView, HasDone, IsAfter}

no_receipts : (port : ℕ) → AreReceiptsFor port [] []
no_receipts port = record { each = refl; there = λ k d low. absurd (omega arith) }

one_receipt : (port : ℕ) (r : Receipt) → r.port ≡ port → AreReceiptsFor port (step_of r.entry ∷ []) (r ∷ [])
one_receipt port r is = record {
  each = refl;
  there = All-push (λ (q : Receipt). q.port ≡ port) [] r (λ k d low. absurd (omega arith)) is;
}

-- the deed of a command with which no step comes
abbrev pub bare : Channel → ℕ → List Fact → SourceCommand → CommandEffect
bare vc c facts command = record { entries = did vc c facts command ∷ []; steps = []; facts = facts_past vc facts command }

-- the deed of a command with the entry that names one step
abbrev pub with_step : Channel → ℕ → List Fact → SourceCommand → SourceEntry → LineStep → CommandEffect
with_step vc c facts command entry step =
    record { entries = did vc c facts command ∷ entry ∷ []; steps = step ∷ []; facts = facts_past vc facts command }

pub bare_done : (vc : Channel) (c port : ℕ) (facts : List Fact) (command : SourceCommand) (old : WorkerView) (outcome : Outcome) (new : WorkerView)
    → HasDone vc c facts command old outcome new → IsAfter vc port (bare vc c facts command) old new
bare_done vc c port facts command old outcome new h = record {
  actor = h.actor;
  entries = h.entries;
  arrived = h.arrived;
  caller = ap (λ (s : Seated). s.caller) h.seat;
  receipts = ([], ap (λ (s : Seated). s.receipts) h.seat ∙ sym (append-nil old.seat.receipts), no_receipts port);
}

-- the receipt that a caller gets for a step
abbrev pub receipt_for : ℕ → ℕ → ℕ → PortInput → PortReply → Receipt
receipt_for port caller place input reply = record { port = port; entry = record { place = place; caller = caller; input = input; reply = reply } }

pub step_done : (vc : Channel) (c port : ℕ) (facts : List Fact) (command : SourceCommand) (old : WorkerView) (outcome : Outcome) (mid new : WorkerView)
    → HasDone vc c facts command old outcome mid
    → (entry : SourceEntry) (place : ℕ) (input : PortInput) (reply : PortReply)
    → new.actor ≡ mid.actor
    → new.seat ≡ record { caller = mid.seat.caller; receipts = mid.seat.receipts ++ receipt_for port mid.seat.caller place input reply ∷ [] }
    → new.entries ≡ mid.entries ++ entry ∷ [] → new.arrived ≡ moment_after mid.arrived input
    → IsAfter vc port (with_step vc c facts command entry (record { place = place; input = input })) old new
step_done vc c port facts command old outcome mid new h entry place input reply acted seated noted later = record {
  actor = acted ∙ h.actor;
  entries = noted ∙ (ap (λ (es : List SourceEntry). es ++ entry ∷ []) h.entries ∙ append_assoc old.entries (did vc c facts command ∷ []) (entry ∷ []));
  arrived = later ∙ ap (λ (a : ℕ). moment_after a input) h.arrived;
  caller = ap (λ (s : Seated). s.caller) seated ∙ ap (λ (s : Seated). s.caller) h.seat;
  receipts = (
    receipt_for port mid.seat.caller place input reply ∷ [],
    ap (λ (s : Seated). s.receipts) seated ∙ ap (λ (s : Seated). s.receipts ++ receipt_for port mid.seat.caller place input reply ∷ []) h.seat,
    one_receipt port (receipt_for port mid.seat.caller place input reply) refl,
  );
}

-- What a command comes to that sends a request, or none.
abbrev pub Requests : Channel → (c port : ℕ) → List Fact → SourceCommand → WorkerView → WorkerView → Type 0
Requests vc c port facts command old new =
    (effect : CommandEffect) × ((rest : List SourceEntry) × Begins vc c facts command rest effect × Sends (request_in (command_answer vc facts command)) rest effect.steps)
    × IsAfter vc port effect old new

pub unsent : (vc : Channel) (c port : ℕ) (facts : List Fact) (command : SourceCommand) (old : WorkerView) (outcome : Outcome) (new : WorkerView)
    → HasDone vc c facts command old outcome new → None ≡ request_in outcome → Requests vc c port facts command old new
unsent vc c port facts command old outcome new h none =
    let is : request_in (command_answer vc facts command) ≡ None = ap request_in (sym h.answer) ∙ sym none in (
      bare vc c facts command,
      ([], record { entries = refl; after = refl }, rw is (refl, refl)),
      bare_done vc c port facts command old outcome new h,
    )

pub sent : (vc : Channel) (c port : ℕ) (facts : List Fact) (command : SourceCommand) (old : WorkerView) (outcome : Outcome) (mid new : WorkerView)
    → HasDone vc c facts command old outcome mid → (request : Terms) → Some request ≡ request_in outcome → (place : ℕ) (reply : PortReply)
    → new.actor ≡ mid.actor
    → new.seat ≡ record { caller = mid.seat.caller; receipts = mid.seat.receipts ++ receipt_for port mid.seat.caller place (Request request) reply ∷ [] }
    → new.entries ≡ mid.entries ++ Sent place ∷ [] → new.arrived ≡ mid.arrived
    → Requests vc c port facts command old new
sent vc c port facts command old outcome mid new h request some place reply acted seated noted later =
    let is : request_in (command_answer vc facts command) ≡ Some request = ap request_in (sym h.answer) ∙ sym some in (
      with_step vc c facts command (Sent place) (record { place = place; input = Request request }),
      (Sent place ∷ [], record { entries = refl; after = refl }, rw is (place, refl, refl)),
      step_done vc c port facts command old outcome mid new h (Sent place) place (Request request) reply acted seated noted later,
    )

-- What a command comes to that sends a cell, or none.
abbrev pub Emits : Conn → (c port : ℕ) → List Fact → (now : ℕ) → (jitter : Option ℕ) → WorkerView → WorkerView → Type 0
Emits conn c port facts now jitter old new =
    (effect : CommandEffect) × ((rest : List SourceEntry) × Begins conn.vc c facts (source.Emit now) rest effect
    × Arrives conn old.arrived now jitter (cell_in (command_answer conn.vc facts (source.Emit now))) rest effect.steps)
    × IsAfter conn.vc port effect old new

no_cell : (conn : Conn) (arrived now : ℕ) (jitter : Option ℕ) → Arrives conn arrived now jitter None [] []
no_cell conn arrived now None = (refl, refl)
no_cell conn arrived now (Some jitter) = (refl, refl)

no_jitter : (conn : Conn) (arrived now : ℕ) (cell : Option ℕ) → Arrives conn arrived now None cell [] []
no_jitter conn arrived now cell = (refl, refl)

pub unemitted : (conn : Conn) (c port : ℕ) (facts : List Fact) (now : ℕ) (jitter : Option ℕ) (old : WorkerView) (outcome : Outcome) (new : WorkerView)
    → HasDone conn.vc c facts (source.Emit now) old outcome new → None ≡ cell_in outcome → Emits conn c port facts now jitter old new
unemitted conn c port facts now jitter old outcome new h none =
    let is : cell_in (command_answer conn.vc facts (source.Emit now)) ≡ None = ap cell_in (sym h.answer) ∙ sym none in (
      bare conn.vc c facts (source.Emit now),
      ([], record { entries = refl; after = refl }, rw is (no_cell conn old.arrived now jitter)),
      bare_done conn.vc c port facts (source.Emit now) old outcome new h,
    )

pub lost : (conn : Conn) (c port : ℕ) (facts : List Fact) (now : ℕ) (old : WorkerView) (outcome : Outcome) (new : WorkerView)
    → HasDone conn.vc c facts (source.Emit now) old outcome new → Emits conn c port facts now None old new
lost conn c port facts now old outcome new h = (
  bare conn.vc c facts (source.Emit now),
  ([], record { entries = refl; after = refl }, no_jitter conn old.arrived now (cell_in (command_answer conn.vc facts (source.Emit now)))),
  bare_done conn.vc c port facts (source.Emit now) old outcome new h,
)

pub arrives : (conn : Conn) (c port : ℕ) (facts : List Fact) (now jitter : ℕ) (old : WorkerView) (outcome : Outcome) (mid new : WorkerView)
    → HasDone conn.vc c facts (source.Emit now) old outcome mid → (cell : ℕ) → Some cell ≡ cell_in outcome → (at : ℕ) → at ≡ arrival_of conn mid.arrived now jitter
    → (place : ℕ) (reply : PortReply)
    → new.actor ≡ mid.actor
    → new.seat ≡ record { caller = mid.seat.caller; receipts = mid.seat.receipts ++ receipt_for port mid.seat.caller place (Arrive conn.vc at) reply ∷ [] }
    → new.entries ≡ mid.entries ++ Arrived cell place ∷ [] → new.arrived ≡ at
    → Emits conn c port facts now (Some jitter) old new
arrives conn c port facts now jitter old outcome mid new h cell some at moment place reply acted seated noted later =
    let is : cell_in (command_answer conn.vc facts (source.Emit now)) ≡ Some cell = ap cell_in (sym h.answer) ∙ sym some in
    let when : at ≡ arrival_of conn old.arrived now jitter = moment ∙ ap (λ (a : ℕ). arrival_of conn a now jitter) h.arrived in
    let step : LineStep = record { place = place; input = Arrive conn.vc at } in (
      with_step conn.vc c facts (source.Emit now) (Arrived cell place) step,
      (Arrived cell place ∷ [], record { entries = refl; after = refl }, rw is (place, refl, ap (λ (a : ℕ). let s : LineStep = record { place = place; input = Arrive conn.vc a } in s ∷ []) when)),
      step_done conn.vc c port facts (source.Emit now) old outcome mid new h (Arrived cell place) place (Arrive conn.vc at) reply acted seated noted later,
    )

-- the same of a jitter that is known to be so
pub lost_is : (conn : Conn) (c port : ℕ) (facts : List Fact) (now : ℕ) (jitter : Option ℕ) (old : WorkerView) (outcome : Outcome) (new : WorkerView)
    → jitter ≡ None → HasDone conn.vc c facts (source.Emit now) old outcome new → Emits conn c port facts now jitter old new
lost_is conn c port facts now jitter old outcome new none h = rw none (lost conn c port facts now old outcome new h)

pub arrives_is : (conn : Conn) (c port : ℕ) (facts : List Fact) (now : ℕ) (given : Option ℕ) (jitter : ℕ) (old : WorkerView) (outcome : Outcome) (mid new : WorkerView)
    → given ≡ Some jitter
    → HasDone conn.vc c facts (source.Emit now) old outcome mid → (cell : ℕ) → Some cell ≡ cell_in outcome → (at : ℕ) → at ≡ arrival_of conn mid.arrived now jitter
    → (place : ℕ) (reply : PortReply)
    → new.actor ≡ mid.actor
    → new.seat ≡ record { caller = mid.seat.caller; receipts = mid.seat.receipts ++ receipt_for port mid.seat.caller place (Arrive conn.vc at) reply ∷ [] }
    → new.entries ≡ mid.entries ++ Arrived cell place ∷ [] → new.arrived ≡ at
    → Emits conn c port facts now given old new
arrives_is conn c port facts now given jitter old outcome mid new some h cell left at moment place reply acted seated noted later =
    rw some (arrives conn c port facts now jitter old outcome mid new h cell left at moment place reply acted seated noted later)

-- the same of a source whose channel is that of its line

abbrev pub DoneBy : Channel → (c : ℕ) → SourceCommand → WorkerView → Outcome → WorkerView → Type 0
DoneBy vc c command old outcome new = (facts : List Fact) → old.actor ≡ actor_of vc facts → HasDone vc c facts command old outcome new

pub unemitted_at : (conn : Conn) (vc : Channel) (c port now : ℕ) (jitter : Option ℕ) (old : WorkerView) (outcome : Outcome) (new : WorkerView)
    → vc ≡ conn.vc → DoneBy vc c (source.Emit now) old outcome new → None ≡ cell_in outcome → (facts : List Fact) → old.actor ≡ actor_of conn.vc facts → Emits conn c port facts now jitter old new
unemitted_at conn vc c port now jitter old outcome new same done none facts is =
    let P : Channel → Type 0 = λ v. DoneBy v c (source.Emit now) old outcome new in
    unemitted conn c port facts now jitter old outcome new (subst P same done facts is) none

pub lost_at : (conn : Conn) (vc : Channel) (c port now : ℕ) (jitter : Option ℕ) (old : WorkerView) (outcome : Outcome) (new : WorkerView)
    → vc ≡ conn.vc → jitter ≡ None → DoneBy vc c (source.Emit now) old outcome new → (facts : List Fact) → old.actor ≡ actor_of conn.vc facts → Emits conn c port facts now jitter old new
lost_at conn vc c port now jitter old outcome new same none done facts is =
    let P : Channel → Type 0 = λ v. DoneBy v c (source.Emit now) old outcome new in
    lost_is conn c port facts now jitter old outcome new none (subst P same done facts is)

pub arrives_at : (conn : Conn) (vc : Channel) (c port now : ℕ) (given : Option ℕ) (jitter : ℕ) (old : WorkerView) (outcome : Outcome) (mid new : WorkerView)
    → vc ≡ conn.vc → given ≡ Some jitter → DoneBy vc c (source.Emit now) old outcome mid → (cell : ℕ) → Some cell ≡ cell_in outcome → (at : ℕ) → at ≡ arrival_of conn mid.arrived now jitter
    → (place : ℕ) (reply : PortReply) (later : Channel) → later ≡ conn.vc → new.actor ≡ mid.actor
    → new.seat ≡ record { caller = mid.seat.caller; receipts = mid.seat.receipts ++ receipt_for port mid.seat.caller place (Arrive later at) reply ∷ [] }
    → new.entries ≡ mid.entries ++ Arrived cell place ∷ [] → new.arrived ≡ at
    → (facts : List Fact) → old.actor ≡ actor_of conn.vc facts → Emits conn c port facts now given old new
arrives_at conn vc c port now given jitter old outcome mid new same some done cell left at moment place reply later here acted seated noted last facts is =
    let P : Channel → Type 0 = λ v. DoneBy v c (source.Emit now) old outcome mid in
    let Q : Channel → Type 0 = λ v. new.seat ≡ record { caller = mid.seat.caller; receipts = mid.seat.receipts ++ receipt_for port mid.seat.caller place (Arrive v at) reply ∷ [] } in
    arrives_is conn c port facts now given jitter old outcome mid new some (subst P same done facts is) cell left at moment place reply acted (subst Q here seated) noted last
