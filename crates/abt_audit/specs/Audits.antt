-- What an audit shows (docs/AUDITS.md, "What is told").
use Rattle.std.specs.Prelude.{◌≡◌, ◌⊎◌, ℕ, ◌+◌, true, List, [], ◌∷◌, Option}
use Rattle.abt_text.specs.Text.{Text}
use Rattle.abt_net.specs.Topology.{Topology}
use Rattle.abt_model.specs.declared.event.Event.{Event}
use Rattle.abt_model.specs.Traces.{IsTrace}
use Rattle.abt_weave.specs.Stuck.{RunJournals}
use Rattle.abt_weave.specs.Woven.{IsWoven}
use Rattle.abt_journal_text.specs.Books.{Told, IsToldRun, blank}
use Rattle.abt_journal_text.specs.Texts.{IsRead, IsUnread}
use Rattle.abt_journal_text.specs.declared.fault.TextFault.{TextFault}
use Rattle.abt_journal_text.specs.declared.run.Run.{Run}
use Rattle.abt_derive.specs.Derives.{IsDerived}
use Rattle.abt_derive.specs.Restarts.{IsRestarted}
use Rattle.abt_audit.specs.Parts.{run_journals}
use Rattle.abt_audit.specs.Settling.{IsSettledRun}
use Rattle.abt_audit.specs.declared.auditing.Audited.{Audited}
use Rattle.abt_audit.specs.declared.auditing.AuditedRun.{AuditedRun}

-- the texts that readers have left are read one after the other, the first of this number
abbrev pub AreRead : ℕ → Told → List (Option Text) → Told → Type 0
AreRead number told [] after = after ≡ told
AreRead number told (left ∷ more) after = (next : Told) × IsRead number told next left × AreRead (number + 1) next more after

-- some of them are read, and the next one isn't
abbrev pub IsUnreadAmong : ℕ → Told → List (Option Text) → TextFault → Type 0
IsUnreadAmong number told [] fault = ⊥
IsUnreadAmong number told (left ∷ more) fault =
    IsUnread number told fault left ⊎ ((next : Told) × IsRead number told next left × IsUnreadAmong (number + 1) next more fault)

-- What was audited are these events, with their trace, which is safe.
pub record IsVerdict (net : Topology) (events : List Event) (audited : Audited) : Type 0 where
  pub are_events : audited.events ≡ events
  pub is_trace : IsTrace net events audited.trace
  pub is_safe : audited.trace.safe ≡ true

-- The events are just these journals, and the trace is that of these events, and safe.
pub record IsAudited (net : Topology) (journals : RunJournals) (audited : Audited) : Type 0 where
  pub are_woven : IsWoven net journals.ports journals.sources audited.events
  pub is_trace : IsTrace net audited.events audited.trace
  pub is_safe : audited.trace.safe ≡ true

-- A run of what was told: its sources have crashed before they start again, what it leaves open is settled, and the journals of its sources
-- are completed.
pub record IsWholeRun (told : Told) (run : Run) : Type 0 where
  pub read : Run
  pub is_read : IsToldRun told read
  pub restarted : Run
  pub is_restarted : IsRestarted read restarted
  pub settled : Run
  pub is_settled : IsSettledRun restarted settled
  pub is_derived : IsDerived settled run

-- What was told is this net, and journals over it that are audited so once they are whole.
pub record IsToldAs (told : Told) (audited : AuditedRun) : Type 0 where
  pub run : Run
  pub whole : IsWholeRun told run
  pub net_is : audited.net ≡ run.net
  pub is_audited : IsAudited run.net (run_journals run) audited.audited

-- What was told is a net and journals that are audited.
pub record IsSafelyTold (told : Told) : Type 0 where
  pub run : AuditedRun
  pub is : IsToldAs told run

-- The texts that readers have left are read, and so is what they tell.
pub record IsReadAs (lefts : List (Option Text)) (so : Told → Type 0) : Type 0 where
  pub told : Told
  pub read : AreRead 1 blank lefts told
  pub is : so told

-- The texts that readers have left are read, and tell a net and journals that are audited.
abbrev pub IsShown : List (Option Text) → Type 0
IsShown lefts = IsReadAs lefts IsSafelyTold
