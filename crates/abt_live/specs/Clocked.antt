-- The steps of a source with a clock (docs/LIVE.md, "Moments").
use Rattle.std.specs.Prelude.{◌≡◌, ◌⊎◌, ℕ, Option, Result}
use Rattle.abt_lines.specs.Runs.{Steps}
use Rattle.abt_records.specs.Runs.{Steps as StepsOfRecords}
use Rattle.abt_text.specs.Text.{Text}
use Rattle.abt_live.specs.declared.clocked_lines.ClockedLines.{ClockedLines}
use Rattle.abt_live.specs.declared.clocked_records.ClockedRecords.{ClockedRecords}
use Rattle.abt_live.specs.declared.fault.LiveFault.{LiveFault}
use Rattle.abt_live.specs.Clock.{Reads, clocked}
use Rattle.abt_live.specs.SourceAsked.{asked_on}
use Rattle.abt_live.specs.SourceRecords.{DoesRecord, record_asked}
use Rattle.abt_live.specs.SourceSteps.{Does, StopsBefore, StopsBehind}

-- The clock was read, and what a line asks for at its moment is done, and is in the journal.
pub record DoesClocked {K J N : Type 0} (reads : N → Option ℕ → N → Type 0) (contents : J → Option Text)
    (old : ClockedLines K J N) (line : Option Text) (said : Text) (new : ClockedLines K J N) : Type 0 where
  pub moment : Result ℕ LiveFault
  pub read : Reads reads old.clock moment new.clock
  pub does : Does contents old.lines (clocked moment line (asked_on line)) said new.lines

-- The clock was read, and the source stopped before it did that, or behind it.
pub record StopsClocked {K J N : Type 0} (reads : N → Option ℕ → N → Type 0) (contents : J → Option Text)
    (old : ClockedLines K J N) (line : Option Text) (new : ClockedLines K J N) : Type 0 where
  pub moment : Result ℕ LiveFault
  pub read : Reads reads old.clock moment new.clock
  pub stops : StopsBefore contents old.lines (clocked moment line (asked_on line)) new.lines
      ⊎ StopsBehind contents old.lines (clocked moment line (asked_on line)) new.lines

-- the steps of a source with a clock
abbrev pub ClockedLine : {K J N : Type 0} → (reads : N → Option ℕ → N → Type 0) → (contents : J → Option Text) → Steps (ClockedLines K J N)
ClockedLine reads contents old number line said new = DoesClocked reads contents old line said new

-- The same over lines and cells.
pub record DoesClockedRecord {K J N : Type 0} (reads : N → Option ℕ → N → Type 0) (contents : J → Option Text)
    (old : ClockedRecords K J N) (seen : Option Text) (said : Text) (new : ClockedRecords K J N) : Type 0 where
  pub moment : Result ℕ LiveFault
  pub read : Reads reads old.clock moment new.clock
  pub does : DoesRecord contents old.records (clocked moment seen (record_asked seen)) said new.records

pub record StopsClockedRecord {K J N : Type 0} (reads : N → Option ℕ → N → Type 0) (contents : J → Option Text)
    (old : ClockedRecords K J N) (seen : Option Text) (new : ClockedRecords K J N) : Type 0 where
  pub moment : Result ℕ LiveFault
  pub read : Reads reads old.clock moment new.clock
  pub stops : StopsBefore contents old.records.lines (clocked moment seen (record_asked seen)) new.records.lines
      ⊎ StopsBehind contents old.records.lines (clocked moment seen (record_asked seen)) new.records.lines

abbrev pub ClockedRecord : {K J N : Type 0} → (reads : N → Option ℕ → N → Type 0) → (contents : J → Option Text) → StepsOfRecords (ClockedRecords K J N)
ClockedRecord reads contents old seen said new = DoesClockedRecord reads contents old seen said new
