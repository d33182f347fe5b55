-- What `abt switch` and `abt source` leave (docs/LIVE.md).
use Rattle.std.specs.Prelude.{◌≡◌, ◌⊎◌, ℕ, Option, string_bytes}
use Rattle.std.specs.Io.KnownBytes.{IsAtEnd, Keeps}
use Rattle.abt_text.specs.Text.{Text}
use Rattle.abt_keep.specs.Record.{KeptRecord}
use Rattle.abt_live_files.specs.Served.{IsSourceServed, IsSourceUnserved, IsSwitchServed, IsSwitchUnserved}
use Rattle.abt_plans.specs.declared.process.SourcePlan.{SourcePlan}
use Rattle.abt_plans.specs.declared.process.SwitchPlan.{SwitchPlan}
use Rattle.abt_commands.specs.Ends.{Ends, TakesAny}
use Rattle.abt_commands.specs.Steps.{IsNetUnopened}

-- What a process leaves that answers lines: if it is done, its input is at its end.
pub record EndsProcess (Done Refused : (left old new told_old told_new : Option Text) → Type 0)
    (status : ℕ) (left_old left_new old new told_old told_new : Option Text) : Type 0 where
  pub ends : Ends TakesAny Done Refused status left_old left_new old new told_old told_new
  pub at_end : status ≡ 0 → IsAtEnd left_new

-- The scenario is that of some reader, which is there in place of the file; the ports that are named answer the lines, and nothing is told.
pub record IsSwitched {J : Type 0} (contents : J → Option Text) (plan : SwitchPlan) (left old new told_old told_new : Option Text) : Type 0 where
  pub net : Option Text
  pub served : IsSwitchServed contents net plan left old new
  pub quiet : Keeps told_old told_new

-- Lines that the ports don't all answer, over some reader in place of the file: it is told why, by the name of the journal, or the port.
pub record IsSwitchStopped {J : Type 0} (contents : J → Option Text) (plan : SwitchPlan) (left old new told_old told_new : Option Text) : Type 0 where
  pub net : Option Text
  pub unserved : IsSwitchUnserved contents net plan left old new told_old told_new

-- there is a fault, which is told
abbrev pub IsUnswitched : {J : Type 0} → (contents : J → Option Text) → SwitchPlan → (left old new told_old told_new : Option Text) → Type 0
IsUnswitched contents plan left old new told_old told_new =
    IsNetUnopened (string_bytes plan.file) old new told_old told_new ⊎ IsSwitchStopped contents plan left old new told_old told_new

abbrev pub Switches : {J : Type 0} → (contents : J → Option Text) → SwitchPlan → (status : ℕ)
    → (left_old left_new old new told_old told_new : Option Text) → Type 0
Switches contents plan = EndsProcess (IsSwitched contents plan) (IsUnswitched contents plan)

-- The source of the connection that is named answers the lines, over some reader in place of the file, and nothing is told.
pub record IsSourced {K J : Type 0} (content : K → KeptRecord) (contents : J → Option Text) (plan : SourcePlan)
    (left old new told_old told_new : Option Text) : Type 0 where
  pub net : Option Text
  pub served : IsSourceServed content contents net plan left old new
  pub quiet : Keeps told_old told_new

-- Lines that the source doesn't all answer: it is told why, by the name of the store or the journal, or by the connection.
pub record IsSourceStopped {K J : Type 0} (content : K → KeptRecord) (contents : J → Option Text) (plan : SourcePlan)
    (left old new told_old told_new : Option Text) : Type 0 where
  pub net : Option Text
  pub unserved : IsSourceUnserved content contents net plan left old new told_old told_new

-- there is a fault, which is told
abbrev pub IsUnsourced : {K J : Type 0} → (content : K → KeptRecord) → (contents : J → Option Text) → SourcePlan
    → (left old new told_old told_new : Option Text) → Type 0
IsUnsourced content contents plan left old new told_old told_new =
    IsNetUnopened (string_bytes plan.file) old new told_old told_new ⊎ IsSourceStopped content contents plan left old new told_old told_new

abbrev pub Sources : {K J : Type 0} → (content : K → KeptRecord) → (contents : J → Option Text) → SourcePlan → (status : ℕ)
    → (left_old left_new old new told_old told_new : Option Text) → Type 0
Sources content contents plan = EndsProcess (IsSourced content contents plan) (IsUnsourced content contents plan)
