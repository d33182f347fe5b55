-- What goes out when a source answers lines, or lines and cells (docs/LIVE.md).
use Rattle.std.specs.Prelude.{ℕ, Bool, true, false, Option}
use Rattle.abt_text.specs.Text.{Text}
use Rattle.abt_lines.specs.Served.{ServesAll, ServesPart}
use Rattle.abt_records.specs.Served.{ServesRecords, ServesSome}
use Rattle.abt_live.specs.declared.clocked_lines.ClockedLines.{ClockedLines}
use Rattle.abt_live.specs.declared.clocked_records.ClockedRecords.{ClockedRecords}
use Rattle.abt_live.specs.declared.source_lines.SourceLines.{SourceLines}
use Rattle.abt_live.specs.declared.source_records.SourceRecords.{SourceRecords}
use Rattle.abt_live.specs.Clocked.{ClockedLine, ClockedRecord}
use Rattle.abt_live.specs.Serving.{EndsSilent}
use Rattle.abt_live.specs.SourceRecords.{SourcesRecord}
use Rattle.abt_live.specs.SourceSteps.{SourcesLine}

-- the answers of a source to which moments are handed in
abbrev pub ServesHanded : {K J : Type 0} → (contents : J → Option Text) → (is_binary : Bool) → (first : SourceRecords K J)
    → (left old new : Option Text) → Type 0
ServesHanded {K = K} {J = J} contents false first left old new =
    (last : SourceLines K J) × ServesAll (SourcesLine contents) EndsSilent first.lines last left old new
ServesHanded {K = K} {J = J} contents true first left old new =
    (last : SourceRecords K J) × ServesRecords (SourcesRecord contents) first last left old new

abbrev pub BeginsHanded : {K J : Type 0} → (contents : J → Option Text) → (is_binary : Bool) → (first : SourceRecords K J)
    → (left old new : Option Text) → Type 0
BeginsHanded contents false first left old new = ServesPart (SourcesLine contents) EndsSilent first.lines left old new
BeginsHanded contents true first left old new = ServesSome (SourcesRecord contents) first left old new

-- a source with a clock, over lines alone
abbrev pub lines_in : {K J N : Type 0} → ClockedRecords K J N → ClockedLines K J N
lines_in source = record { lines = source.records.lines; clock = source.clock }

-- the answers of a source with a clock
abbrev pub ServesClocked : {K J N : Type 0} → (reads : N → Option ℕ → N → Type 0) → (contents : J → Option Text) → (is_binary : Bool)
    → (first : ClockedRecords K J N) → (left old new : Option Text) → Type 0
ServesClocked {K = K} {J = J} {N = N} reads contents false first left old new =
    (last : ClockedLines K J N) × ServesAll (ClockedLine reads contents) EndsSilent (lines_in first) last left old new
ServesClocked {K = K} {J = J} {N = N} reads contents true first left old new =
    (last : ClockedRecords K J N) × ServesRecords (ClockedRecord reads contents) first last left old new

abbrev pub BeginsClocked : {K J N : Type 0} → (reads : N → Option ℕ → N → Type 0) → (contents : J → Option Text) → (is_binary : Bool)
    → (first : ClockedRecords K J N) → (left old new : Option Text) → Type 0
BeginsClocked reads contents false first left old new = ServesPart (ClockedLine reads contents) EndsSilent (lines_in first) left old new
BeginsClocked reads contents true first left old new = ServesSome (ClockedRecord reads contents) first left old new
