-- What `abt threads` shows of a run (docs/THREADS.md), line by line.
use Rattle.std.specs.Prelude.{◌≡◌, ℕ, ◌<◌, ◌⊎◌, true, List, [], Option, length, take, codes}
use Rattle.std.specs.Io.KnownBytes.{Appends}
use Rattle.abt_text.specs.Text.{Text, ◌⋅◌, newline}
use Rattle.abt_format.specs.Report.{safe_line}
use Rattle.abt_model.specs.declared.event.Event.{Event}
use Rattle.abt_scenario.specs.declared.scenario.Scenario.{Scenario}
use Rattle.abt_links.specs.Runs.{IsRun}
use Rattle.abt_weave.specs.Woven.{IsWoven}
use Rattle.abt_weave.specs.declared.fault.WeaveFault.TheVariants.{Memory}
use Rattle.abt_history.specs.Ended.{CanBeWoven}
use Rattle.abt_perform_threads.specs.Judging.{IsJudged}
use Rattle.abt_perform_threads.specs.declared.judging.Judged.{Judged}
use Rattle.abt_perform_threads.specs.declared.ran.Ran.{Ran}
use Rattle.abt_perform_threads.specs.declared.showing.ShowFault.{ShowFault}
use Rattle.abt_perform_threads.specs.declared.showing.ShowFault.TheVariants.{Weave, Trace, Write}

-- The scenario's scripts and its operator's list ran in its net, with so many link workers, and left this, which is one list of events.
pub record IsRanFrom (scenario : Scenario) (workers : ℕ) (ran : Ran) : Type 0 where
  pub net_is : ran.net ≡ scenario.net
  pub is_run : IsRun scenario.net scenario.scripts scenario.operator workers ran.gathered
  pub woven : CanBeWoven scenario.net ran.gathered.journals ran.gathered.sources.items

-- a line for each step that is done; the last one is the trace's own word
abbrev pub gathered_line : Text
gathered_line = codes "gathered" ⋅ newline

abbrev pub woven_line : Text
woven_line = codes "woven" ⋅ newline

-- all lines of a run, and what they are of each, since its trace is safe
abbrev pub lines_of : Judged → Text
lines_of judged = gathered_line ⋅ woven_line ⋅ safe_line judged.trace.safe

abbrev pub shown_text : Text
shown_text = gathered_line ⋅ woven_line ⋅ safe_line true

-- All lines of this run went out, which is judged to be this.
pub record ShowsAll (ran : Ran) (judged : Judged) (old new : Option Text) : Type 0 where
  pub is_judged : IsJudged ran.net ran.gathered judged
  pub lines : Appends old new (lines_of judged)

-- What the run left is woven.
pub record IsWovenRun (ran : Ran) : Type 0 where
  pub events : List Event
  pub are_woven : IsWoven ran.net ran.gathered.journals ran.gathered.sources.items events

-- Some lines went out, and of the next one a part, from its beginning, and not all of it.
pub record BreaksOff (before line : Text) (old new : Option Text) : Type 0 where
  pub count : ℕ
  pub short : count < length line
  pub front : Appends old new (before ⋅ take count line)

pub record BreaksOffJudged (ran : Ran) (old new : Option Text) : Type 0 where
  pub judged : Judged
  pub is_judged : IsJudged ran.net ran.gathered judged
  pub part : BreaksOff (gathered_line ⋅ woven_line) (safe_line judged.trace.safe) old new

-- what each fault says of this run, and what went out before it: the lines of the steps that were done, and of the one that couldn't
-- be written a part; only want of memory keeps what the run left from being woven
abbrev pub ShowsUntil : Ran → ShowFault → (old new : Option Text) → Type 0
ShowsUntil ran (Weave reason) old new = (reason ≡ Memory) × Appends old new gathered_line
ShowsUntil ran Trace old new = IsWovenRun ran × Appends old new (gathered_line ⋅ woven_line)
ShowsUntil ran Write old new =
    BreaksOff [] gathered_line old new
    ⊎ (IsWovenRun ran × BreaksOff gathered_line woven_line old new)
    ⊎ BreaksOffJudged ran old new
