-- What the journal of a source says of it, over any lines.
use Rattle.std.specs.Prelude.{◌≡◌, ℕ, List, [], ◌∷◌, Option}
use Rattle.std.specs.Io.KnownBytes.{Appends}
use Rattle.abt_text.specs.Text.{Text, ◌⋅◌}
use Rattle.abt_cell.specs.Channel.{Channel}
use Rattle.abt_model.specs.declared.outcome.Outcome.{Outcome}
use Rattle.abt_actor.specs.Actor.{ActorView}
use Rattle.abt_lines.specs.Runs.{Runs}
use Rattle.abt_live.specs.declared.clocked_lines.ClockedLines.{ClockedLines}
use Rattle.abt_live.specs.declared.source_asked.SourceAsked.{SourceAsked}
use Rattle.abt_live.specs.declared.source_lines.SourceLines.{SourceLines}
use Rattle.abt_live.specs.Clocked.{ClockedLine}
use Rattle.abt_live.specs.SourceJournal.{before_line, done_line}
use Rattle.abt_live.specs.SourceSteps.{Carries, SourcesLine}

-- a deed of a source: what it was before, what was asked for, and what came of it
pub record Deed : Type 0 where
  pub actor : ActorView
  pub asked : SourceAsked
  pub outcome : Outcome

-- the lines of some deeds of the source of a connection
abbrev pub deeds_text : (conn : ℕ) → List Deed → Text
deeds_text conn [] = []
deeds_text conn (deed ∷ deeds) = (before_line conn deed.actor deed.asked ⋅ done_line conn deed.asked deed.outcome) ⋅ deeds_text conn deeds

-- These are the deeds of a source one after the other: each has the outcome of the event of its name there.
abbrev pub AreDeeds : Channel → ActorView → List Deed → (new : ActorView) → Type 0
AreDeeds vc actor [] new = new ≡ actor
AreDeeds vc actor (deed ∷ deeds) new =
    (deed.actor ≡ actor) × ((mid : ActorView) × Carries vc deed.asked actor deed.outcome mid × AreDeeds vc mid deeds new)

-- The journal got the lines of some deeds of the source, one after the other, and nothing else.
pub record HasDeeds {K J : Type 0} (contents : J → Option Text) (old new : SourceLines K J) : Type 0 where
  pub deeds : List Deed
  pub journal : Appends (contents old.journal) (contents new.journal) (deeds_text old.conn deeds)
  pub are_deeds : AreDeeds old.vc old.source deeds new.source

-- So it is over any lines, whether moments are handed in, or a clock has them.
abbrev pub JournalsAreDeeds : {J : Type 0} → (K : Type 0) → (contents : J → Option Text) → Type 0
JournalsAreDeeds {J = J} K contents =
    (old new : SourceLines K J) (number : ℕ) (lines : List (Option Text)) (said : Text) → Runs (SourcesLine contents) old number lines said new
    → HasDeeds contents old new

abbrev pub ClockedJournalsAreDeeds : {J N : Type 0} → (K : Type 0) → (reads : N → Option ℕ → N → Type 0) → (contents : J → Option Text) → Type 0
ClockedJournalsAreDeeds {J = J} {N = N} K reads contents =
    (old new : ClockedLines K J N) (number : ℕ) (lines : List (Option Text)) (said : Text) → Runs (ClockedLine reads contents) old number lines said new
    → HasDeeds contents old.lines new.lines
