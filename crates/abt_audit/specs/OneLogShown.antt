-- The output of `abt audit --port` and `--source`, by its exit status (docs/AUDITS.md, "One log", "Findings as JSON").
use Rattle.std.specs.Prelude.{◌≡◌, ◌⊎◌, ℕ, List, None, Option, String, codes}
use Rattle.std.specs.declared.alloc.Global.{Global}
use Rattle.std.specs.Io.KnownBytes.{Appends, Keeps}
use Rattle.abt_text.specs.Text.{Text, ◌⋅◌, decimal, newline}
use Rattle.abt_text.specs.Streams.{AppendsPrefix}
use Rattle.abt_journal_text.specs.Books.{Told}
use Rattle.abt_journal_text.specs.declared.run.Run.{Run}
use Rattle.abt_journal_text.specs.declared.spot.Spot.{Spot}
use Rattle.abt_perform.specs.Names.{fault_line}
use Rattle.abt_perform.specs.Plans.{Tells}
use Rattle.abt_perform.specs.declared.fault.Fault.TheVariants as program_fault
use Rattle.abt_weave.specs.declared.actor.Actor.{Actor}
use Rattle.abt_weave.specs.declared.actor.Actor.TheVariants.{Source, Port}
use Rattle.abt_weave.specs.declared.fault.WeaveFault.{WeaveFault}
use Rattle.abt_weave.specs.declared.fault.WeaveFault.TheVariants.{Mismatch}
use Rattle.abt_audit.specs.Audits.{IsReadAs}
use Rattle.abt_audit.specs.FaultTexts.{IsMismatchText}
use Rattle.abt_audit.specs.Findings.{PutsOutIfMade, notes_text, obeys_text}
use Rattle.abt_audit.specs.Objects.{absent_object}
use Rattle.abt_audit.specs.OneLog.{IsJudgedRun, IsLogVerdict, entries_judged}
use Rattle.abt_audit.specs.Performing.{EndsReading, PutsFault, TellsFault}
use Rattle.abt_audit.specs.declared.fault.AuditFault.{AuditFault}
use Rattle.abt_audit.specs.declared.fault.AuditFault.TheVariants as fault
use Rattle.abt_audit.specs.declared.form.Form.{Form}
use Rattle.abt_audit.specs.declared.form.Form.TheVariants.{Words, Json}
use Rattle.abt_audit.specs.declared.one_log.LogVerdict.TheVariants.{Absent, Obeys, Differs}
use Rattle.abt_audit.specs.declared.one_log_fault.LogFault.{LogFault}
use Rattle.abt_audit.specs.declared.one_log_fault.LogFault.TheVariants as log

-- what goes out if a log obeys in so many entries
abbrev pub obeyed_text : Form → Actor → (count : ℕ) → (cuts : List Spot) → Text
obeyed_text form actor count cuts = obeys_text form actor count ⋅ notes_text form cuts

-- What was told has a log of this actor, which obeys in all its entries; this goes out, with the lines that are cut.
pub record IsObeyed (form : Form) (told : Told) (actor : Actor) (shown : Text) : Type 0 where
  pub read : Run
  pub run : Run
  pub is_judged : IsJudgedRun told read run
  pub obeys : IsLogVerdict run actor Obeys
  pub is : shown ≡ obeyed_text form actor (entries_judged read actor) told.cuts

-- The fault of an actor's entry of a place in a run: the line of that entry, what the protocol answers there, and why; or want of memory.
abbrev pub IsMismatchAt : Form → List (String Global) → Actor → (place : ℕ) → Run → AuditFault → Type 0
IsMismatchAt form names actor place told (fault.Stuck why lines run) =
    (run ≡ told) × (why ≡ Mismatch actor place) × (text : Text) × IsMismatchText form names run actor place text × (lines.items ≡ text ⋅ notes_text form run.cuts.items)
IsMismatchAt form names actor place told other = other ≡ fault.Memory

-- What was told has a log of this actor, and its entry of a place is the first that differs. These are the line of that entry, what the
-- protocol answers there, and why.
pub record IsDiffering (form : Form) (names : List (String Global)) (told : Told) (actor : Actor) (why : WeaveFault) (lines : Text) (run : Run) : Type 0 where
  pub read : Run
  pub is_judged : IsJudgedRun told read run
  pub place : ℕ
  pub differs : IsLogVerdict run actor (Differs place)
  pub names_it : why ≡ Mismatch actor place
  pub text : Text
  pub is_text : IsMismatchText form names run actor place text
  pub are : lines ≡ text ⋅ notes_text form told.cuts

-- What was told has no log of this actor, as the net has none such.
pub record IsAbsent (told : Told) (actor : Actor) : Type 0 where
  pub read : Run
  pub run : Run
  pub is_judged : IsJudgedRun told read run
  pub absent : IsLogVerdict run actor Absent

-- why a log of what was told isn't shown to obey
abbrev pub IsNotObeyed : Form → List (String Global) → Told → Actor → LogFault → Type 0
IsNotObeyed form names told actor (log.Audit fault.Nothing) = told.net ≡ None
IsNotObeyed form names told actor (log.Audit (fault.Stuck why lines run)) = IsDiffering form names told actor why lines.items run
IsNotObeyed form names told actor (log.Audit fault.Memory) = Unit {0}
IsNotObeyed form names told actor (log.Audit other) = ⊥
IsNotObeyed form names told actor (log.Absent other) = (other ≡ actor) × IsAbsent told actor

-- what a fault says of the texts that readers have left, and what went out: a text isn't read; the log doesn't obey, or there is none;
-- memory was refused; or it obeys, and not all could be written
abbrev pub EndsLogBy : Form → List (String Global) → List (Option Text) → Actor → LogFault → (old new : Option Text) → Type 0
EndsLogBy form names lefts actor why old new =
    ((of_text : AuditFault) × (why ≡ log.Audit of_text) × EndsReading lefts of_text × Keeps old new)
    ⊎ (IsReadAs lefts (λ told. IsNotObeyed form names told actor why) × Keeps old new)
    ⊎ ((why ≡ log.Audit fault.Memory) × Keeps old new)
    ⊎ ((why ≡ log.Audit fault.Write) × (shown : Text) × IsReadAs lefts (λ told. IsObeyed form told actor shown) × AppendsPrefix old new shown)

-- what is told of a port or a source that the net doesn't have
abbrev pub absent_text : Actor → Text
absent_text (Port p) = codes "fault: port\n" ⋅ decimal p ⋅ codes ": the net has no such port" ⋅ newline
absent_text (Source c) = codes "fault: connection\n" ⋅ decimal c ⋅ codes ": the net has no such connection" ⋅ newline

-- what was told of a fault in words, or want of memory for it
abbrev pub TellsLogFault : List (String Global) → LogFault → (old new : Option Text) → Type 0
TellsLogFault names (log.Audit why) old new = TellsFault names why old new
TellsLogFault names (log.Absent actor) old new = Tells (absent_text actor) old new ⊎ Tells (fault_line program_fault.Memory) old new

-- objects of what was found went out, or want of memory for them is told
abbrev pub PutsLogFault : List (String Global) → LogFault → (old new told_old told_new : Option Text) → Type 0
PutsLogFault names (log.Audit why) = PutsFault names why
PutsLogFault names (log.Absent actor) = PutsOutIfMade (absent_object actor)

-- what became of a fault, in words or as objects
abbrev pub ShowsLogFault : Form → List (String Global) → LogFault → (old new told_old told_new : Option Text) → Type 0
ShowsLogFault Words names why old new told_old told_new = Keeps old new × TellsLogFault names why told_old told_new
ShowsLogFault Json names why old new told_old told_new = PutsLogFault names why old new told_old told_new

-- A log isn't shown to obey: why, what went out before the fault, and what became of that.
pub record IsLogNotShown (form : Form) (names : List (String Global)) (lefts : List (Option Text)) (actor : Actor) (old new told_old told_new : Option Text) : Type 0 where
  pub fault : LogFault
  pub between : Option Text
  pub ends : EndsLogBy form names lefts actor fault old between
  pub shown : ShowsLogFault form names fault between new told_old told_new

-- A log is shown to obey.
pub record IsLogShown (form : Form) (lefts : List (Option Text)) (actor : Actor) (old new : Option Text) : Type 0 where
  pub text : Text
  pub shown : IsReadAs lefts (λ told. IsObeyed form told actor text)
  pub written : Appends old new text
