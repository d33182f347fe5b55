-- The output of `abt audit`, by its exit status.
use Rattle.std.specs.Prelude.{◌≡◌, ◌⊎◌, ⊤, List, length, None, Some, Option, String, codes}
use Rattle.std.specs.declared.alloc.Global.{Global}
use Rattle.abt_weave.specs.Faults.{IsWeaveFault, SaysNoneIsWoven}
use Rattle.std.specs.Io.KnownBytes.{Appends, Keeps}
use Rattle.abt_text.specs.Text.{Text, ◌⋅◌, newline}
use Rattle.abt_text.specs.Streams.{AppendsPrefix}
use Rattle.abt_weave.specs.declared.fault.WeaveFault.{WeaveFault}
use Rattle.abt_weave.specs.declared.fault.WeaveFault.TheVariants as weave
use Rattle.abt_journal_text.specs.Books.{Told, blank}
use Rattle.abt_journal_text.specs.Entering.{IsOwn}
use Rattle.abt_journal_text.specs.declared.fault.Cause.{Cause}
use Rattle.abt_journal_text.specs.declared.fault.Cause.TheVariants as cause
use Rattle.abt_journal_text.specs.declared.fault.TextFault.{TextFault}
use Rattle.abt_journal_text.specs.declared.run.Run.{Run}
use Rattle.abt_perform.specs.Names.{fault_line}
use Rattle.abt_perform.specs.Plans.{Tells}
use Rattle.abt_perform.specs.declared.fault.Fault as program
use Rattle.abt_perform.specs.declared.fault.Fault.TheVariants as program_fault
use Rattle.abt_audit.specs.Audits.{IsReadAs, IsToldAs, IsUnreadAmong, IsShown, IsWholeRun}
use Rattle.abt_audit.specs.Names.{text_fault_line}
use Rattle.abt_audit.specs.FaultTexts.{IsFaultText}
use Rattle.abt_audit.specs.Findings.{JustTells, PutsOutIfMade, notes_text, woven_text}
use Rattle.abt_audit.specs.Objects.{nothing_object, text_object}
use Rattle.abt_audit.specs.Parts.{run_journals}
use Rattle.abt_audit.specs.declared.auditing.AuditedRun.{AuditedRun}
use Rattle.abt_audit.specs.declared.fault.AuditFault.{AuditFault}
use Rattle.abt_audit.specs.declared.fault.AuditFault.TheVariants as fault
use Rattle.abt_audit.specs.declared.form.Form.{Form}
use Rattle.abt_audit.specs.declared.form.Form.TheVariants.{Words, Json}

-- what goes out if an audit shows that all that was told is this run
abbrev pub shown_text : Form → Told → AuditedRun → Text
shown_text form told run = woven_text form (length run.audited.events) ⋅ notes_text form told.cuts

-- What was told is this run once it is whole; its journals aren't woven, and these are the lines of the fault, and why it is one.
pub record IsStuckRun (form : Form) (names : List (String Global)) (told : Told) (why : WeaveFault) (lines : Text) (run : Run) : Type 0 where
  pub whole : IsWholeRun told run
  pub is_fault : IsWeaveFault run.net (run_journals run) why
  pub none : SaysNoneIsWoven run.net (run_journals run) why
  pub text : Text
  pub is_text : IsFaultText form names run why text
  pub are : lines ≡ text ⋅ notes_text form told.cuts

-- why what was told isn't audited
abbrev pub IsNoRun : Form → List (String Global) → Told → AuditFault → Type 0
IsNoRun form names told fault.Nothing = told.net ≡ None
IsNoRun form names told (fault.Stuck why lines run) = IsStuckRun form names told why lines.items run
IsNoRun form names told fault.Memory = Unit {0}
IsNoRun form names told other = ⊥

-- a text isn't read, or there was something else that kept it from being read
abbrev pub EndsReading : List (Option Text) → AuditFault → Type 0
EndsReading lefts why = (of_text : TextFault) × (why ≡ fault.Text of_text) × (IsOwn of_text.cause ⊎ IsUnreadAmong 1 blank lefts of_text)

-- what a fault says of the texts that readers have left, and what went out: a text isn't read; what they tell isn't audited; memory was
-- refused; or all is audited, and not all could be written
abbrev pub EndsBy : Form → List (String Global) → List (Option Text) → AuditFault → (old new : Option Text) → Type 0
EndsBy form names lefts why old new =
    (EndsReading lefts why × Keeps old new)
    ⊎ (IsReadAs lefts (λ told. IsNoRun form names told why) × Keeps old new)
    ⊎ ((why ≡ fault.Memory) × Keeps old new)
    ⊎ ((why ≡ fault.Write) × (run : AuditedRun) × IsReadAs lefts (λ told. IsToldAs told run × AppendsPrefix old new (shown_text form told run)))

-- the fault of an audit for a fault of a text, by its cause
abbrev pub fault_by : TextFault → Cause → AuditFault
fault_by why cause.Memory = fault.Memory
fault_by why other = fault.Text why

abbrev pub fault_of_text : TextFault → AuditFault
fault_of_text why = fault_by why why.cause

-- the program's fault for a fault of weaving
abbrev pub weave_fault : WeaveFault → program.Fault
weave_fault (weave.Mismatch actor place) = program_fault.Mismatch
weave_fault (weave.NoOrder stuck) = program_fault.NoOrder
weave_fault weave.Memory = program_fault.Memory

-- what is told of a fault in words: of entries that are stuck their lines
abbrev pub fault_text : List (String Global) → AuditFault → Text
fault_text names (fault.Text why) = text_fault_line names why
fault_text names fault.Nothing = codes "fault: Nothing" ⋅ newline
fault_text names (fault.Stuck why lines run) = fault_line (weave_fault why) ⋅ lines.items
fault_text names fault.Write = fault_line program_fault.Write
fault_text names fault.Memory = fault_line program_fault.Memory

-- what is told of a fault has the names of texts in it, so that it needs memory
abbrev pub NeedsMemory : AuditFault → Type 0
NeedsMemory (fault.Text why) = ⊤
NeedsMemory (fault.Stuck why lines run) = ⊤
NeedsMemory other = ⊥

-- what was told of a fault in words, or want of memory for it
abbrev pub TellsFault : List (String Global) → AuditFault → (old new : Option Text) → Type 0
TellsFault names why old new = Tells (fault_text names why) old new ⊎ (NeedsMemory why × Tells (fault_line program_fault.Memory) old new)

-- objects of what was found went out, or want of memory for them is told; of a fault that isn't one of the texts its words are told
abbrev pub PutsFault : List (String Global) → AuditFault → (old new told_old told_new : Option Text) → Type 0
PutsFault names (fault.Text why) = PutsOutIfMade (text_object names why)
PutsFault names fault.Nothing = PutsOutIfMade nothing_object
PutsFault names (fault.Stuck why lines run) = PutsOutIfMade lines.items
PutsFault names fault.Write = JustTells (fault_line program_fault.Write)
PutsFault names fault.Memory = JustTells (fault_line program_fault.Memory)

-- what became of a fault, in words or as objects
abbrev pub ShowsFault : Form → List (String Global) → AuditFault → (old new told_old told_new : Option Text) → Type 0
ShowsFault Words names why old new told_old told_new = Keeps old new × TellsFault names why told_old told_new
ShowsFault Json names why old new told_old told_new = PutsFault names why old new told_old told_new

-- An audit that doesn't show all: why, what went out before the fault, and what became of that.
pub record IsNotShown (form : Form) (names : List (String Global)) (lefts : List (Option Text)) (old new told_old told_new : Option Text) : Type 0 where
  pub fault : AuditFault
  pub between : Option Text
  pub ends : EndsBy form names lefts fault old between
  pub shown : ShowsFault form names fault between new told_old told_new

-- the run whose journals a fault says to be stuck
abbrev pub run_in : AuditFault → Option Run
run_in (fault.Stuck why lines run) = Some run
run_in other = None

-- The audit has a fault, which is shown, and the run whose journals are stuck is handed out, if they are.
pub record IsNotShownLeaving (form : Form) (names : List (String Global)) (lefts : List (Option Text)) (old new told_old told_new : Option Text) (left : Option Run) : Type 0 where
  pub fault : AuditFault
  pub between : Option Text
  pub ends : EndsBy form names lefts fault old between
  pub shown : ShowsFault form names fault between new told_old told_new
  pub is_left : left ≡ run_in fault

-- An audit that shows all of this net and these events.
pub record IsShownAs (form : Form) (lefts : List (Option Text)) (old new : Option Text) (run : AuditedRun) : Type 0 where
  pub shown : IsReadAs lefts (λ told. IsToldAs told run)
  pub written : Appends old new (shown_text form shown.told run)

-- An audit that shows all.
pub record IsShownWhole (form : Form) (lefts : List (Option Text)) (old new : Option Text) : Type 0 where
  pub shown : IsShown lefts
  pub written : Appends old new (shown_text form shown.told shown.is.run)
