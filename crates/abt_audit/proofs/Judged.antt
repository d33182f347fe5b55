-- What an audit shows of what was told, or doesn't.
use Rattle.std.proofs.Common.{◌≡◌, ◌⊎◌, ◌∙◌, inl, inr, List, length, Option, refl, sym, ap, subst}
use Rattle.std.specs.Prelude.{String, IfSome}
use Rattle.std.specs.declared.alloc.Global.{Global}
use Rattle.std.specs.Io.KnownBytes.{Appends, Keeps}
use Rattle.abt_text.specs.Text.{Text, ◌⋅◌}
use Rattle.abt_text.specs.Streams.{AppendsPrefix}
use Rattle.abt_net.specs.Topology.{Topology}
use Rattle.abt_weave.specs.Faults.{IsWeaveFault, SaysNoneIsWoven}
use Rattle.abt_weave.specs.declared.fault.WeaveFault.{WeaveFault}
use Rattle.abt_journal_text.specs.Books.{Told, IsToldRun, blank, lists_of}
use Rattle.abt_journal_text.specs.Entering.{IsOwn}
use Rattle.abt_journal_text.specs.declared.fault.TextFault.{TextFault}
use Rattle.abt_journal_text.specs.declared.run.Run.{Run}
use Rattle.abt_journal_text.specs.declared.spot.Spot.{Spot}
use Rattle.abt_derive.specs.Derives.{IsDerived}
use Rattle.abt_derive.specs.Restarts.{IsRestarted}
use Rattle.abt_derive.proofs.Crashing.{as_many_restarted}
use Rattle.abt_derive.proofs.Growing.{as_many as as_many_derived}
use Rattle.abt_audit.specs.Audits.{AreRead, IsUnreadAmong, IsWholeRun, IsToldAs, IsSafelyTold, IsReadAs}
use Rattle.abt_audit.specs.Findings.{notes_text}
use Rattle.abt_audit.specs.Parts.{IsSizedRun, run_journals}
use Rattle.abt_audit.specs.Performing.{IsStuckRun, IsNoRun, EndsBy, IsShownAs, IsShownWhole, run_in, shown_text}
use Rattle.abt_audit.specs.FaultTexts.{IsFaultText}
use Rattle.abt_audit.specs.Settling.{IsSettledRun}
use Rattle.abt_audit.proofs.SettledRuns.{as_many}
use Rattle.abt_audit.specs.declared.auditing.AuditedRun.{AuditedRun}
use Rattle.abt_audit.specs.declared.fault.AuditFault.{AuditFault}
use Rattle.abt_audit.specs.declared.fault.AuditFault.TheVariants as fault
use Rattle.abt_audit.specs.declared.form.Form.{Form}

net_stays : (told : Told) (run : Run) (w : IsWholeRun told run) → run.net ≡ w.read.net
net_stays told run w =
    ap (λ (one : Run). one.net) w.is_derived.same ∙ ap (λ (one : Run). one.net) w.is_settled.same ∙ ap (λ (one : Run). one.net) w.is_restarted.same

-- the lines that are cut are those that were told
cuts_stay : (told : Told) (run : Run) → IsWholeRun told run → run.cuts.items ≡ told.cuts
cuts_stay told run w =
    ap (λ (one : Run). one.cuts.items) w.is_derived.same ∙ ap (λ (one : Run). one.cuts.items) w.is_settled.same
    ∙ ap (λ (one : Run). one.cuts.items) w.is_restarted.same ∙ w.is_read.cuts

-- there are as many journals of sources as the net has connections, and as many of ports as it has ports
pub sources_stay : (told : Told) (run : Run) → IsWholeRun told run → length run.sources.items ≡ length run.net.conns
sources_stay told run w =
    as_many_derived w.settled.net w.settled.journals (lists_of w.settled.port_spots) (lists_of w.settled.source_spots) 0 w.settled.sources.items run.sources.items
    (lists_of run.source_spots) w.is_derived.completed
    ∙ as_many w.restarted.net w.restarted.open_writes.items w.restarted.sources.items w.settled.sources.items w.is_settled.settled
    ∙ ap length w.is_restarted.sources ∙ as_many_restarted (lists_of w.read.source_spots) 0 w.read.sources.items ∙ w.is_read.source_count
    ∙ sym (ap (λ (net : Topology). length net.conns) (net_stays told run w))

pub ports_stay : (told : Told) (run : Run) → IsWholeRun told run → length run.journals ≡ length run.net.capacities
ports_stay told run w =
    ap (λ (one : Run). length one.journals) w.is_derived.same ∙ ap (λ (one : Run). length one.journals) w.is_settled.same
    ∙ ap (λ (one : Run). length one.journals) w.is_restarted.same ∙ w.is_read.port_count
    ∙ sym (ap (λ (net : Topology). length net.capacities) (net_stays told run w))

pub sized : (told : Told) (run : Run) → IsWholeRun told run → IsSizedRun run
sized told run w = record { ports = ports_stay told run w; conns = sources_stay told run w }

pub whole : (told : Told) (read restarted settled run : Run) → IsToldRun told read → IsRestarted read restarted → IsSettledRun restarted settled
    → IsDerived settled run → IsWholeRun told run
whole told read restarted settled run r t s d =
    record { read = read; is_read = r; restarted = restarted; is_restarted = t; settled = settled; is_settled = s; is_derived = d }

-- what goes out, of the lines that are cut
pub shown_so : (form : Form) (told : Told) (run : Run) (front text : Text) → IsWholeRun told run → text ≡ front ⋅ notes_text form run.cuts.items
    → text ≡ front ⋅ notes_text form told.cuts
shown_so form told run front text w is = is ∙ ap (λ (cuts : List Spot). front ⋅ notes_text form cuts) (cuts_stay told run w)

pub stuck_so : (form : Form) (names : List (String Global)) (told : Told) (run : Run) (why : WeaveFault) (text lines : Text) → IsWholeRun told run
    → IsWeaveFault run.net (run_journals run) why → SaysNoneIsWoven run.net (run_journals run) why → IsFaultText form names run why text
    → lines ≡ text ⋅ notes_text form run.cuts.items → IsStuckRun form names told why lines run
stuck_so form names told run why text lines w p q so is =
    record { whole = w; is_fault = p; none = q; text = text; is_text = so; are = shown_so form told run text lines w is }

-- a run that is handed out has a journal for each port and each source
pub sized_left : (form : Form) (names : List (String Global)) (lefts : List (Option Text)) (why : AuditFault) (old new : Option Text) → EndsBy form names lefts why old new
    → IfSome (run_in why) IsSizedRun
sized_left form names lefts (fault.Stuck why lines run) old new (inl read) = (let other = read.0.1 in absurd (cc))
sized_left form names lefts (fault.Stuck why lines run) old new (inr (inl judged)) = sized judged.0.told run judged.0.is.whole
sized_left form names lefts (fault.Stuck why lines run) old new (inr (inr (inl refused))) = (let other = refused.0 in absurd (cc))
sized_left form names lefts (fault.Stuck why lines run) old new (inr (inr (inr wrote))) = (let other = wrote.0 in absurd (cc))
sized_left form names lefts (fault.Text why) old new ends = tt
sized_left form names lefts fault.Nothing old new ends = tt
sized_left form names lefts fault.Write old new ends = tt
sized_left form names lefts fault.Memory old new ends = tt

pub read_as : (lefts : List (Option Text)) (told : Told) (so : Told → Type 0) → AreRead 1 blank lefts told → so told → IsReadAs lefts so
read_as lefts told so read p = record { told = told; read = read; is = p }

pub ends_reading : (form : Form) (names : List (String Global)) (lefts : List (Option Text)) (of_text : TextFault) (why : AuditFault) (old : Option Text) → Keeps old old
    → (why ≡ fault.Memory) ⊎ (why ≡ fault.Text of_text) → IsOwn of_text.cause ⊎ IsUnreadAmong 1 blank lefts of_text → EndsBy form names lefts why old old
ends_reading form names lefts of_text why old keeps (inl memory) so = inr (inr (inl (memory, keeps)))
ends_reading form names lefts of_text why old keeps (inr is) so = inl ((of_text, is, so), keeps)

pub ends_judging : (form : Form) (names : List (String Global)) (lefts : List (Option Text)) (told : Told) (why : AuditFault) (old : Option Text) → Keeps old old
    → AreRead 1 blank lefts told → IsNoRun form names told why → EndsBy form names lefts why old old
ends_judging form names lefts told why old keeps read none = inr (inl (read_as lefts told (λ t. IsNoRun form names t why) read none, keeps))

pub ends_writing : (form : Form) (names : List (String Global)) (lefts : List (Option Text)) (told : Told) (run : AuditedRun) (text : Text) (old new : Option Text)
    → AreRead 1 blank lefts told → IsToldAs told run → text ≡ shown_text form told run → AppendsPrefix old new text → EndsBy form names lefts fault.Write old new
ends_writing form names lefts told run text old new read is same part =
    inr (inr (inr (
      refl,
      run,
      read_as lefts told (λ t. IsToldAs t run × AppendsPrefix old new (shown_text form t run)) read
          (is, subst (λ (t : Text). AppendsPrefix old new t) same part),
    )))

pub shown_as : (form : Form) (lefts : List (Option Text)) (told : Told) (run : AuditedRun) (text : Text) (old new : Option Text)
    → AreRead 1 blank lefts told → IsToldAs told run → text ≡ shown_text form told run → Appends old new text → IsShownAs form lefts old new run
unfolding read_as
shown_as form lefts told run text old new read is same written = record {
  shown = read_as lefts told (λ t. IsToldAs t run) read is;
  written = subst (λ (t : Text). Appends old new t) same written;
}

-- what is shown of some net and events is shown whole
pub shown_whole : (form : Form) (lefts : List (Option Text)) (run : AuditedRun) (old new : Option Text) → IsShownAs form lefts old new run
    → IsShownWhole form lefts old new
unfolding read_as
shown_whole form lefts run old new s =
    record { shown = read_as lefts s.shown.told IsSafelyTold s.shown.read (record { run = run; is = s.shown.is }); written = s.written }
