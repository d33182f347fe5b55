-- What is shown of the log of one port or one source.
use Rattle.std.proofs.Common.{◌≡◌, ◌∙◌, ℕ, List, refl, sym, ap, subst}
use Rattle.std.specs.Prelude.{String}
use Rattle.std.specs.declared.alloc.Global.{Global}
use Rattle.abt_text.specs.Text.{Text, ◌⋅◌}
use Rattle.abt_weave.specs.declared.actor.Actor.{Actor}
use Rattle.abt_journal_text.specs.Books.{Told, IsToldRun}
use Rattle.abt_journal_text.specs.declared.run.Run.{Run}
use Rattle.abt_journal_text.specs.declared.spot.Spot.{Spot}
use Rattle.abt_derive.specs.Restarts.{IsRestarted}
use Rattle.abt_audit.specs.Findings.{notes_text}
use Rattle.abt_audit.specs.OneLog.{IsJudgedRun, IsLogVerdict, entries_judged}
use Rattle.abt_audit.specs.OneLogShown.{IsMismatchAt, IsNotObeyed, IsObeyed, obeyed_text}
use Rattle.abt_audit.specs.Settling.{IsSettledRun}
use Rattle.abt_audit.specs.declared.fault.AuditFault.{AuditFault}
use Rattle.abt_audit.specs.declared.fault.AuditFault.TheVariants as fault
use Rattle.abt_audit.specs.declared.form.Form.{Form}
use Rattle.abt_audit.specs.declared.one_log.LogVerdict.TheVariants.{Absent, Obeys, Differs}
use Rattle.abt_audit.specs.declared.one_log_fault.LogFault.TheVariants as log

pub judged : (told : Told) (read restarted run : Run) → IsToldRun told read → IsRestarted read restarted → IsSettledRun restarted run → IsJudgedRun told read run
judged told read restarted run r t s = record { is_read = r; restarted = restarted; is_restarted = t; is_settled = s }

-- the lines that are cut are those that were told
cuts_stay : (told : Told) (read run : Run) → IsJudgedRun told read run → run.cuts.items ≡ told.cuts
cuts_stay told read run j =
    ap (λ (one : Run). one.cuts.items) j.is_settled.same ∙ ap (λ (one : Run). one.cuts.items) j.is_restarted.same ∙ j.is_read.cuts

pub obeyed_so : (form : Form) (told : Told) (actor : Actor) (read run : Run) (count : ℕ) (shown : Text) → IsJudgedRun told read run → IsLogVerdict run actor Obeys
    → count ≡ entries_judged read actor → shown ≡ obeyed_text form actor count run.cuts.items → IsObeyed form told actor shown
obeyed_so form told actor read run count shown j obeys counts is = record {
  read = read;
  run = run;
  is_judged = j;
  obeys = obeys;
  is = is ∙ ap (λ (n : ℕ). obeyed_text form actor n run.cuts.items) counts ∙ ap (obeyed_text form actor (entries_judged read actor)) (cuts_stay told read run j);
}

pub absent_so : (form : Form) (names : List (String Global)) (told : Told) (actor : Actor) (read run : Run) → IsJudgedRun told read run → IsLogVerdict run actor Absent
    → IsNotObeyed form names told actor (log.Absent actor)
absent_so form names told actor read run j absent = (refl, record { read = read; run = run; is_judged = j; absent = absent })

pub differs_so : (form : Form) (names : List (String Global)) (told : Told) (actor : Actor) (read run : Run) (place : ℕ) (why : AuditFault) → IsJudgedRun told read run
    → IsLogVerdict run actor (Differs place) → IsMismatchAt form names actor place run why → IsNotObeyed form names told actor (log.Audit why)
differs_so form names told actor read run place (fault.Stuck why lines left) j differs is = record {
  read = read;
  is_judged = subst (IsJudgedRun told read) (sym is.0) j;
  place = place;
  differs = subst (λ (one : Run). IsLogVerdict one actor (Differs place)) (sym is.0) differs;
  names_it = is.1;
  text = is.2;
  is_text = is.3;
  are = is.4 ∙ ap (λ (cuts : List Spot). is.2 ⋅ notes_text form cuts)
      (ap (λ (one : Run). one.cuts.items) is.0 ∙ cuts_stay told read run j);
}
differs_so form names told actor read run place (fault.Text why) j differs is = absurd (cc)
differs_so form names told actor read run place fault.Nothing j differs is = absurd (cc)
differs_so form names told actor read run place fault.Write j differs is = absurd (cc)
differs_so form names told actor read run place fault.Memory j differs is = tt
