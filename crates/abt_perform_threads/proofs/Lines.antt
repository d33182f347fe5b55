-- Lines that go out one after the other.
use Rattle.std.proofs.Common.{◌≡◌, ℕ, List, [], Option, Result, Ok, Err, IfErr, IsErrAnd, take, sym, subst, inr}
use Rattle.std.proofs.KnownBytes.{Appends-trans}
use Rattle.std.specs.Io.KnownBytes.{Appends}
use Rattle.abt_text.specs.Streams.{AppendsPrefix}
use Rattle.abt_net.specs.Topology.{Topology}
use Rattle.abt_model.specs.declared.event.Event.{Event}
use Rattle.abt_model.specs.Traces.{IsTrace}
use Rattle.abt_links.specs.declared.gathered.Gathered.{Gathered}
use Rattle.abt_weave.specs.Woven.{IsWoven}
use Rattle.abt_perform_threads.specs.Judging.{IsJudged, IsVerdict}
use Rattle.abt_perform_threads.specs.Shown.{BreaksOff, ShowsAll, ShowsUntil, gathered_line, woven_line}
use Rattle.abt_format.specs.Report.{safe_line}
use Rattle.abt_perform_threads.specs.declared.judging.Judged.{Judged}
use Rattle.abt_perform_threads.specs.declared.ran.Ran.{Ran}
use Rattle.abt_perform_threads.specs.declared.showing.ShowFault.TheVariants.{Trace, Write}

-- the first line breaks off
pub breaks_off : (a b : Option (List ℕ)) (line : List ℕ) → AppendsPrefix a b line → BreaksOff [] line a b
breaks_off a b line p = record { count = p.count; short = p.short; front = p.front }

-- a line breaks off behind others
pub breaks_off_after : (a b c : Option (List ℕ)) (before line : List ℕ) → Appends a b before → AppendsPrefix b c line → BreaksOff before line a c
breaks_off_after a b c before line first p = record {
  count = p.count;
  short = p.short;
  front = Appends-trans a b c before (take p.count line) first p.front;
}

-- what is said of the events that were woven, and of their trace
pub is_judged : (net : Topology) (run : Gathered) (events : List Event) (judged : Judged)
    → IsWoven net run.journals run.sources.items events → IsVerdict net events judged → IsJudged net run judged
is_judged net run events judged woven verdict = record {
  are_woven = subst (IsWoven net run.journals run.sources.items) (sym verdict.are_events) woven;
  is_trace = subst (λ (these : List Event). IsTrace net these judged.trace) (sym verdict.are_events) verdict.is_trace;
  is_safe = verdict.is_safe;
}

-- two lines, and then the last one, or a part of it
pub all_lines : (ran : Ran) (judged : Judged) (line : List ℕ) (a b c d : Option (List ℕ)) → IsJudged ran.net ran.gathered judged
    → line ≡ safe_line judged.trace.safe → Appends a b gathered_line → Appends b c woven_line → Appends c d line → ShowsAll ran judged a d
all_lines ran judged line a b c d is word first second third = record {
  is_judged = is;
  lines = Appends-trans a b d gathered_line _ first (Appends-trans b c d woven_line _ second (subst (Appends c d) word third));
}

pub cut_verdict : (ran : Ran) (judged : Judged) (line : List ℕ) (a b c d : Option (List ℕ)) → IsJudged ran.net ran.gathered judged
    → line ≡ safe_line judged.trace.safe → Appends a b gathered_line → Appends b c woven_line → AppendsPrefix c d line → ShowsUntil ran Write a d
cut_verdict ran judged line a b c d is word first second third = inr (inr (record {
  judged = judged;
  is_judged = is;
  part = breaks_off_after a c d _ (safe_line judged.trace.safe) (Appends-trans a b c gathered_line woven_line first second)
      (subst (AppendsPrefix c d) word third);
}))

pub untraced : (ran : Ran) (events : List Event) (a b c : Option (List ℕ)) → IsWoven ran.net ran.gathered.journals ran.gathered.sources.items events
    → Appends a b gathered_line → Appends b c woven_line → ShowsUntil ran Trace a c
untraced ran events a b c woven first second =
    (record { events = events; are_woven = woven }, Appends-trans a b c gathered_line woven_line first second)

-- an error that has a known property
pub if_err-from : {T E : Type 0} (r : Result T E) (P Q : E → Type 0) → ((y : E) → P y → Q y) → IsErrAnd r P → IfErr r Q
if_err-from (Ok x) P Q f p = absurd p
if_err-from (Err y) P Q f p = f y p
