-- What each step leaves is what is said of the run that was given.
use Rattle.std.proofs.Common.{◌∙◌}
use Rattle.abt_perform_threads.specs.Judging.{journals_of}
use Rattle.abt_perform_threads.proofs.Woven.{only_memory}
use Rattle.abt_perform_threads.proofs.Lines.{all_lines, cut_verdict, is_judged, untraced, if_err-from}
use Rattle.abt_perform_threads.proofs.showing.show.Goals as goal

pub returns-in_err-judged-clause-err : goal.returns-in_err-judged-clause-err
returns-in_err-judged-clause-err g c =
    let ran = c.args.ran.now in
    let woven = rw c.as_slice.ensures.value at c.in_ok-events.ensures.ok in
    let shows = untraced ran c.in_ok-events.events _ _ _ woven c.in_ok-put.ensures.ok c.in_ok-put-2.ensures.ok in
    if_err-from c.from_residual-in_err-judged.result _ _ (λ fault is. rw is shows) c.from_residual-in_err-judged.ensures.1

pub returns-in_err-put-3-clause-err : goal.returns-in_err-put-3-clause-err
returns-in_err-put-3-clause-err g c =
    let ran = c.args.ran.now in
    let woven = rw c.as_slice.ensures.value at c.in_ok-events.ensures.ok in
    let judged = c.in_ok-judged.judged in
    let is = is_judged ran.net ran.gathered c.in_ok-events.events judged woven c.in_ok-judged.ensures in
    let shows = cut_verdict ran judged _ _ _ _ _ is (c.as_bytes.ensures.value ∙ c.safe_line.ensures) c.in_ok-put.ensures.ok c.in_ok-put-2.ensures.ok c.in_err-put-3.ensures.err in
    if_err-from c.from_residual-in_err-put-3.result _ _ (λ fault is. rw is shows) c.from_residual-in_err-put-3.ensures.1

pub returns-clause-ok : goal.returns-clause-ok
returns-clause-ok g c =
    let ran = c.args.ran.now in
    let woven = rw c.as_slice.ensures.value at c.in_ok-events.ensures.ok in
    let judged = c.in_ok-judged.judged in
    let is = is_judged ran.net ran.gathered c.in_ok-events.events judged woven c.in_ok-judged.ensures in
    all_lines ran judged _ _ _ _ _ is (c.as_bytes.ensures.value ∙ c.safe_line.ensures) c.in_ok-put.ensures.ok c.in_ok-put-2.ensures.ok c.in_ok-put-3.ensures.ok

pub returns-in_err-events-clause-err : goal.returns-in_err-events-clause-err
returns-in_err-events-clause-err g c =
    let ran = c.args.ran.now in
    let journals = journals_of ran.gathered in
    let only = only_memory ran.net journals c.in_err-events.field-0.0 c.requires.woven (rw c.as_slice.ensures.value at c.in_err-events.ensures.none) in
    if_err-from c.from_residual-in_err-events.result _ _ (λ fault is. rw is (only, c.in_ok-put.ensures.ok)) c.from_residual-in_err-events.ensures.1
