-- What was told has crashes put in, is settled, completed and judged.
use Rattle.std.proofs.Common.{◌∙◌, ℕ, List, length, ap, refl}
use Rattle.abt_text.specs.Text.{Text, ◌⋅◌}
use Rattle.abt_journal_text.specs.declared.spot.Spot.{Spot}
use Rattle.abt_audit.specs.Findings.{notes_text, woven_text}
use Rattle.abt_audit.proofs.Judged.{whole, sized, sources_stay, shown_so, stuck_so}
use Rattle.abt_audit.proofs.performing.judge_book.Goals as goal

pub audit-requires-clause-sources : goal.audit-requires-clause-sources
audit-requires-clause-sources c =
    let told = rw c.in-Some.is at c.in_ok-told.ensures in
    sources_stay c.args.book c.in_ok-run.run'
    (whole c.args.book c.in-Some.told c.in_ok-restarted.restarted c.in_ok-settled.settled c.in_ok-run.run' told c.in_ok-restarted.ensures
    c.in_ok-settled.ensures c.in_ok-run.ensures)

pub lines_of_fault-requires : goal.lines_of_fault-requires
lines_of_fault-requires c =
    let told = rw c.in-Some.is at c.in_ok-told.ensures in
    sized c.args.book c.in_ok-run.run'
    (whole c.args.book c.in-Some.told c.in_ok-restarted.restarted c.in_ok-settled.settled c.in_ok-run.run' told c.in_ok-restarted.ensures
    c.in_ok-settled.ensures c.in_ok-run.ensures)

pub returns-in_ok-shown-in-Ok-clause-ok : goal.returns-in_ok-shown-in-Ok-clause-ok
returns-in_ok-shown-in-Ok-clause-ok c =
    let run = c.in_ok-run.run' in
    let told = rw c.in-Some.is at c.in_ok-told.ensures in
    let w = whole c.args.book c.in-Some.told c.in_ok-restarted.restarted c.in_ok-settled.settled run told c.in_ok-restarted.ensures
    c.in_ok-settled.ensures c.in_ok-run.ensures in
    let front : Text = woven_text c.args.form (length c.in-Ok.audited.events) in
    let is =
    c.in_ok-shown-in-Ok.ensures ∙ ap (λ (n : ℕ). woven_text c.args.form n ⋅ notes_text c.args.form c.as_slice.result.now) c.len-count.ensures
    ∙ ap (λ (cuts : List Spot). front ⋅ notes_text c.args.form cuts) c.as_slice.ensures.value in
    (record { run = run; whole = w; net_is = refl; is_audited = c.in-Ok.ensures.ok }, shown_so c.args.form c.args.book run front c.in_ok-shown-in-Ok.shown.items w is)

pub returns-in-Ok-with_notes : goal.returns-in-Ok-with_notes
returns-in-Ok-with_notes c =
    let run = c.in_ok-run.run' in
    let names = c.args.names.now in
    let why = c.in-Err.fault in
    let told = rw c.in-Some.is at c.in_ok-told.ensures in
    let w = whole c.args.book c.in-Some.told c.in_ok-restarted.restarted c.in_ok-settled.settled run told c.in_ok-restarted.ensures
    c.in_ok-settled.ensures c.in_ok-run.ensures in
    let text = c.in-Ok-lines_of_fault.lines.items in
    let is =
    c.in-Ok-with_notes.ensures ∙ ap (λ (front : Text). front ⋅ notes_text c.args.form c.as_slice-in-Err-2.result.now) c.as_slice-in-Err.ensures.value
    ∙ ap (λ (cuts : List Spot). text ⋅ notes_text c.args.form cuts) c.as_slice-in-Err-2.ensures.value in
    record {
      ok = tt;
      err = stuck_so c.args.form names c.args.book run why text c.in-Ok-with_notes.lines.items w c.in-Err.ensures.err c.in-Err.ensures.none
          c.in-Ok-lines_of_fault.ensures is;
    }
