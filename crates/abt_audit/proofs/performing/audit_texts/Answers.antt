-- The texts are read, and what they tell is judged.
use Rattle.std.proofs.Common.{◌∙◌}
use Rattle.std.proofs.KnownBytes.{Keeps-refl}
use Rattle.abt_audit.proofs.Judged.{ends_reading, ends_judging, ends_writing, shown_as}
use Rattle.abt_audit.proofs.performing.audit_texts.Goals as goal

pub returns-in-Err-clause-err : goal.returns-in-Err-clause-err
returns-in-Err-clause-err g c = ends_reading _ _ _ c.in-Err.fault c.fault_of_text.result _ (Keeps-refl _) c.fault_of_text.ensures.either c.in-Err.ensures.err

pub returns-in-Err-judge_book-clause-err : goal.returns-in-Err-judge_book-clause-err
returns-in-Err-judge_book-clause-err g c =
    ends_judging _ _ _ c.in-Ok.book c.in-Err-judge_book.fault _ (Keeps-refl _) c.in-Ok.ensures.ok c.in-Err-judge_book.ensures.err

pub returns-in-Ok-put-clause-ok : goal.returns-in-Ok-put-clause-ok
returns-in-Ok-put-clause-ok g c =
    shown_as _ _ c.in-Ok.book c.in-Ok-judge_book.judged.0 _ _ _ c.in-Ok.ensures.ok c.in-Ok-judge_book.ensures.ok.0 (c.as_slice.ensures.value ∙ c.in-Ok-judge_book.ensures.ok.1) c.in-Ok-put.ensures.ok

pub returns-in-Err-put-clause-err : goal.returns-in-Err-put-clause-err
returns-in-Err-put-clause-err g c =
    ends_writing c.args.form c.args.names.now _ c.in-Ok.book c.in-Ok-judge_book.judged.0 _ _ _ c.in-Ok.ensures.ok c.in-Ok-judge_book.ensures.ok.0 (c.as_slice.ensures.value ∙ c.in-Ok-judge_book.ensures.ok.1) c.in-Err-put.ensures.err
