-- A text that isn't UTF-8.
use Rattle.std.proofs.Common.{◌≡◌, ◌≤◌, length, arith}
use Rattle.std.specs.Prelude.{IfSome}
use Rattle.abt_text.specs.Streams.{text_max}
use Rattle.abt_check.specs.declared.unread.Unread.TheVariants.{NotUtf8}
use Rattle.abt_check.proofs.Saying.{not_text, unread_said}
use Rattle.abt_check.proofs.named.check_named.Goals as goal

pub returns-clause-ok : goal.returns-clause-ok
returns-clause-ok g c =
    let left = g.R.Read.remaining c.args.reader.now in
    let same : IfSome left (λ source. c.as_slice.result.now ≡ source) = rw c.as_slice.ensures.value c.in-Ok.ensures.ok in
    let short : length c.as_slice.result.now ≤ text_max = omega (arith, c.as_slice.ensures.len, c.in-Ok.ensures.limit) in
    unread_said c.args.form c.args.number c.args.name.now left NotUtf8 c.text_unread-in-Err.result c.text_unread-in-Err.ensures
    (not_text left c.as_slice.result.now same short c.in-Err.ensures.cases.0)
