-- The picture and the words are held when the script was added.
use Rattle.std.proofs.Common.{string_bytes}
use Rattle.abt_draw.proofs.Paged.{page_made}
use Rattle.abt_draw.proofs.Within.{grows_by}
use Rattle.abt_draw.proofs.page.html_of.Goals as goal

pub returns : goal.returns
returns c = page_made c.args.sheet.now c.args.explanation.now (string_bytes c.in_ok-picture.picture) c.as_str-3.result.now (string_bytes c.push_both.new.out)
    (string_bytes c.write.new.self) c.as_str-3.ensures.value c.in_ok-picture.ensures c.in_ok-push_both.ensures.picture c.in_ok-push_both.ensures.words
    (grows_by _ _ _ c.in_ok-write.ensures.bytes)
