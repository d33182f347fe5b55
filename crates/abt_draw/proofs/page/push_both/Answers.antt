-- The picture is held between what stands round it, and the words behind it.
use Rattle.std.proofs.Common.{codes, string_bytes}
use Rattle.std.proofs.lemmas.Result.{on_ok_weaker}
use Rattle.abt_draw.specs.Escapes.{escaped}
use Rattle.abt_draw.proofs.Paged.{holds_between, holds_words}
use Rattle.abt_draw.proofs.Within.{grows_by, holds_still}
use Rattle.abt_draw.proofs.page.push_both.Goals as goal

pub returns-clause-picture : goal.returns-clause-picture
returns-clause-picture c = on_ok_weaker c.write-2.result
    (λ is. holds_still _ _ _ (grows_by _ _ _ is)
    (holds_between (string_bytes c.args.out.now) (string_bytes c.write.new.self) (codes "<div class='both'>\n<div class='picture'>\n") c.args.picture.now
    (codes "</div>\n<aside id='held' aria-label='What is held'></aside>\n</div>\n<h2>The whole run in words</h2>\n") c.in_ok-write.ensures.bytes))
    c.write-2.ensures.bytes

pub returns-clause-words : goal.returns-clause-words
returns-clause-words c = on_ok_weaker c.write-2.result
    (λ is. holds_words (string_bytes c.write.new.self) (string_bytes c.write-2.new.self) (escaped c.args.explanation.now) (rw c.in_ok-text.ensures.value at is))
    c.write-2.ensures.bytes
