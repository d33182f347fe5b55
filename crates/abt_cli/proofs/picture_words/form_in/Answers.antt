use Rattle.std.proofs.Common.{◌≡◌, ◌∙◌, sym, refl, codes}
use Rattle.std.specs.Prelude.{Bool, true, false, if◌then◌else◌, Option, None, Some}
use Rattle.std.proofs.lemmas.Str.Pattern.{ends_text}
use Rattle.abt_plans.specs.declared.picture.PictureForm.{PictureForm}
use Rattle.abt_plans.specs.declared.picture.PictureForm.TheVariants as form
use Rattle.abt_cli.specs.Pictures.{ends_in}
use Rattle.abt_cli.proofs.picture_words.form_in.Goals as goal

none_of : (html svg text : Bool) → html ≡ false → svg ≡ false → text ≡ false
    → ◌≡◌ {A = Option PictureForm} None (if html then Some form.Page else if svg then Some form.Svg else if text then Some form.Text else None)
none_of html svg text no_html no_svg no_text = rw (no_html, no_svg, no_text) refl

pub returns-else-ends_with-3 : goal.returns-else-ends_with-3
returns-else-ends_with-3 c = none_of (ends_in c.args.file.now (codes ".html")) (ends_in c.args.file.now (codes ".svg")) (ends_in c.args.file.now (codes ".txt"))
    (sym (ends_text c.ends_with.result (codes ".html") c.args.file.now c.ends_with.ensures.cases) ∙ c.if-ends_with.false)
    (sym (ends_text c.ends_with-else-ends_with.result (codes ".svg") c.args.file.now c.ends_with-else-ends_with.ensures.cases) ∙ c.if-ends_with-2.false)
    (sym (ends_text c.ends_with-else-ends_with-2.result (codes ".txt") c.args.file.now c.ends_with-else-ends_with-2.ensures.cases) ∙ c.if-ends_with-3.false)
