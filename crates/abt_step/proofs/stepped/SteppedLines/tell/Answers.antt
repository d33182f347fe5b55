-- The answer has its form.
use Rattle.std.proofs.Common.{◌++◌, ◌∙◌, ap, sym}
use Rattle.std.specs.Prelude.{string_bytes}
use Rattle.abt_plans.specs.declared.answer_form.AnswerForm.{AnswerForm}
use Rattle.abt_step.specs.declared.asked.Asked.TheVariants as asks
use Rattle.abt_step.proofs.Stepping.{as_object, in_words, on_ok}
use Rattle.abt_step.proofs.stepped.SteppedLines.tell.Goals as goal

pub returns-then-self : goal.returns-then-self
returns-then-self c = λ form net opening events stands.
    let old = string_bytes c.args.text.now in
    on_ok c.tell_as_object.result _ _ (c.tell_as_object.ensures net events stands.works)
    (λ told. told ∙ ap (λ t. old ++ t)
    (as_object form net opening events (asks.Tell c.args.query) (sym (ap (λ (f : AnswerForm). f.json) stands.form_is) ∙ c.if-self.true)))

pub returns-else-self : goal.returns-else-self
returns-else-self c = λ form net opening events stands.
    let old = string_bytes c.args.text.now in
    on_ok c.tell_in_words.result _ _ (c.tell_in_words.ensures net events stands.works)
    (λ told. told ∙ ap (λ t. old ++ t)
    (in_words form net opening events (asks.Tell c.args.query) (sym (ap (λ (f : AnswerForm). f.json) stands.form_is) ∙ c.if-self.false)))
