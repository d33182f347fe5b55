-- The net is safe.
use Rattle.std.proofs.Common.{◌∙◌, ap, sym}
use Rattle.std.specs.Prelude.{string_bytes}
use Rattle.abt_format.specs.Report.{safe_line}
use Rattle.abt_step.specs.AnswerObjects.{end_object}
use Rattle.abt_plans.specs.declared.answer_form.AnswerForm.{AnswerForm}
use Rattle.abt_step.proofs.Stepping.{ended, ending_line, ending_object, on_pushed}
use Rattle.abt_step.proofs.stepped.SteppedLinesLineServer.end.Goals as goal

pub returns-then-self : goal.returns-then-self
returns-then-self c =
    ended c.push_end_object.result _ _ _ c.args.self.now c.push_end_object.ensures c.requires
    (λ form net opening events stands. ap end_object (c.is_safe-is_safe.ensures.value net events stands.works)
    ∙ ending_object form _ (sym (ap (λ (f : AnswerForm). f.json) stands.form_is) ∙ c.if-self.true))

pub returns-else-self : goal.returns-else-self
returns-else-self c =
    ended c.push_str.result _ _ _ c.args.self.now (on_pushed c.push_str.result _ (string_bytes c.args.text.now) c.safe_line.result.now c.push_str.ensures.bytes) c.requires
    (λ form net opening events stands. c.safe_line.ensures ∙ ap safe_line (c.is_safe-is_safe.ensures.value net events stands.works)
    ∙ ending_line form _ (sym (ap (λ (f : AnswerForm). f.json) stands.form_is) ∙ c.if-self.false))
