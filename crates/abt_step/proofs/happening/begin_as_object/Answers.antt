-- What is shown behind the opening is told.
use Rattle.std.proofs.Common.{◌++◌, ◌∙◌, ap}
use Rattle.std.specs.Prelude.{string_bytes}
use Rattle.abt_step.specs.AnswerObjects.{reset_object}
use Rattle.abt_step.proofs.Stepping.{on_ok}
use Rattle.abt_step.proofs.happening.begin_as_object.Goals as goal

pub returns : goal.returns
returns c = λ net opening events works.
    on_ok c.push_reset_object.result _ _ c.push_reset_object.ensures
    (λ told. told ∙ ap (λ state. string_bytes c.args.text.now ++ reset_object state) (c.in_ok-shown.ensures net opening works))
