-- What is shown behind the opening is told.
use Rattle.std.proofs.Common.{◌++◌, ◌∙◌, ap, append_assoc}
use Rattle.std.specs.Prelude.{codes, string_bytes}
use Rattle.abt_step.specs.AnswerLines.{shown_lines}
use Rattle.abt_step.specs.Stepped.{shown_after}
use Rattle.abt_step.proofs.Stepping.{on_ok}
use Rattle.abt_step.proofs.happening.begin_in_words.Goals as goal

pub returns : goal.returns
returns c = λ net opening events works.
    let shown = shown_lines (shown_after c.args.form net opening) in
    on_ok c.push_shown_lines.result _ _ (c.push_shown_lines.ensures net opening works)
    (λ told. told ∙ ap (λ t. t ++ shown) c.in_ok-push_str.ensures.bytes ∙ append_assoc (string_bytes c.args.text.now) (codes "reset\n") shown)
