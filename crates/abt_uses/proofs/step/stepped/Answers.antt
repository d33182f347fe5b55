-- By the law of its steps, a net says its dialogue.
use Rattle.std.proofs.Common.{◌≡◌, ◌∙◌, ◌++◌, ℕ, List, Option, ap, subst}
use Rattle.std.specs.Prelude.{None, Some, Result, Ok, Err, OnOk}
use Rattle.std.specs.Io.KnownBytes.{Appends}
use Rattle.abt_net.specs.Topology.{Topology}
use Rattle.abt_model.specs.declared.event.Event.{Event}
use Rattle.abt_lines.specs.Lines.{seen_lines}
use Rattle.abt_lines.specs.Runs.{AnswersAll}
use Rattle.abt_lines.specs.Served.{IsServed, ServesAll}
use Rattle.abt_step.specs.Stepped.{answers_to, dialogue, events_past_all}
use Rattle.abt_step.specs.Steps.{AnswersLines, EndsStepping, StandsAt, StepsLine}
use Rattle.abt_plans.specs.declared.answer_form.AnswerForm.{AnswerForm}
use Rattle.abt_step.specs.declared.stepped.SteppedLines.{SteppedLines}
use Rattle.abt_uses.proofs.step.stepped.Goals as goal

all_said : AnswersLines → (form : AnswerForm) (net : Topology) (opening : List Event) (first last : SteppedLines) (lines : List (Option (List ℕ)))
    (text : List ℕ) → StandsAt form net opening opening first → AnswersAll StepsLine EndsStepping first 1 lines text last
    → text ≡ dialogue form net opening lines
all_said law form net opening first last lines text stands all =
    let said = law form net opening opening first last 1 lines all.answers stands all.runs in
    all.is ∙ ap (λ t. t ++ all.behind) said.0
    ∙ ap (λ t. answers_to form net opening opening lines ++ t) (all.ended form net opening (events_past_all opening opening lines) said.1)

served : AnswersLines → (form : AnswerForm) (net : Topology) (opening : List Event) (first last : SteppedLines) (left old new : Option (List ℕ))
    → StandsAt form net opening opening first → ServesAll StepsLine EndsStepping first last left old new
    → IsServed (λ source. dialogue form net opening (seen_lines source)) left old new
served law form net opening first last None old new stands all = tt
served law form net opening first last (Some source) old new stands (printed, went, all) =
    subst (Appends old new) (all_said law form net opening first last (seen_lines source) printed stands all) went

on_ok : {T E : Type 0} (r : Result T E) (P Q : Type 0) → OnOk r P → (P → Q) → OnOk r Q
on_ok (Ok x) P Q p f = f p
on_ok (Err e) P Q p f = tt

pub returns : goal.returns
returns g c = on_ok c.serve_lines.result _ _ c.serve_lines.ensures.ok
    (served c.a_net_is_stepped.ensures c.args.form c.args.net.now c.args.opening.now _ _ _ _ _ c.in_ok-lines.ensures)
