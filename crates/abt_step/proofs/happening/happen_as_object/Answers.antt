-- The event happened, and its answer is told.
use Rattle.std.proofs.Common.{◌+◌, ◌++◌, [], ◌∷◌, ◌∙◌, ap, length}
use Rattle.std.specs.Prelude.{string_bytes}
use Rattle.abt_model.specs.Outcomes.{outcome_of}
use Rattle.abt_model.specs.Run.{facts_after}
use Rattle.abt_reason.specs.Grounds.{grounds_of}
use Rattle.abt_step.specs.AnswerObjects.{event_object}
use Rattle.abt_step.proofs.Stepping.{on_all, on_ok}
use Rattle.abt_step.proofs.happening.happen_as_object.Goals as goal

pub returns-clause-says : goal.returns-clause-says
returns-clause-says c = λ net opening events works is.
    let event = c.args.event.now in
    let past = facts_after net events in
    let old = string_bytes c.args.text.now in
    let grounds = c.grounds-grounds.result in
    let reply = c.in_ok-reply.reply in
    let shown = c.in_ok-shown.shown in
    let step = c.in_ok-reply.ensures net events works in
    on_ok c.push_event_object.result _ _ c.push_event_object.ensures
    (λ told. told ∙ ap (λ n. old ++ event_object n event grounds reply shown) is
    ∙ ap (λ g. old ++ event_object (length events + 1) event g reply shown) (c.grounds-grounds.ensures net events works)
    ∙ ap (λ o. old ++ event_object (length events + 1) event (grounds_of net past event) o shown) step.0
    ∙ ap (λ state. old ++ event_object (length events + 1) event (grounds_of net past event) (outcome_of net past event) state)
    (c.in_ok-shown.ensures net (events ++ event ∷ []) step.1))

pub returns-clause-stands : goal.returns-clause-stands
returns-clause-stands c = λ net events works. on_all c.push_event_object.result _ ((c.in_ok-reply.ensures net events works).1)
