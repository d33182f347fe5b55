-- The lines are told after the events of the part that was woven.
use Rattle.std.proofs.Common.{◌≡◌, ◌∙◌, ap, List}
use Rattle.abt_model.specs.Run.{facts_after}
use Rattle.abt_model.specs.declared.event.Event.{Event}
use Rattle.abt_audit.specs.Waits.{IsWaitingText, waiting_texts}
use Rattle.abt_audit.proofs.Whys.{if_ok}
use Rattle.abt_audit.proofs.unordered.waiting_text.Goals as goal

pub returns : goal.returns
returns c =
    let names = c.args.names.now in
    let run = c.args.run.now in
    let all = c.args.all.now in
    if_ok c.waiting_texts.result (λ text. text.items ≡ waiting_texts c.args.form names run (facts_after run.net c.as_slice.result.now) all)
    (λ text. IsWaitingText c.args.form names run all text.items)
    (λ text is. record {
      part = c.in_ok-part.part;
      is_part = c.in_ok-part.ensures.ok;
      are = is ∙ ap (λ (events : List Event). waiting_texts c.args.form names run (facts_after run.net events) all) c.as_slice.ensures;
    }) c.waiting_texts.ensures
