use Rattle.std.proofs.Common.{◌∙◌, ap}
use Rattle.abt_entry.proofs.Adding.{adds_last}
use Rattle.abt_format.specs.EventText.{event_text}
use Rattle.abt_text.specs.Text.{◌⋅◌}
use Rattle.abt_json.proofs.explain.push_lies.Goals as goal

pub returns : goal.returns
returns c =
    let said = c.as_str.ensures.value ∙ c.in_ok-push_event.ensures ∙ ap (λ t. t ⋅ event_text c.args.next.now) c.new-said.ensures.bytes in
    rw (← c.from.ensures, ← said) (adds_last c.push_text.result _ _ _ _ _ c.in_ok-push_number.ensures c.push_text.ensures)
