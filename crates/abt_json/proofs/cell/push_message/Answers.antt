use Rattle.abt_entry.proofs.Adding.{adds_last}
use Rattle.abt_json.proofs.cell.push_message.Goals as goal

pub returns : goal.returns
returns c =
    rw (← c.message_name.ensures, ← c.request.ensures) (adds_last c.push_terms.result _ _ _ _ _ c.in_ok-push_text.ensures c.push_terms.ensures)
