use Rattle.abt_entry.proofs.Adding.{adds_last}
use Rattle.abt_json.proofs.cell.push_terms.Goals as goal

pub returns : goal.returns
returns c = rw (← c.vc.ensures) (adds_last c.push_request.result _ _ _ _ _ c.in_ok-push_channel.ensures c.push_request.ensures)
