use Rattle.abt_entry.proofs.Adding.{adds_both}
use Rattle.abt_json.proofs.Closing.{kind_last}
use Rattle.abt_json.proofs.report.push_conn_object.Goals as goal

pub returns : goal.returns
returns c =
    kind_last c.end.result _ _ _ _ _ _ _ _ c.in_ok-object.ensures c.in_ok-push_number.ensures
    (adds_both _ _ _ _ _ c.in_ok-push_rate.ensures c.in_ok-push_held.ensures) c.end.ensures
