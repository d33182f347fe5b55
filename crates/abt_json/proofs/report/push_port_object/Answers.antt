use Rattle.abt_entry.proofs.Adding.{adds_both}
use Rattle.abt_json.proofs.Closing.{kind_last}
use Rattle.abt_json.proofs.report.push_port_object.Goals as goal

pub returns : goal.returns
returns c =
    kind_last c.end.result _ _ _ _ _ _ _ _ c.in_ok-object.ensures c.in_ok-push_number.ensures
    (adds_both _ _ _ _ _ c.in_ok-push_exact.ensures c.in_ok-push_exact-2.ensures) c.end.ensures
