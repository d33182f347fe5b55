use Rattle.abt_json.proofs.Closing.{kind_line}
use Rattle.abt_entry.proofs.Adding.{adds_both}
use Rattle.abt_step.proofs.objects.push_event_object.Goals as goal

pub returns : goal.returns
returns c = kind_line c.end_line.result _ _ _ _ _ _ c.in_ok-object.ensures (adds_both _ _ _ _ _ c.in_ok-push_event_members.ensures c.in_ok-push_shown.ensures)
    c.end_line.ensures
