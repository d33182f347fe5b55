use Rattle.abt_json.proofs.Closing.{kind_line}
use Rattle.abt_step.proofs.objects.push_possible_object.Goals as goal

pub returns : goal.returns
returns c = kind_line c.end_line.result _ _ _ _ _ _ c.in_ok-object.ensures c.in_ok-push_possible_members.ensures c.end_line.ensures
