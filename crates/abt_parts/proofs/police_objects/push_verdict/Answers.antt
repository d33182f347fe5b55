use Rattle.abt_parts.proofs.Closing.{closed}
use Rattle.abt_parts.proofs.police_objects.push_verdict.Goals as goal

pub returns : goal.returns
returns c = closed c.end_line.result _ _ _ _ _ _ _ c.in_ok-object.ensures c.in_ok-push_verdict_members.ensures c.end_line.ensures
