use Rattle.abt_parts.proofs.Closing.{closed}
use Rattle.abt_parts.proofs.read_objects.push_message_object.Goals as goal

pub returns : goal.returns
returns c = closed c.end_line.result _ _ _ _ _ _ _ c.in_ok-object.ensures c.in_ok-push_message.ensures c.end_line.ensures
