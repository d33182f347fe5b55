use Rattle.abt_audit.proofs.Tried.{each_way_is_tried, each_completion_is_tried}
use Rattle.abt_audit.proofs.laws.each_way_is_tried.Goals as goal

pub returns : goal.returns
returns c = record { settled = each_way_is_tried; completed = each_completion_is_tried }
