use Rattle.abt_serving.proofs.Following.{replies_lead}
use Rattle.abt_serving.proofs.laws.replies_lead_on.Goals as goal

pub returns : goal.returns
returns c = replies_lead
