use Rattle.abt_laws.proofs.Holdings.{every_nothing_older, every_request_sets, every_no_leaves}
use Rattle.abt_laws.proofs.Staying.{every_hold_stays}
use Rattle.abt_laws.proofs.holds.holds_stay_until_a_request_or_a_no.Goals as goal

pub returns : goal.returns
returns c = record { newest = every_nothing_older; same = every_hold_stays; request = every_request_sets; no = every_no_leaves }
