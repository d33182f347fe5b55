use Rattle.abt_weave.proofs.OneLaw.{ports_again, sources_again}
use Rattle.abt_weave.proofs.laws.own_entries_decide_what_happens.Goals as goal

pub returns : goal.returns
returns c = record { ports = ports_again; sources = sources_again }
