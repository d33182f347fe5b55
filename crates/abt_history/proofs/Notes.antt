-- What was noted came behind what was seen.
use Rattle.std.proofs.Common.{ℕ, List, sym, subst}
use mathlib.Core.List.{IsPrefix}
use Rattle.abt_net.specs.Topology.{Topology}
use Rattle.abt_history.specs.declared.deed.Deed.{Deed}
use Rattle.abt_history.specs.Legal.{IsLegal, IsNoted, with_turns}
use Rattle.abt_history.proofs.Fronts.{prefix_trans}

pub noted_after : (net : Topology) (own seen new : List Deed) (key deeds : ℕ) (ask : Deed) → IsNoted net own seen new key deeds ask → IsPrefix own new × IsPrefix seen new
noted_after net own seen new key deeds ask noted =
    let last : IsPrefix noted.log new = (with_turns noted.next.turns noted.next.deed, sym noted.new_is) in
    (prefix_trans own noted.log new noted.mine last, prefix_trans seen noted.log new noted.theirs last)

pub noted_legal : (net : Topology) (own seen new : List Deed) (key deeds : ℕ) (ask : Deed) → IsNoted net own seen new key deeds ask → IsLegal net new
noted_legal net own seen new key deeds ask noted = subst (IsLegal net) (sym noted.new_is) noted.next.step.legal
