use Rattle.std.proofs.Common.{arith, ap, sym, ◌∙◌, subst}
use Rattle.abt_node.specs.Reservation.{held_by}
use Rattle.abt_c.specs.Tables.{IsUnknown, chain_of}
use Rattle.abt_c.proofs.TableLemmas.{HasRoom, table_with_row}
use Rattle.abt_c.proofs.ArrivalLemmas.{table_policed}
use Rattle.abt_c.proofs.table_state.AbtTable.insert.Goals as goal

pub returns-clause-state : goal.returns-clause-state
returns-clause-state c is unknown =
    let room : HasRoom c.args.self.now = record { rows = omega arith; before = omega arith; last = omega arith } in
    table_policed _ _ (table_with_row c.args.self.now c.first.result c.chain_of-chain.result is room c.requires.room (c.chain_of-chain.ensures.value ∙ ap chain_of (sym c.first.ensures.vc)) c.chain_of-chain.ensures.within
    c.first.ensures.state (ap held_by c.first.ensures.value) (subst (IsUnknown c.args.self.now) (sym c.first.ensures.vc) unknown))
