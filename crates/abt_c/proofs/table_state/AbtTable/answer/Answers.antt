use Rattle.std.proofs.Common.{sym, subst, ◌≡◌, ℕ, Some}
use Rattle.abt_cell.specs.Channel.{Channel}
use Rattle.abt_node.specs.Reservation.{answer_of}
use Rattle.abt_c.specs.Ports.{reservation_in}
use Rattle.abt_c.specs.Tables.{IsRowOf, row_of}
use Rattle.abt_c.specs.declared.table_state.Found.{Found}
use Rattle.abt_c.specs.declared.table_state.Found.TheVariants.{Row}
use Rattle.abt_c.proofs.table_state.AbtTable.answer.Goals as goal

pub answer_at-requires-clause-row : goal.answer_at-requires-clause-row
answer_at-requires-clause-row c =
    subst (λ (vc : Channel). IsRowOf c.args.self.now vc c.in-Row.row) c.vc.ensures c.in-Row.ensures.row

pub returns-in-Row-clause-value : goal.returns-in-Row-clause-value
returns-in-Row-clause-value c is i has =
    let found : ◌≡◌ {A = Found} (Row c.in-Row.row) (Row i) = c.in-Row.ensures.only is i (subst (λ (vc : Channel). IsRowOf c.args.self.now vc i) (sym c.vc.ensures) has) in
    let same : c.in-Row.row ≡ i = cc in
    subst
    (λ (k : ℕ). (c.answer_at.result ≡ Some (answer_of (reservation_in (row_of c.args.self.now.rows k)) c.args.answer.now).0)
    × (reservation_in (row_of c.answer_at.new.self.rows k) ≡ (answer_of (reservation_in (row_of c.args.self.now.rows k)) c.args.answer.now).1))
    same (c.answer_at.ensures.value is)
