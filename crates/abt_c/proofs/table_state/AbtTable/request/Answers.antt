use Rattle.std.proofs.Common.{sym, subst, ◌≡◌, ℕ, Some}
use Rattle.abt_cell.specs.Channel.{Channel}
use Rattle.abt_c.specs.Ports.{reservation_in, decision_at}
use Rattle.abt_c.specs.Tables.{IsRowOf, row_of}
use Rattle.abt_c.specs.declared.table_state.Found.{Found}
use Rattle.abt_c.specs.declared.table_state.Found.TheVariants.{Row}
use Rattle.abt_c.proofs.table_state.AbtTable.request.Goals as goal

pub request_at-requires-clause-row : goal.request_at-requires-clause-row
request_at-requires-clause-row c =
    subst (λ (vc : Channel). IsRowOf c.args.self.now vc c.in-Row.row) c.vc.ensures c.in-Row.ensures.row

pub returns-in-Row-clause-value : goal.returns-in-Row-clause-value
returns-in-Row-clause-value c is i has =
    let found : ◌≡◌ {A = Found} (Row c.in-Row.row) (Row i) = c.in-Row.ensures.only is i (subst (λ (vc : Channel). IsRowOf c.args.self.now vc i) (sym c.vc.ensures) has) in
    let same : c.in-Row.row ≡ i = cc in
    subst
    (λ (k : ℕ). (c.request_at.result ≡ Some (decision_at c.args.self.now.port (row_of c.args.self.now.rows k) c.args.request.now).0)
    × (reservation_in (row_of c.request_at.new.self.rows k) ≡ (decision_at c.args.self.now.port (row_of c.args.self.now.rows k) c.args.request.now).1))
    same (c.request_at.ensures.value is)
