use Rattle.std.proofs.Common.{rules, arith, refl, subst, ◌≡◌, ◌<◌}
use Rattle.abt_cell.specs.Channel.{Channel}
use Rattle.abt_c.specs.Tables.{IsRowOf}
use Rattle.abt_c.proofs.table.abt_raw_table_add.Goals as goal

pub returns-in-Row-clause-known : goal.returns-in-Row-clause-known
returns-in-Row-clause-known c is =
    let within : c.args.vpi < 4096 = search rules in
    let vc : c.in-Some.vc ≡ record { vpi = c.args.vpi; vci = c.args.vci } = search rules in
    let row : IsRowOf c.args.table.now (record { vpi = c.args.vpi; vci = c.args.vci }) c.in-Row.field-0 = subst (λ (v : Channel). IsRowOf c.args.table.now v c.in-Row.field-0) vc c.in-Row.ensures.row in
    ((λ _. (within, λ unknown. unknown c.in-Row.field-0 row.0 row.1)), (λ _. refl))

pub returns-in-Row-clause-full : goal.returns-in-Row-clause-full
returns-in-Row-clause-full c is =
    let vc : c.in-Some.vc ≡ record { vpi = c.args.vpi; vci = c.args.vci } = search rules in
    let row : IsRowOf c.args.table.now (record { vpi = c.args.vpi; vci = c.args.vci }) c.in-Row.field-0 = subst (λ (v : Channel). IsRowOf c.args.table.now v c.in-Row.field-0) vc c.in-Row.ensures.row in
    ((λ wrong. absurd (omega arith)), (λ h. absurd (h.1 c.in-Row.field-0 row.0 row.1)))

pub returns-in-Row-clause-done : goal.returns-in-Row-clause-done
returns-in-Row-clause-done c is =
    let vc : c.in-Some.vc ≡ record { vpi = c.args.vpi; vci = c.args.vci } = search rules in
    let row : IsRowOf c.args.table.now (record { vpi = c.args.vpi; vci = c.args.vci }) c.in-Row.field-0 = subst (λ (v : Channel). IsRowOf c.args.table.now v c.in-Row.field-0) vc c.in-Row.ensures.row in
    ((λ wrong. absurd (omega arith)), (λ h. absurd (h.1 c.in-Row.field-0 row.0 row.1)))
