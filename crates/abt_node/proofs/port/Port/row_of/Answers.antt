use Rattle.std.proofs.Common.{◌≡◌, Some, None, Bor, get_or, sym, ap, ◌∙◌, rules}
use Rattle.std.specs.Option.{option_map}
use Rattle.abt_node.specs.Rows.{IsPlaceOf, connection_of}
use Rattle.abt_node.specs.Table.{connection_at}
use Rattle.abt_node.specs.declared.row.Row.{Row}
use Rattle.abt_node.proofs.RowsLemmas.{get-IsPlaceOf-Some, get-IsPlaceOf-None}
use Rattle.abt_node.proofs.port.Port.row_of.Goals as goal

pub returns-in_err-place : goal.returns-in_err-place
returns-in_err-place c =
    let rows = c.self.inside.rows.items in
    let place : IsPlaceOf rows c.args.vc None = search rules in
    ap (option_map (λ (row : Bor Row). connection_of row.now)) c.from_residual.ensures
    ∙ sym (get-IsPlaceOf-None rows c.args.vc place) ∙ ap (λ t. connection_at t c.args.vc) c.self.view_is

pub returns : goal.returns
returns c =
    let rows = c.self.inside.rows.items in
    let place : IsPlaceOf rows c.args.vc (Some c.in_ok-place.place) = search rules in
    let there : c.index.result.now ≡ get_or rows c.in_ok-place.place c.index.result.now = search rules in
    ap (λ (row : Row). Some (connection_of row)) there
    ∙ sym (get-IsPlaceOf-Some rows c.in_ok-place.place c.index.result.now c.args.vc c.self.invariant.kept.distinct place) ∙ ap (λ t. connection_at t c.args.vc) c.self.view_is
