use Rattle.std.proofs.Common.{◌∙◌, sym, ap}
use Rattle.std.specs.Prelude.{ℕ, false, nat_le}
use Rattle.std.specs.Option.{option_map, option_map_or}
use Rattle.abt_index.specs.declared.fact_index.Arrival.{Arrival}
use Rattle.abt_index.specs.Index.{Index}
use Rattle.abt_index.specs.FactIndex.{LogView}
use Rattle.abt_index.proofs.Indexed.{behind_is}
use Rattle.abt_index.proofs.fact_index.FactIndex.is_behind_last.Goals as goal

pub returns-in-Some : goal.returns-in-Some
returns-in-Some c facts is =
    let last = ap (λ (log : LogView). log.index.last) c.self.view_is ∙ ap (λ (index : Index). index.last) is in
    ap (λ last. option_map_or (λ (arrival : ℕ × ℕ). nat_le c.args.cell arrival.0) last false) (sym (ap (option_map (λ (arrival : Arrival). (arrival.cell, arrival.at))) c.in-Some.is) ∙ last) ∙ behind_is facts c.args.cell

pub returns-in-None : goal.returns-in-None
returns-in-None c facts is =
    let last = ap (λ (log : LogView). log.index.last) c.self.view_is ∙ ap (λ (index : Index). index.last) is in
    ap (λ last. option_map_or (λ (arrival : ℕ × ℕ). nat_le c.args.cell arrival.0) last false) (sym (ap (option_map (λ (arrival : Arrival). (arrival.cell, arrival.at))) c.in-None.is) ∙ last) ∙ behind_is facts c.args.cell
