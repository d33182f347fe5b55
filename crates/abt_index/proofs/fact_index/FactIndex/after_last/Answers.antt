use Rattle.std.proofs.Common.{◌≡◌, ◌+◌, ◌≤◌, List, [], ◌∷◌, ◌∙◌, sym, ap, refl, arith}
use Rattle.std.specs.Prelude.{ℕ, min}
use Rattle.std.specs.Option.{option_map, option_map_or}
use Rattle.abt_facts.specs.Cells.{after_last_of}
use Rattle.abt_facts.specs.declared.fact.Fact.{Fact as FactSpec}
use Rattle.abt_facts.specs.declared.fact.Fact.TheVariants.{Arrived}
use Rattle.abt_index.specs.declared.fact_index.Arrival.{Arrival}
use Rattle.abt_index.specs.Index.{Index, index_of}
use Rattle.abt_index.specs.FactIndex.{LogView}
use Rattle.abt_index.proofs.fact_index.FactIndex.after_last.Goals as goal

after_is : (facts : List FactSpec) → option_map_or (λ arrival. arrival.0 + 1) (index_of facts).last 0 ≡ after_last_of facts
after_is [] = refl
after_is (Arrived cell at rate verdict ∷ facts) = refl
after_is (fact ∷ facts) = after_is facts

pub returns-in-Some : goal.returns-in-Some
returns-in-Some c facts is low =
    let last = ap (λ (log : LogView). log.index.last) c.self.view_is ∙ ap (λ (index : Index). index.last) is in
    let known = ap (λ last. option_map_or (λ (arrival : ℕ × ℕ). arrival.0 + 1) last 0) (sym (ap (option_map (λ (arrival : Arrival). (arrival.cell, arrival.at))) c.in-Some.is) ∙ last) ∙ after_is facts in
    grind (arith, known, low, c.saturating_add.ensures)

pub returns-in-None : goal.returns-in-None
returns-in-None c facts is low =
    let last = ap (λ (log : LogView). log.index.last) c.self.view_is ∙ ap (λ (index : Index). index.last) is in
    ap (λ last. option_map_or (λ (arrival : ℕ × ℕ). arrival.0 + 1) last 0) (sym (ap (option_map (λ (arrival : Arrival). (arrival.cell, arrival.at))) c.in-None.is) ∙ last) ∙ after_is facts
