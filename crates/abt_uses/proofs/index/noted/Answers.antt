-- The log is that of the one fact.
use Rattle.std.proofs.Common.{◌≡◌, ℕ, [], ◌∷◌, Some, sym, ◌∙◌, arith}
use Rattle.std.proofs.lemmas.Grind.{common_steps}
use Rattle.abt_facts.specs.declared.fact.Fact.{Fact}
use Rattle.abt_facts.specs.declared.fact.Fact.TheVariants.{Asked}
use Rattle.abt_index.specs.Index.{noted as index_noted, empty}
use Rattle.abt_index.specs.Kept.{asked_in}
use Rattle.abt_uses.proofs.index.noted.Goals as goal

asked_alone : (s floor ask mark t : ℕ) → s ≡ t → asked_in (Asked s floor ask mark ∷ []) t ≡ Some (floor, ask)
asked_alone s floor ask mark t same = grind (arith, common_steps)

pub returns : goal.returns
returns c =
    let fact : Fact = Asked c.seq.result c.floor.result c.ask.result 0 in
    let noted : c.note.new.self.index ≡ index_noted fact empty = grind (arith, common_steps, c.note.ensures.index tt) in
    let found = c.asked.ensures.value (fact ∷ []) noted in
    let same : c.seq.result ≡ c.seq-2.result = c.seq.ensures.value ∙ sym c.seq-2.ensures.value in
    let alone = asked_alone c.seq.result c.floor.result c.ask.result 0 c.seq-2.result same in
    cc
