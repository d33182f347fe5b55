-- What is left of the block is left of all.
use Rattle.std.proofs.Common.{◌≡◌, ◌∙◌, sym, ap, arith, rules, List, [], get_or, slice_set, Vec}
use Rattle.std.proofs.lemmas.Grind.{common_steps}
use Rattle.std.specs.List.{remove}
use Rattle.abt_play.specs.UnderWay.{joined}
use Rattle.abt_play.proofs.Joined.{set_removed, get_joined, without_empty}
use Rattle.abt_play.proofs.blocks.taken.Goals as goal

pub returns-then-is_empty : goal.returns-then-is_empty
returns-then-is_empty c =
    let items = c.args.blocks.now.items in
    let block = c.index_mut.result.now in
    let within = c.requires.within block in
    let is = c.index_mut.ensures.value in
    let gone : c.index.result.now.items ≡ [] = grind (arith, common_steps) in record {
      there = get_joined (λ b. b.items) items c.args.block c.args.within block c.remove-parcel.result (search rules) within
          (c.remove-parcel.ensures.value ∙ ap (λ b. get_or b.items c.args.within c.remove-parcel.result) is);
      others = ap joined c.remove-empty.ensures.items
          ∙ without_empty (λ b. b.items) (slice_set items c.args.block c.remove-parcel.new.self) c.args.block c.index.result.now (search rules)
          (sym (ap (λ b. b.items) c.index.ensures) ∙ gone)
          ∙ set_removed (λ b. b.items) items c.args.block c.args.within block c.remove-parcel.new.self (search rules) within
          (c.remove-parcel.ensures.items ∙ ap (λ b. remove b.items c.args.within) is);
    }

pub returns-else-is_empty : goal.returns-else-is_empty
returns-else-is_empty c =
    let items = c.args.blocks.now.items in
    let block = c.index_mut.result.now in
    let within = c.requires.within block in
    let is = c.index_mut.ensures.value in record {
      there = get_joined (λ b. b.items) items c.args.block c.args.within block c.remove-parcel.result (search rules) within
          (c.remove-parcel.ensures.value ∙ ap (λ b. get_or b.items c.args.within c.remove-parcel.result) is);
      others = set_removed (λ b. b.items) items c.args.block c.args.within block c.remove-parcel.new.self (search rules) within
          (c.remove-parcel.ensures.items ∙ ap (λ b. remove b.items c.args.within) is);
    }
