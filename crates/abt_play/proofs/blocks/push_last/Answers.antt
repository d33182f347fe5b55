-- The last block has one more, or the same.
use Rattle.std.proofs.Common.{◌+◌, ◌-◌, ◌∷◌, [], arith, rules}
use Rattle.abt_play.proofs.Joined.{set_last, set_same}
use Rattle.abt_play.proofs.blocks.push_last.Goals as goal

pub returns-in_err-push-clause-err : goal.returns-in_err-push-clause-err
returns-in_err-push-clause-err c =
    let same = set_same (λ block. block.items) c.args.blocks.now.items (c.len-last.result - 1) c.index_mut.result.now c.push.new.self (search rules) (search rules) in
    search (rules, same)

pub returns-clause-ok : goal.returns-clause-ok
returns-clause-ok c = set_last (λ block. block.items) c.args.blocks.now.items (c.len-last.result - 1) c.index_mut.result.now c.push.new.self (c.args.parcel.now ∷ []) (search rules) (search rules)
