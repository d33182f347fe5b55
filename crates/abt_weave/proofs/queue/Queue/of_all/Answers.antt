use Rattle.std.proofs.Common.{◌≡◌, ◌∷◌, ◌∙◌, [], refl, sym, subst, arith, rules}
use Rattle.abt_weave.proofs.Queues.{listed_more, all_ready, AreListed}
use Rattle.abt_weave.proofs.queue.Queue.of_all.Goals as goal

pub loop-number-preserved : goal.loop-number-preserved
loop-number-preserved c = listed_more c.loop-number.number c.loop-number.ready.items c.push_back.new.self.items c.in_ok-push_back.ensures.items c.loop-number.invariant

pub returns : goal.returns
returns c =
    let last : c.loop-number.number ≡ c.args.count = omega arith in
    all_ready c.args.count _ (subst (λ n. AreListed n c.loop-number.ready.items) last c.loop-number.invariant) (search rules) (search rules)
