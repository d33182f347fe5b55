use Rattle.std.proofs.Common.{◌++◌, ◌∙◌, ap, sym, take}
use Rattle.abt_step.specs.Possible.{messages_at, next_of}
use Rattle.abt_step.proofs.Possibles.{messages_more}
use Rattle.abt_step.proofs.possible.messages_of.Goals as goal

pub loop-ask-preserved : goal.loop-ask-preserved
loop-ask-preserved c = λ net past are.
    let asks = c.args.asks.now in
    let i = c.loop-ask.ask-index in
    c.in_ok-push_next.ensures ∙ ap (λ t. t ++ next_of c.lying.result) (c.loop-ask.invariant net past are)
    ∙ ap (λ o. messages_at net past (take i asks) ++ next_of o) (c.lying.ensures net past are)
    ∙ sym (messages_more net past asks i (0, 0) c.loop-ask-test.true)
