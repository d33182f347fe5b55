use Rattle.std.proofs.Common.{arith, below_more}
use Rattle.std.proofs.lemmas.Bool.{false≢true}
use Rattle.abt_net.proofs.ChannelLemmas.{among_taken, taken_repeats}
use Rattle.abt_net.proofs.channels.first_repeat_by_pairs.Goals as goal

pub loop-place-preserved : goal.loop-place-preserved
loop-place-preserved c =
    let conns = c.args.conns.now in
    let place = c.loop-place.place in
    let conn = c.index-conns-place.result in
    below_more _ _ c.loop-place.invariant
    (λ repeats. false≢true (c.if-has_channel.ensures.1
    (among_taken conns place conn.vc (omega arith) (taken_repeats conns place conn c.loop-place-test.true c.index-conns-place.is repeats))))

pub returns : goal.returns
returns c = λ n repeats. c.loop-place.invariant n (omega (arith, repeats.0)) repeats
