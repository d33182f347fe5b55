use Rattle.std.proofs.Common.{subst}
use Rattle.abt_weave.specs.Projections.{past_of}
use Rattle.abt_serving.specs.Followed.{IsLeft}
use Rattle.abt_history.specs.Histories.{happened}
use Rattle.abt_history.proofs.Leaving.{left_lies}
use Rattle.abt_history.proofs.Modes.{of_both}
use Rattle.abt_history.proofs.left.left_after.Goals as goal

pub new-requires : goal.new-requires
new-requires g c =
    let k = g.K.Keeping in
    let past = past_of k.net (happened (k.log c.args.front)) in
    let ways = c.follow.ensures in
    of_both k.kept c.requires.net c.requires.follows (λ net follows.
    subst (IsLeft k.net past) c.in-Send.is (left_lies k.net c.args.net.now past c.args.port c.args.message.now c.args.reply.now c.follow.result net follows ways.on_path ways.off_path ways.unknown))

pub new-requires-in-Tell : goal.new-requires-in-Tell
new-requires-in-Tell g c =
    let k = g.K.Keeping in
    let past = past_of k.net (happened (k.log c.args.front)) in
    let ways = c.follow.ensures in
    of_both k.kept c.requires.net c.requires.follows (λ net follows.
    subst (IsLeft k.net past) c.in-Tell.is (left_lies k.net c.args.net.now past c.args.port c.args.message.now c.args.reply.now c.follow.result net follows ways.on_path ways.off_path ways.unknown))
