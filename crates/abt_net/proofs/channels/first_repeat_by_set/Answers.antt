use Rattle.std.proofs.Common.{◌≡◌, true, false, sym, ◌∙◌, arith, below_more}
use Rattle.std.proofs.lemmas.Bool.{false≢true}
use Rattle.std.specs.BTreeSet as set
use Rattle.abt_cell.specs.Channel.{channel_cmp}
use Rattle.abt_net.proofs.ChannelLemmas.{repeats_taken, taken_repeats, taken_more, had_it, was_new}
use Rattle.abt_net.proofs.channels.first_repeat_by_set.Goals as goal

pub returns-then-not-branch : goal.returns-then-not-branch
returns-then-not-branch c =
    let conns = c.args.conns.now in
    let place = c.loop-place.place in
    let conn = c.index-conns-place.result in
    let had : set.contains channel_cmp c.loop-place.channels conn.vc ≡ true = had_it _ _ c.in_ok-insert.ensures.added c.if-not-branch.true in
    (repeats_taken conns place conn c.loop-place-test.true c.index-conns-place.is (c.loop-place.invariant.1.only conn.vc had), c.loop-place.invariant.0)

pub loop-place-preserved : goal.loop-place-preserved
loop-place-preserved c =
    let conns = c.args.conns.now in
    let place = c.loop-place.place in
    let conn = c.index-conns-place.result in
    let new : set.contains channel_cmp c.loop-place.channels conn.vc ≡ false = was_new _ _ c.in_ok-insert.ensures.added c.if-not-branch.false in (
      below_more _ _ c.loop-place.invariant.0
          (λ repeats. false≢true (sym new ∙ c.loop-place.invariant.1.all conn.vc (taken_repeats conns place conn c.loop-place-test.true c.index-conns-place.is repeats))),
      taken_more conns place conn (set.contains channel_cmp c.loop-place.channels) (set.contains channel_cmp c.insert.new.self) c.loop-place-test.true c.index-conns-place.is c.in_ok-insert.ensures.updates.0 c.loop-place.invariant.1,
    )

pub returns : goal.returns
returns c = λ n repeats. c.loop-place.invariant.0 n (omega (arith, repeats.0)) repeats
