use Rattle.std.proofs.Common.{◌≡◌, ◌+◌, ◌++◌, [], List, All, length, refl, subst, sym, ap, ◌∙◌, arith, length-append}
use Rattle.abt_chart.specs.declared.told.Told.{Told}
use Rattle.abt_chart.specs.Charts.{AreCrossings}
use Rattle.abt_chart.specs.Frames.{StandsBelow}
use Rattle.abt_chart.proofs.Below.{all_below}
use Rattle.abt_chart.proofs.Frames.{length_told}
use Rattle.abt_chart.proofs.chart.chart_of.Goals as goal

pub crossings_of-requires : goal.crossings_of-requires
crossings_of-requires c =
    let net = c.args.net.now in
    let before = c.args.before.now in
    let shown = c.args.shown.now in
    let after = c.args.after.now in
    let opened = c.in_ok-world.ensures.value in
    let first = c.in_ok-carry.ensures.stands [] opened in
    let told_first = c.in_ok-carry.ensures.told [] opened c.new-told.ensures in
    let second = c.in_ok-frames.ensures.stands before first in
    let told_second = c.in_ok-frames.ensures.told before first told_first in
    let told = c.in_ok-carry-2.ensures.told (before ++ shown) second told_second in
    let count : length c.as_slice.result.now ≡ (length before + length shown) + length after =
    ap length (c.as_slice.ensures ∙ told) ∙ length_told net [] ((before ++ shown) ++ after)
    ∙ length-append (before ++ shown) after ∙ ap (λ n. n + length after) (length-append before shown) in
    omega (arith, count)

pub returns : goal.returns
returns c =
    let net = c.args.net.now in
    let before = c.args.before.now in
    let shown = c.args.shown.now in
    let opened = c.in_ok-world.ensures.value in
    let first = c.in_ok-carry.ensures.stands [] opened in
    let told_first = c.in_ok-carry.ensures.told [] opened c.new-told.ensures in
    let second = c.in_ok-frames.ensures.stands before first in
    let told_second = c.in_ok-frames.ensures.told before first told_first in
    let frames = c.in_ok-frames.ensures.frames before first in
    record {
      told = c.in_ok-carry-2.ensures.told (before ++ shown) second told_second;
      first = refl;
      crossings = subst (λ (ts : List Told). AreCrossings ts (length before) (length shown) c.in_ok-crossings.crossings) c.as_slice.ensures c.in_ok-crossings.ensures;
      frames = frames;
      below = subst (All StandsBelow) (sym frames) (all_below net before shown c.in_ok-frames.ensures.rules second.rates);
    }
