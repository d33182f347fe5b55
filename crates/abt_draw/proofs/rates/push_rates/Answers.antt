-- A frame more: nothing of the source changes with it, or the part that ends there is drawn.
use Rattle.std.proofs.Common.{◌≡◌, rules, arith, refl, sym, ◌+◌}
use Rattle.std.specs.Prelude.{Some, slice_get}
use Rattle.std.proofs.lemmas.Option.{slice_get_read, slice_get_within}
use Rattle.abt_draw.proofs.Banded.{SameSource, sources_on, source_goes_on, source_alone, rate_at_most, least_at_most, draws_source}
use Rattle.abt_draw.proofs.Within.{grows_on}
use Rattle.abt_draw.proofs.rates.push_rates.Goals as goal

pub loop-place-preserved-then-eq : goal.loop-place-preserved-then-eq
loop-place-preserved-then-eq c =
    let frames = c.as_slice-frames.result.now in
    let here : slice_get frames c.loop-place.place ≡ Some c.index-frames-place.result =
    slice_get_read frames _ c.loop-place.place _ refl (search rules) c.index-frames-place.is in
    let next : slice_get frames (c.loop-place.place + 1) ≡ Some c.index-frames-next.result =
    slice_get_read frames _ (c.loop-place.place + 1) _ refl (search rules) c.index-frames-next.is in
    let alike : SameSource c.args.conn c.index-frames-place.result c.index-frames-next.result = search rules in
    record {
      grows = c.loop-place.invariant.grows;
      same = source_goes_on frames c.args.conn c.loop-place.first c.loop-place.place _ _ c.loop-place.invariant.same here next alike;
      drawn = c.loop-place.invariant.drawn;
      all = λ end. absurd (omega (arith, end, c.if-next-frames.true));
    }

pub push_pair-requires : goal.push_pair-requires
push_pair-requires c =
    let frames = c.as_slice-frames.result.now in
    let here : slice_get frames c.loop-place.place ≡ Some c.index-frames-place.result =
    slice_get_read frames _ c.loop-place.place _ refl (search rules) c.index-frames-place.is in
    let rate = rate_at_most frames c.args.conn c.loop-place.place _ here in
    let least = least_at_most frames c.args.conn c.loop-place.place _ here in
    rw (c.requires, ← c.as_slice-frames.ensures, c.rate_in-rates.ensures.0, c.rate_in-rates.ensures.1) (rate, least)

pub loop-place-preserved : goal.loop-place-preserved
loop-place-preserved c =
    let frames = c.as_slice-frames.result.now in
    let here : slice_get frames c.loop-place.place ≡ Some c.index-frames-place.result =
    slice_get_read frames _ c.loop-place.place _ refl (search rules) c.index-frames-place.is in
    record {
      grows = grows_on _ _ _ c.loop-place.invariant.grows c.in_ok-push_pair.ensures.grows;
      same = source_alone frames c.args.conn (c.loop-place.place + 1);
      drawn = sources_on frames c.args.conn c.args.band.base c.args.band.most c.loop-place.first c.loop-place.place _ _ _ c.loop-place.invariant.same
          c.loop-place.invariant.drawn c.in_ok-push_pair.ensures.grows here
          (draws_source _ _ _ _ _ _ _ (sym c.rate_in-rates.ensures.0) (sym c.rate_in-rates.ensures.1) c.in_ok-push_pair.ensures.drawn);
      all = λ end. refl;
    }

pub returns-clause-drawn : goal.returns-clause-drawn
returns-clause-drawn c = λ k frame is.
    let frames = c.as_slice-frames.result.now in
    let it : slice_get frames k ≡ Some frame = rw c.as_slice-frames.ensures is in
    let low = slice_get_within frames k frame it in
    let end = c.loop-place.invariant.all (search rules) in
    c.loop-place.invariant.drawn k frame (omega (arith, low, end, c.loop-place-test.false)) it
