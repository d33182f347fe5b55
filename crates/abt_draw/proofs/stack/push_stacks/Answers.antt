-- A frame more: nothing of the port changes with it, or the part that ends there is drawn.
use Rattle.std.proofs.Common.{◌≡◌, rules, arith, refl, ◌+◌}
use Rattle.std.specs.Prelude.{Some, slice_get}
use Rattle.std.proofs.lemmas.Option.{slice_get_read, slice_get_within}
use Rattle.abt_draw.proofs.Banded.{ports_on, port_goes_on, port_alone, capacity_at_most}
use Rattle.abt_draw.proofs.Within.{grows_on}
use Rattle.abt_draw.proofs.stack.push_stacks.Goals as goal

pub loop-place-preserved-then-is_same : goal.loop-place-preserved-then-is_same
loop-place-preserved-then-is_same c =
    let frames = c.as_slice-frames.result.now in
    let here : slice_get frames c.loop-place.place ≡ Some c.index-frames-place.result =
    slice_get_read frames _ c.loop-place.place _ refl (search rules) c.index-frames-place.is in
    let next : slice_get frames (c.loop-place.place + 1) ≡ Some c.index-frames-next.result =
    slice_get_read frames _ (c.loop-place.place + 1) _ refl (search rules) c.index-frames-next.is in
    let alike = c.is_same.ensures c.if-is_same.true in
    record {
      grows = c.loop-place.invariant.grows;
      same = port_goes_on frames c.args.port c.loop-place.first c.loop-place.place _ _ c.loop-place.invariant.same here next
          (record { stack = alike.0; capacity = alike.1 });
      drawn = c.loop-place.invariant.drawn;
      all = λ end. absurd (omega (arith, end, c.if-next-frames.true));
    }

pub push_part-requires : goal.push_part-requires
push_part-requires c =
    let frames = c.as_slice-frames.result.now in
    let here : slice_get frames c.loop-place.place ≡ Some c.index-frames-place-in-loop-place.result =
    slice_get_read frames _ c.loop-place.place _ refl (search rules) c.index-frames-place-in-loop-place.is in
    rw (c.requires, ← c.as_slice-frames.ensures) (capacity_at_most frames c.args.port c.loop-place.place _ here)

pub loop-place-preserved : goal.loop-place-preserved
loop-place-preserved c =
    let frames = c.as_slice-frames.result.now in
    let here : slice_get frames c.loop-place.place ≡ Some c.index-frames-place-in-loop-place.result =
    slice_get_read frames _ c.loop-place.place _ refl (search rules) c.index-frames-place-in-loop-place.is in
    record {
      grows = grows_on _ _ _ c.loop-place.invariant.grows c.in_ok-push_part.ensures.grows;
      same = port_alone frames c.args.port (c.loop-place.place + 1);
      drawn = ports_on frames c.args.port c.args.band.base c.args.band.most c.loop-place.first c.loop-place.place _ _ _ c.loop-place.invariant.same
          c.loop-place.invariant.drawn c.in_ok-push_part.ensures.grows here c.in_ok-push_part.ensures.drawn;
      all = λ end. refl;
    }

pub returns-clause-drawn : goal.returns-clause-drawn
returns-clause-drawn c = λ k frame is.
    let frames = c.as_slice-frames.result.now in
    let it : slice_get frames k ≡ Some frame = rw c.as_slice-frames.ensures is in
    let low = slice_get_within frames k frame it in
    let end = c.loop-place.invariant.all (search rules) in
    c.loop-place.invariant.drawn k frame (omega (arith, low, end, c.loop-place-test.false)) it
