-- A connection more.
use Rattle.std.proofs.Common.{rules, get_or}
use Rattle.std.proofs.lemmas.Option.{slice_get_within, slice_get-get_or}
use Rattle.abt_draw.proofs.Banded.{blocks_on}
use Rattle.abt_draw.proofs.Within.{grows_on}
use Rattle.abt_draw.proofs.stack.push_stack.Goals as goal

pub loop-conn-preserved : goal.loop-conn-preserved
loop-conn-preserved c = record {
  grows = grows_on _ _ _ c.loop-conn.invariant.grows c.in_ok-push_block.ensures.grows;
  drawn = blocks_on c.args.band.base c.args.band.most c.loop-conn.conn c.held_at.result c.args.stack.now c.as_slice-block-items.result.now
      (get_or c.as_slice-block-items.result.now c.loop-conn.conn (record { bottom = 0; top = 0 })) _ _ (search rules)
      (slice_get-get_or c.as_slice-block-items.result.now c.loop-conn.conn _ (search rules)) c.held_at.ensures c.in_ok-push_block.ensures.grows c.loop-conn.invariant.drawn c.in_ok-push_block.ensures.drawn;
}

pub returns-clause-drawn : goal.returns-clause-drawn
returns-clause-drawn c = λ fits. record {
  each = λ k held is some.
      let low = slice_get_within c.args.stack.now k held is in
      c.loop-conn.invariant.drawn k held (search rules) fits is some;
}
