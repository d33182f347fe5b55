-- A column more.
use Rattle.std.proofs.Common.{inl, inr, arith}
use Rattle.std.proofs.lemmas.Option.{get_or_from_slice_get, slice_get_within}
use Rattle.abt_draw.specs.declared.actor.Actor.TheVariants.{Source}
use Rattle.abt_draw.proofs.Banded.{before_or_last, source_band_still}
use Rattle.abt_draw.proofs.Within.{grows_on}
use Rattle.abt_draw.proofs.picture.push_sources.Goals as goal

pub loop-column-preserved : goal.loop-column-preserved
loop-column-preserved c = record {
  grows = grows_on _ _ _ c.loop-column.invariant.grows c.in_ok-base.ensures.grows;
  bands = λ k conn below is. elim (before_or_last k c.loop-column.column below) [
    | inl before ↦ source_band_still c.args.sheet.now conn _ _ c.in_ok-base.ensures.grows (c.loop-column.invariant.bands k conn before is)
    | inr last ↦ c.in_ok-base.ensures.band conn (get_or_from_slice_get c.args.sheet.now.columns.now c.loop-column.column (Source conn) _ (rw last at is))
  ];
}

pub returns-clause-bands : goal.returns-clause-bands
returns-clause-bands c = λ k conn is.
    let low = slice_get_within c.args.sheet.now.columns.now k _ is in
    c.loop-column.invariant.bands k conn (omega (arith, low, c.loop-column-test.false)) is
