-- An entry more.
use Rattle.std.proofs.Common.{◌≡◌, ◌⊎◌, inl, inr, ◌+◌, ◌<◌, ℕ, List, arith}
use Rattle.std.proofs.lemmas.Option.{get_or_from_slice_get, slice_get_within}
use Rattle.abt_draw.specs.Stuck.{HasStuckRow}
use Rattle.abt_draw.specs.declared.scene.StuckMark.{StuckMark}
use Rattle.abt_draw.specs.declared.sheet.Sheet.{Sheet}
use Rattle.abt_draw.proofs.Shown.{stuck_row_still}
use Rattle.abt_draw.proofs.Within.{grows_on}
use Rattle.abt_draw.proofs.stuck.push_stuck.Goals as goal

before_or_last : (a b : ℕ) → a < b + 1 → (a < b) ⊎ (a ≡ b)
before_or_last a b low = grind arith

row_last : (sheet : Sheet) (place k : ℕ) (its mark : StuckMark) (text : List ℕ) → k ≡ place → its ≡ mark → HasStuckRow sheet place its text → HasStuckRow sheet k mark text
row_last sheet place k its mark text k_is mark_is has = rw (k_is, ← mark_is) has

pub loop-place-preserved : goal.loop-place-preserved
loop-place-preserved c = record {
  grows = grows_on _ _ _ c.loop-place.invariant.grows c.in_ok-push_row.ensures.grows;
  rows = λ k mark below is. elim (before_or_last k c.loop-place.place below) [
    | inl before ↦ stuck_row_still c.args.sheet.now k mark _ _ c.in_ok-push_row.ensures.grows (c.loop-place.invariant.rows k mark before is)
    | inr last ↦ row_last c.args.sheet.now c.loop-place.place k _ mark _ last
        (get_or_from_slice_get c.args.sheet.now.stuck.now c.loop-place.place mark _ (rw last at is)) c.in_ok-push_row.ensures.row
  ];
}

pub returns-clause-rows : goal.returns-clause-rows
returns-clause-rows c = record {
  each = λ k mark is.
      let low = slice_get_within c.args.sheet.now.stuck.now k mark is in
      c.loop-place.invariant.rows k mark (omega (arith, low, c.loop-place-test.false)) is;
}
