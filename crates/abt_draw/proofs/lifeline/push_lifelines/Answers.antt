-- A column more.
use Rattle.std.proofs.Common.{◌≡◌, ◌⊎◌, inl, inr, ◌+◌, ◌<◌, ℕ, List, arith}
use Rattle.std.proofs.lemmas.Option.{get_or_from_slice_get, slice_get_within}
use Rattle.abt_draw.specs.Lifelines.{HasLifeline}
use Rattle.abt_draw.specs.declared.actor.Actor.{Actor}
use Rattle.abt_draw.specs.declared.sheet.Sheet.{Sheet}
use Rattle.abt_draw.proofs.Shown.{lifeline_still}
use Rattle.abt_draw.proofs.lifeline.push_lifelines.Goals as goal

before_or_last : (a b : ℕ) → a < b + 1 → (a < b) ⊎ (a ≡ b)
before_or_last a b low = grind arith

lifeline_last : (sheet : Sheet) (column k : ℕ) (its who : Actor) (text : List ℕ) → k ≡ column → its ≡ who → HasLifeline sheet column its text → HasLifeline sheet k who text
lifeline_last sheet column k its who text k_is who_is has = rw (k_is, ← who_is) has

pub loop-column-preserved : goal.loop-column-preserved
loop-column-preserved c = λ k who below is. elim (before_or_last k c.loop-column.column below) [
  | inl before ↦ lifeline_still c.args.sheet.now k who _ _ c.in_ok-push_lifeline.ensures.grows (c.loop-column.invariant k who before is)
  | inr last ↦ lifeline_last c.args.sheet.now c.loop-column.column k _ who _ last
      (get_or_from_slice_get c.args.sheet.now.columns.now c.loop-column.column who _ (rw last at is)) c.in_ok-push_lifeline.ensures.drawn
]

pub returns : goal.returns
returns c = record {
  each = λ k who is.
      let low = slice_get_within c.args.sheet.now.columns.now k who is in
      c.loop-column.invariant k who (omega (arith, low, c.loop-column-test.false)) is;
}
