-- No octet before this one is special.
use Rattle.std.proofs.Common.{◌≡◌, ℕ, ◌<◌, false, get_or}
use Rattle.abt_draw.specs.Escapes.{is_special}
use Rattle.abt_draw.proofs.escape.cut_of.Given as goal

abbrev pub invariant-loop-place : goal.invariant-loop-place
invariant-loop-place l = (k : ℕ) → k < l.place → is_special (get_or l.text k 0) ≡ false
