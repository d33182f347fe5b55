-- Each column so far has its lifeline.
use Rattle.std.proofs.Common.{◌≡◌, ◌<◌, ℕ, string_bytes}
use Rattle.std.specs.Prelude.{Some, slice_get}
use Rattle.abt_draw.specs.Lifelines.{HasLifeline}
use Rattle.abt_draw.specs.declared.actor.Actor.{Actor}
use Rattle.abt_draw.proofs.lifeline.push_lifelines.Given as goal

abbrev pub invariant-loop-column : goal.invariant-loop-column
invariant-loop-column l =
    (k : ℕ) (who : Actor) → k < l.column → slice_get l.columns k ≡ Some who → HasLifeline l.sheet k who (string_bytes l.out)
