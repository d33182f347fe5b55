-- The texts so far, and those of the values that are left, are the texts.
use Rattle.std.proofs.Common.{◌≡◌, ◌+◌, ◌≤◌, drop}
use Rattle.toml.specs.View.{items_view}
use Rattle.abt_check.specs.Expectations.{expectations_from, texts_seen}
use Rattle.abt_check.proofs.Readings.{with_rest}
use Rattle.abt_check.proofs.expectations.expectations_in.Given as goal

abbrev pub invariant-loop-value : goal.invariant-loop-value
invariant-loop-value l =
    (with_rest (texts_seen l.texts) (expectations_from l.number (items_view (drop l.value-index l.values))) ≡ expectations_from 1 (items_view l.values))
    × (l.number ≤ l.value-index + 1)
