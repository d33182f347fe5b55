-- The text so far, and the objects of the outcomes that are left, are the whole text.
use Rattle.std.proofs.Common.{◌≡◌, ◌+◌, ◌++◌, drop}
use Rattle.abt_json.specs.Objects.{outcome_objects}
use Rattle.abt_json.proofs.report.push_outcomes.Given as goal

abbrev pub invariant-loop-index : goal.invariant-loop-index
invariant-loop-index l =
    l.text.items ++ outcome_objects (l.index + 1) (drop l.index l.outcomes) ≡ l.initial.text.items ++ outcome_objects 1 l.outcomes
