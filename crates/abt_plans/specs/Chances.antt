-- The chances of a play (docs/SCENARIOS.md, "Plays").
use Rattle.std.specs.Prelude.{ℕ, ◌%◌, nat_lt, if◌then◌else◌}
use Rattle.abt_plans.specs.declared.chances.Chances.{Chances}
use Rattle.abt_plans.specs.declared.chances.Fate.{Fate}
use Rattle.abt_plans.specs.declared.chances.Fate.TheVariants.{Lost, Once, Twice}

-- What becomes of a message for which two words were drawn: the first loses it in so many of 100 cases, the second brings it twice.
abbrev pub fate_of : Chances → (first second : ℕ) → Fate
fate_of chances first second =
    if nat_lt (first % 100) chances.loss then Lost
    else if nat_lt (second % 100) chances.repeat then Twice
    else Once
