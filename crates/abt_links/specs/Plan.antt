-- Which parcels of a link worker are lost and which are served twice (docs/RULES.md, "Workers").
use Rattle.std.specs.Prelude.{ℕ, ◌%◌, ◌==◌, ◌&&◌, not, Bool, if◌then◌else◌}
use Rattle.abt_links.specs.declared.plan.ThreadPlan.{ThreadPlan}

-- whether a number divides another; 0 divides none
abbrev pub divides : ℕ → ℕ → Bool
divides every number = not (every == 0) && number % every == 0

-- how often a worker serves the parcel of this number
abbrev pub times_served : ThreadPlan → ℕ → ℕ
times_served plan number = if divides plan.drop_every number then 0 else (if divides plan.repeat_every number then 2 else 1)
