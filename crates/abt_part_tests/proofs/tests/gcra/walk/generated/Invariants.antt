use Rattle.std.proofs.Common.{◌≤◌, ℕ, All}
use Rattle.abt_gcra.specs.declared.limits.TheConstants.{SPACING_MAX}
use Rattle.abt_part_tests.proofs.tests.gcra.walk.generated.Given as goal

abbrev pub invariant-loop : goal.invariant-loop
invariant-loop l = All {X = ℕ × ℕ} (λ cell. (1 ≤ cell.1) × (cell.1 ≤ SPACING_MAX)) l.cells.items
