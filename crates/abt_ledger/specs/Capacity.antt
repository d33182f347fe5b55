-- A capacity that a link is to have: set, or why not (docs/RULES.md, "Node").
use Rattle.std.specs.Prelude.{ℕ, nat_lt, if◌then◌else◌, Option, None, Some, Result, Ok, Err}
use Rattle.abt_rate.specs.Limits.{capacity_max}
use Rattle.abt_ledger.specs.declared.fault.CapacityFault.{CapacityFault}
use Rattle.abt_ledger.specs.declared.fault.CapacityFault.TheVariants.{BelowSum, AboveLimit}

-- why a link with holds of this sum doesn't get a capacity, if it doesn't
abbrev pub capacity_fault : (total capacity : ℕ) → Option CapacityFault
capacity_fault total capacity =
    if nat_lt capacity total then Some BelowSum
    else (if nat_lt capacity_max capacity then Some AboveLimit
    else None)

-- the result, and the capacity then
abbrev pub capacity_answer : Option CapacityFault → Result (Unit {0}) CapacityFault
capacity_answer None = Ok tt
capacity_answer (Some fault) = Err fault

abbrev pub capacity_after : (old capacity : ℕ) → Option CapacityFault → ℕ
capacity_after old capacity None = capacity
capacity_after old capacity (Some fault) = old
