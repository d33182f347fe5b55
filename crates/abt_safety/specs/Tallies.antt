-- Counts of violations.
use Rattle.std.specs.Prelude.{◌≡◌, ℕ, ◌+◌, ◌<◌, ◌≤◌, ◌^◌, Bool, true, false, not, nat_le, List, [], ◌∷◌, Option, None, Some, slice_get}
use Rattle.std.specs.Option.{option_map_or}
use Rattle.abt_node.specs.Table.{Table, sum_of}

abbrev pub one_if : Bool → ℕ
one_if true = 1
one_if false = 0

-- how many of a list pass a test
abbrev pub count_of : {A : Type 0} → (A → Bool) → List A → ℕ
count_of test [] = 0
count_of test (x ∷ xs) = one_if (test x) + count_of test xs

-- A count is brought up to date if one may have changed, if that one was counted, and the count isn't the greatest.
abbrev pub IsRecounted : ℕ → (before after : Bool) → ℕ → Type 0
IsRecounted count before after recounted = one_if before ≤ count → count + 1 < 2 ^ 64 → recounted + one_if before ≡ count + one_if after

-- whether the sum of a port's table is above its capacity
abbrev pub is_above : Table → Bool
is_above table = not (nat_le (sum_of table) table.capacity)

-- whether the sum of the port of a number is above its capacity; false if there is no port
abbrev pub over_at : Option ℕ → List Table → Bool
over_at None ports = false
over_at (Some p) ports = option_map_or is_above (slice_get ports p) false
