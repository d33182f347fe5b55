-- Sets of hops, as numbers: bit number j stands for hop j.
use Rattle.std.specs.Prelude.{ℕ, ◌^◌, ◌==◌, Bool}
use Rattle.std.specs.Int.{bit_at}
use Rattle.std.specs.Int.RustNames.{bit_or}
use Rattle.abt_index.specs.declared.hops.Hops.{Hops}

abbrev pub none : Hops
none = record { bits = 0 }

-- the hops with one more
abbrev pub with_hop : Hops → ℕ → Hops
with_hop hops j = record { bits = bit_or hops.bits (2 ^ j) }

-- whether a hop is among them
abbrev pub has_hop : Hops → ℕ → Bool
has_hop hops j = bit_at hops.bits j == 1
