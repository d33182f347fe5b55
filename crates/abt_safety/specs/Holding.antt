-- The rates that ports hold for a channel, as the code reads them.
use Rattle.std.specs.Prelude.{◌≡◌, ◌≢◌, ℕ, ◌+◌, ◌&&◌, Bool, true, if◌then◌else◌, nat_le, List, [], ◌∷◌, Option, None, Some, is_some, slice_get, option_map, option_and_then, unwrap_or}
use Rattle.std.specs.List.{list_all}
use Rattle.abt_cell.specs.Channel.{Channel}
use Rattle.abt_node.specs.Table.{Table, held_at, connection_at}
use Rattle.abt_safety.specs.declared.holding.Shaped.{Shaped}
use Rattle.abt_safety.specs.Tallies.{one_if}

-- the rate that the table of a port holds for a channel, nothing if it has no such port or channel
abbrev pub held_by_port : Channel → List Table → ℕ → ℕ
held_by_port vc ports p = unwrap_or (option_and_then (λ table. option_map held_at (connection_at table vc)) (slice_get ports p)) 0

-- whether a rate is at most what each port of a path holds for a channel
abbrev pub is_held_along : ℕ → Channel → List Table → List ℕ → Bool
is_held_along rate vc ports path = list_all (λ port. nat_le rate (held_by_port vc ports port)) path

-- how many ports of the path are looked at to find that out: those up to the first that holds less
abbrev pub looked_at : ℕ → Channel → List Table → List ℕ → ℕ
looked_at rate vc ports [] = 0
looked_at rate vc ports (port ∷ path) = 1 + (if nat_le rate (held_by_port vc ports port) then looked_at rate vc ports path else 0)

-- whether a rate is at most what the port of a number holds for a channel, if there is one
abbrev pub is_held_at : ℕ → Channel → List Table → Option ℕ → Bool
is_held_at rate vc ports None = true
is_held_at rate vc ports (Some p) = nat_le rate (held_by_port vc ports p)

-- The rates that ports hold for a channel are the same as before, but for one port at most, which is one of the path.
pub record ChangesOne (port : Option ℕ) (vc : Channel) (path : List ℕ) (before after : List Table) : Type 0 where
  pub on_path : (p : ℕ) → port ≡ Some p → (i : ℕ) × (slice_get path i ≡ Some p)
  pub others : (p : ℕ) → port ≢ Some p → held_by_port vc after p ≡ held_by_port vc before p

-- how many ports of the path are looked at after such a change: the one that may have changed, where a rate was held that isn't lower
abbrev pub looked_after : Shaped → ℕ → Channel → List Table → List ℕ → Option ℕ → ℕ
looked_after before rate vc ports path port =
    if before.is_held && nat_le rate before.rate then one_if (is_some port) else looked_at rate vc ports path
