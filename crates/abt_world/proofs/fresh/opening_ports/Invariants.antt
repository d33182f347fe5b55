use Rattle.std.proofs.Common.{◌≡◌, ℕ, [], take}
use Rattle.std.specs.Prelude.{slice_get, option_map}
use Rattle.abt_model.specs.PortTable.{port_table}
use Rattle.abt_world.proofs.fresh.opening_ports.Given as goal

abbrev pub invariant-loop-id : goal.invariant-loop-id
invariant-loop-id l = (p : ℕ) → slice_get l.ports.items p ≡ option_map (λ (_ : ℕ). port_table l.net [] p) (slice_get (take l.id l.net.capacities) p)
