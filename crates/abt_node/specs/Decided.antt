-- What deciding a newer request leaves of a grant.
use Rattle.std.specs.Prelude.{ℕ, Bool, if◌then◌else◌}
use Rattle.abt_cell.specs.Message.{Terms}
use Rattle.abt_node.specs.declared.grant.Decided.{Decided}
use Rattle.abt_node.specs.declared.grant.Decided.TheVariants.{Opened, Refused}
use Rattle.abt_node.specs.GrantView.{grant_of}

-- open if it fits, and else shut
abbrev pub decided_by : Bool → Terms → Decided
decided_by fits q = if fits then Opened (grant_of q) else Refused (grant_of q)

-- the rate that a decided grant holds
abbrev pub held_in : Decided → ℕ
held_in (Opened g) = g.ask
held_in (Refused g) = g.floor
