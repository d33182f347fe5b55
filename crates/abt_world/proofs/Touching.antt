-- What changes of the ports where one of them serves a connection.
use Rattle.std.proofs.Common.{◌≡◌, ◌≢◌, ℕ, zero, suc, List, [], ◌∷◌, refl, sym, subst, ap, ◌∙◌, length}
use Rattle.std.specs.Prelude.{Option, None, Some, option_map, unwrap_or, slice_get, slice_set}
use Rattle.std.proofs.lemmas.List.{length-set}
use Rattle.abt_cell.specs.Channel.{Channel}
use Rattle.abt_node.specs.Table.{Connection, Table, new_table, held_at, connection_at, table_by_arrival, table_after_arrival}
use Rattle.abt_node.proofs.TableLemmas.{connection_at-other}
use Rattle.abt_safety.specs.Holding.{held_by_port}
use Rattle.abt_world.specs.Touches.{Rewrites, Touches}

same_there : (ports : List Table) (p : ℕ) → (table : Table) × (ports ≡ slice_set ports p table)
same_there [] p = (new_table 0 0, refl)
same_there (t ∷ ports) zero = (t, refl)
same_there (t ∷ ports) (suc p) = (let rest = same_there ports p in (rest.0, ap (λ (l : List Table). t ∷ l) rest.1))

rewrites_none : (port : Option ℕ) (ports : List Table) → Rewrites port ports ports
rewrites_none None ports = refl
rewrites_none (Some p) ports = same_there ports p

-- nothing changes
pub untouched : (port : Option ℕ) (vc : Channel) (ports : List Table) → Touches port vc ports ports
untouched port vc ports = (rewrites_none port ports, λ other apart q. refl)

pub rows_kept : (ports : List Table) (p q : ℕ) (table after : Table) (other : Channel) → slice_get ports p ≡ Some table → connection_at after other ≡ connection_at table other →
    held_by_port other (slice_set ports p after) q ≡ held_by_port other ports q
rows_kept [] p q table after other at same = refl
rows_kept (t ∷ ports) zero zero table after other at same =
    let is : t ≡ table = ap (λ o. unwrap_or o t) at in
    ap (λ c. unwrap_or (option_map held_at c) 0) (same ∙ ap (λ (x : Table). connection_at x other) (sym is))
rows_kept (t ∷ ports) zero (suc q) table after other at same = refl
rows_kept (t ∷ ports) (suc p) zero table after other at same = refl
rows_kept (t ∷ ports) (suc p) (suc q) table after other at same = rows_kept ports p q table after other at same

-- one port changes what it keeps of one connection
pub touched : (port : Option ℕ) (p : ℕ) (vc : Channel) (ports : List Table) (table after : Table) → port ≡ Some p → slice_get ports p ≡ Some table →
    ((other : Channel) → other ≢ vc → connection_at after other ≡ connection_at table other) → Touches port vc ports (slice_set ports p after)
touched port p vc ports table after is at same = (
  subst (λ o. Rewrites o ports (slice_set ports p after)) (sym is) (after, refl),
  λ other apart q. rows_kept ports p q table after other at (same other apart),
)

arrival_others : (t : Table) (vc : Channel) (at : ℕ) (other : Channel) (o : Option Connection) → other ≢ vc → connection_at (table_by_arrival t vc at o) other ≡ connection_at t other
arrival_others t vc at other None apart = refl
arrival_others t vc at other (Some c) apart = connection_at-other t vc other _ apart

-- a cell leaves what is kept of other connections
pub arrival_leaves_others : (t : Table) (vc : Channel) (at : ℕ) (other : Channel) → other ≢ vc → connection_at (table_after_arrival t vc at) other ≡ connection_at t other
arrival_leaves_others t vc at other apart = arrival_others t vc at other (connection_at t vc) apart

-- as many tables as before
pub rewrites_length : (port : Option ℕ) (before after : List Table) → Rewrites port before after → length after ≡ length before
rewrites_length None before after is = ap length is
rewrites_length (Some p) before after is = ap length is.1 ∙ length-set before p is.0
