-- What the rows of a port stand for: mechanism, which only proofs need.
use Rattle.std.specs.Prelude.{◌≡◌, ◌≢◌, ℕ, ◌<◌, true, false, List, map, length, slice_index_or, sum_by, All, Option, None, Some}
use Rattle.std.specs.List.{IsDistinct}
use Rattle.std.specs.FinMap.{FinMap, from_entries}
use Rattle.std.specs.declared.hash.BuildHasherDefault.{BuildHasherDefault}
use Rattle.std.specs.declared.hash.FoldHasher.{FoldHasher}
use Rattle.indexmap.specs.IndexMap as index
use Rattle.abt_cell.specs.Channel.{Channel, channel_cmp, same_channel}
use Rattle.abt_node.specs.Reservation.{Reservation}
use Rattle.abt_node.specs.Table.{Connection, held_at}
use Rattle.abt_node.specs.declared.any_grant.AnyGrant.{AnyGrant}
use Rattle.abt_node.specs.declared.any_grant.AnyGrant.TheVariants.{Open, Shut}
use Rattle.abt_node.specs.declared.row.Row.{Row}

-- the reservation of a grant
abbrev pub reservation_of : AnyGrant → Reservation
reservation_of (Open g) = record { newest = g.seq; floor = g.floor; ask = g.ask; is_open = true }
reservation_of (Shut g) = record { newest = g.seq; floor = g.floor; ask = g.ask; is_open = false }

-- what a row keeps of its connection
abbrev pub connection_of : Row → Connection
connection_of row = record { reservation = reservation_of row.grant; policing = row.policer }

abbrev pub entry_of : Row → Channel × Connection
entry_of row = (row.vc, connection_of row)

-- the connections of rows, in their order
abbrev pub vcs_of : List Row → List Channel
vcs_of rows = map (λ row. row.vc) rows

-- the rate that a row holds
abbrev pub row_held : Row → ℕ
row_held row = held_at (connection_of row)

-- the rows as a map
abbrev pub connections_of : List Row → FinMap channel_cmp Connection
connections_of rows = from_entries (map entry_of rows)

-- what holds of the rows of a port: no connection stands twice, and the total of the ledger is theirs
pub record AreKept (rows : List Row) (total : ℕ) : Type 0 where
  pub distinct : IsDistinct same_channel (vcs_of rows)
  pub counted : total ≡ sum_by row_held rows

-- the place of a connection's row, if it has one
abbrev pub IsPlaceOf : List Row → Channel → Option ℕ → Type 0
IsPlaceOf rows vc None = All (λ row. row.vc ≢ vc) rows
IsPlaceOf rows vc (Some i) = (i < length rows) × ((d : Row) → (slice_index_or rows i d).vc ≡ vc)

-- an index of rows: places by connection
abbrev pub Index : Type 0
Index = index.IndexMap Channel ℕ (BuildHasherDefault FoldHasher)

-- at each connection the index has the place of its row, and nothing if there is no row
abbrev pub IsIndexOf : Index → List Row → Type 0
IsIndexOf places rows = (vc : Channel) → IsPlaceOf rows vc (index.get same_channel places vc)

-- what holds of a port: its rows are kept, and the index is theirs
pub record AreIndexed (rows : List Row) (total : ℕ) (places : Index) : Type 0 where
  pub kept : AreKept rows total
  pub indexed : IsIndexOf places rows
