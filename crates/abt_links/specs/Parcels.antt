-- What is in a parcel.
use Rattle.std.specs.Prelude.{ℕ, List, Option, None, Some}
use Rattle.abt_links.specs.declared.parcel.Parcel.{Parcel}
use Rattle.abt_links.specs.declared.parcel.Parcel.TheVariants.{Cell, Stop}
use Rattle.abt_links.specs.declared.parcel.ParcelOf.{ParcelOf}
use Rattle.abt_links.specs.declared.parcel.ParcelOf.TheVariants as carried

-- a cell for a port
pub record PlainCell : Type 0 where
  pub port : ℕ
  pub octets : List ℕ

-- the cell of a parcel
abbrev pub cell_in : Parcel → Option PlainCell
cell_in (Cell port octets) = Some (record { port = port; octets = octets })
cell_in Stop = None

-- a parcel without what was seen
abbrev pub plain_of : {K Front Tally : Type 0} → ParcelOf K Front Tally → Parcel
plain_of (carried.Cell cell) = Cell cell.port cell.octets
plain_of carried.Stop = Stop
