-- How a link worker counts the cells that it takes (docs/RULES.md, "Workers").
use Rattle.std.specs.Prelude.{ℕ, ◌+◌, ◌-◌, ◌^◌, min, List, Option, None, Some}
use Rattle.abt_links.specs.declared.parcel.Parcel.{Parcel}
use Rattle.abt_links.specs.declared.parcel.Parcel.TheVariants.{Cell, Stop}

-- a cell that was taken, with its number, from 1
pub record Numbered : Type 0 where
  pub number : ℕ
  pub port : ℕ
  pub octets : List ℕ

-- the number of the next cell; the greatest number stays
abbrev pub next_number : ℕ → ℕ
next_number taken = min (taken + 1) (2 ^ 64 - 1)

-- the count after a parcel: each cell is counted, whatever its octets are
abbrev pub taken_after : ℕ → Parcel → ℕ
taken_after taken (Cell port octets) = next_number taken
taken_after taken Stop = taken

-- the cell of a parcel with its number
abbrev pub numbered : ℕ → Parcel → Option Numbered
numbered taken (Cell port octets) = Some (record { number = next_number taken; port = port; octets = octets })
numbered taken Stop = None
