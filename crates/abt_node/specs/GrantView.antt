-- What contracts see of a grant: the request that it decides. Whether it is open or shut is its type.
use Rattle.std.specs.Prelude.{ℕ}
use Rattle.abt_cell.specs.Message.{Terms}

-- the number, the floor and the asked rate of the request
pub record GrantView : Type 0 where
  pub seq : ℕ
  pub floor : ℕ
  pub ask : ℕ

-- what a grant of a request shows
abbrev pub grant_of : Terms → GrantView
grant_of q = record { seq = q.seq; floor = q.floor; ask = q.ask }

-- before the first request
abbrev pub first_grant : GrantView
first_grant = record { seq = 0; floor = 0; ask = 0 }
