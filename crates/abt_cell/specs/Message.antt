-- What requests and answers say. Rates are seen as their units.
use Rattle.std.specs.Prelude.{ℕ, Bool}
use Rattle.abt_cell.specs.Channel.{Channel}

-- a request of a source: its connection, its number, the rate that the source keeps meanwhile, and the rate asked for
pub record Terms : Type 0 where
  pub vc : Channel
  pub seq : ℕ
  pub floor : ℕ
  pub ask : ℕ

-- an answer to a request: whether it was granted
pub record Reply : Type 0 where
  pub terms : Terms
  pub granted : Bool

-- the yes or the no to a request
abbrev pub answer_to : Terms → Bool → Reply
answer_to request granted = record { terms = request; granted = granted }
