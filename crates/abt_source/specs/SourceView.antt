-- What clients see of a source, in whichever state. Rates are seen as their units, moments are picoseconds.
use Rattle.std.specs.Prelude.{ℕ, Option}
use Rattle.abt_cell.specs.Channel.{Channel}
use Rattle.abt_cell.specs.Message.{Terms}
use Rattle.abt_keep.specs.Record.{KeptRecord}

-- a source: its connection, the rate at which it shapes, the last sequence number that it used, the record that it knows to be kept,
-- the gap that is running, the first moment at which its next cell may leave, its last emission since the start, and, while it waits
-- for the answer, its newest request
pub record SourceView : Type 0 where
  pub vc : Channel
  pub rate : ℕ
  pub last : ℕ
  pub kept : KeptRecord
  pub gap : ℕ
  pub next : ℕ
  pub emitted : Option ℕ
  pub newest : Option Terms
