-- A source by its parts.
use Rattle.std.specs.Prelude.{ℕ, ◌<◌, ◌≤◌, Option, None, Some}
use Rattle.abt_cell.specs.Channel.{Channel}
use Rattle.abt_cell.specs.Message.{Terms}
use Rattle.abt_source.specs.Calls.{asked_in}
use Rattle.abt_source.specs.SourceView.{SourceView}
use Rattle.abt_source.specs.declared.any.AnySource.{AnySource}
use Rattle.abt_source.specs.declared.any.AnySource.TheVariants as source
use Rattle.abt_source.specs.declared.any.Phase.{Phase}
use Rattle.abt_source.specs.declared.any.Phase.TheVariants.{Down, Idle, Asking}

-- the parts of a source: its state, and what is seen of it
pub record PartsView : Type 0 where
  pub phase : Phase
  pub source : SourceView

-- the parts of a source
abbrev pub parts_of : AnySource → PartsView
parts_of (source.Down s) = record { phase = Down; source = s }
parts_of (source.Idle s) = record { phase = Idle; source = s }
parts_of (source.Asking s) = record { phase = Asking (asked_in s.newest); source = s }

-- the request that waits for its answer: its number is the last one, its floor the present rate
abbrev pub newest_at : Phase → Channel → (last rate : ℕ) → Option Terms
newest_at Down vc last rate = None
newest_at Idle vc last rate = None
newest_at (Asking ask) vc last rate = Some (record { vc = vc; seq = last; floor = rate; ask = ask })

-- A source with this last number and rate can be in the state: a request has a number from 1 on, and asks for no less than its floor.
abbrev pub CanBeIn : Phase → (last rate : ℕ) → Type 0
CanBeIn Down last rate = Unit {0}
CanBeIn Idle last rate = Unit {0}
CanBeIn (Asking ask) last rate = (0 < last) × (rate ≤ ask)
