-- Channels and requests whose numbers fit their fields.
use Rattle.std.specs.Prelude.{◌<◌, ◌≤◌, ◌^◌}
use Rattle.abt_rate.specs.Rate.{IsRate}
use Rattle.abt_cell.specs.Channel.{Channel}
use Rattle.abt_cell.specs.Message.{Terms}

abbrev pub IsChannel : Channel → Type 0
IsChannel vc = (vc.vpi < 2 ^ 12) × (vc.vci < 2 ^ 16)

-- a request of the protocol, whose numbers fit their fields
pub record IsTerms (terms : Terms) : Type 0 where
  pub vc : IsChannel terms.vc
  pub positive : 0 < terms.seq
  pub seq : terms.seq < 2 ^ 32
  pub floor : IsRate terms.floor
  pub ask : IsRate terms.ask
  pub order : terms.floor ≤ terms.ask
