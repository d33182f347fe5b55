-- Virtual channels, in the order of their VPI and then of their VCI.
use Rattle.std.specs.Prelude.{ℕ, Bool, ◌==◌, ◌&&◌, refl}
use Rattle.std.specs.Coded.{Coded, code_by, coded×, coded_ℕ}
use Rattle.std.specs.Ordering.{ordering_then, nat_cmp}
use Rattle.std.specs.declared.cmp.Ordering.{Ordering}

-- a virtual channel
pub record Channel : Type 0 where
  pub vpi : ℕ
  pub vci : ℕ

-- the order of channels
abbrev pub channel_cmp : Channel → Channel → Ordering
channel_cmp a b = ordering_then (nat_cmp a.vpi b.vpi) (nat_cmp a.vci b.vci)

-- whether two channels are one
abbrev pub same_channel : Channel → Channel → Bool
same_channel a b = a.vpi == b.vpi && a.vci == b.vci

-- a channel is stored as its two numbers
abbrev pub channel_code : Coded Channel
channel_code =
    code_by (ℕ × ℕ) (coded× coded_ℕ coded_ℕ) (λ c. (c.vpi, c.vci)) (λ p. record { vpi = p.0; vci = p.1 }) (λ _. refl)
