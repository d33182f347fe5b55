-- The order of channels is total, and only equal channels tie. So channels are keys of finite maps.
use Rattle.std.proofs.Common.{◌≡◌, ◌==◌, ◌&&◌, Bool, true, false, refl, ap}
use Rattle.std.proofs.lemmas.Bool.{eq-eqb, eqb-true}
use Rattle.std.proofs.lemmas.Cmp.{nat_cmp_total, then_total, on_total}
use Rattle.std.specs.Cmp.{IsTotalOrder, unsigned_ties, both_tied}
use Rattle.std.specs.FinMap.{IsAntisymmetric, nat_cmp-IsAntisymmetric}
use Rattle.std.specs.Ordering.{nat_cmp, eq_by_cmp, is_eq, ordering_then}
use Rattle.std.specs.declared.cmp.Ordering.{Ordering}
use Rattle.std.specs.declared.cmp.Ordering.TheVariants.{Less, Equal, Greater}
use Rattle.abt_cell.specs.Channel.{Channel, channel_cmp, same_channel}

pub channel_cmp_total : IsTotalOrder channel_cmp
channel_cmp_total = then_total (on_total (λ (c : Channel). c.vpi) nat_cmp_total) (on_total (λ (c : Channel). c.vci) nat_cmp_total)

tied_first : (a b : Ordering) → ordering_then a b ≡ Equal → a ≡ Equal
tied_first Less b e = e
tied_first Equal b e = refl
tied_first Greater b e = e

tied_second : (a b : Ordering) → ordering_then a b ≡ Equal → b ≡ Equal
tied_second Less b e = let bad : false ≡ true = ap is_eq e in cc
tied_second Equal b e = e
tied_second Greater b e = let bad : false ≡ true = ap is_eq e in cc

pub channel_cmp-IsAntisymmetric : IsAntisymmetric channel_cmp
channel_cmp-IsAntisymmetric a b e =
    let vpis = nat_cmp-IsAntisymmetric a.vpi b.vpi (tied_first (nat_cmp a.vpi b.vpi) (nat_cmp a.vci b.vci) e) in
    let vcis = nat_cmp-IsAntisymmetric a.vci b.vci (tied_second (nat_cmp a.vpi b.vpi) (nat_cmp a.vci b.vci) e) in
    λ i. record { vpi = vpis i; vci = vcis i }

-- channels are the same exactly if they tie
pub same_channel_tied : (a b : Channel) → same_channel a b ≡ eq_by_cmp channel_cmp a b
same_channel_tied a b =
    both_tied (a.vpi == b.vpi) (a.vci == b.vci) (nat_cmp a.vpi b.vpi) (nat_cmp a.vci b.vci) (unsigned_ties a.vpi b.vpi) (unsigned_ties a.vci b.vci)

same_vpi : (s t : Bool) → (s && t) ≡ true → s ≡ true
same_vpi true t e = refl
same_vpi false t e = e

same_vci : (s t : Bool) → (s && t) ≡ true → t ≡ true
same_vci true t e = e
same_vci false t e = let bad : false ≡ true = e in cc

-- channels that are tested as the same are equal
pub same_channel-is : (a b : Channel) → same_channel a b ≡ true → a ≡ b
same_channel-is a b e =
    let vpis = eqb-true a.vpi b.vpi (same_vpi (a.vpi == b.vpi) (a.vci == b.vci) e) in
    let vcis = eqb-true a.vci b.vci (same_vci (a.vpi == b.vpi) (a.vci == b.vci) e) in
    λ i. record { vpi = vpis i; vci = vcis i }

-- and a channel is the same as itself
pub same_channel-refl : (a : Channel) → same_channel a a ≡ true
same_channel-refl a = λ i. eq-eqb a.vpi a.vpi refl i && eq-eqb a.vci a.vci refl i
