use Rattle.std.proofs.Common.{◌≡◌, ◌<◌, ◌≤◌, ◌%◌, ◌/◌, ◌^◌, ◌∙◌, ℕ, ap, sym, arith}
use Rattle.std.specs.Prelude.{◌==◌}
use Rattle.std.proofs.Math.Nat.{div-eq_of_lt, pow-le-pow_right}
use Rattle.std.proofs.lemmas.Bool.{le-ltb}
use Rattle.abt_index.proofs.hops.has_bit.Goals as goal

-- there is no such bit
pub returns-else-number-lt32 : goal.returns-else-number-lt32
returns-else-number-lt32 c =
    let far : 2 ^ 32 ≤ 2 ^ c.args.number = pow-le-pow_right (omega arith) c.if-number-lt32.false in
    let low : c.args.bits < 2 ^ 32 = omega arith in
    let none : c.args.bits / 2 ^ c.args.number ≡ 0 = div-eq_of_lt (omega arith) in
    le-ltb c.args.number 32 c.if-number-lt32.false ∙ sym (ap (λ (n : ℕ). n % 2 == 1) none)
