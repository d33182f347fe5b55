use Rattle.std.proofs.Common.{arith}
use Rattle.abt_shaper.proofs.shaper.Shaper.emit.Goals as goal

pub returns-clause-too_soon : goal.returns-clause-too_soon
returns-clause-too_soon c = λ next. let told = c.refusal.ensures.too_soon next in grind (arith)
