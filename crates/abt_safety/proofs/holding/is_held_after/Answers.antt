use Rattle.std.proofs.Common.{◌≤◌, rules, sym, ◌∙◌}
use Rattle.abt_safety.proofs.Covering.{one_tells}
use Rattle.abt_safety.proofs.holding.is_held_after.Goals as goal

pub returns-then-le-clause-value : goal.returns-then-le-clause-value
returns-then-le-clause-value c tables changes was =
    let low : c.args.rate ≤ c.args.before.rate = search rules in
    c.is_held_at.ensures.value
    ∙ one_tells tables c.args.ports.now c.args.vc c.args.path.now c.args.rate c.args.before.rate c.args.port low changes (sym was ∙ c.if-before.true)
