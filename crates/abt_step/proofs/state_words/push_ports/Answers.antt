use Rattle.std.proofs.Common.{◌≡◌, ◌≤◌, min, length, drop, arith, length-drop, sym, ◌∙◌, append-nil, []}
use Rattle.abt_step.specs.StateWords.{ports_between}
use Rattle.abt_step.proofs.Pairs.{ports-end}
use Rattle.abt_step.proofs.state_words.push_ports.Goals as goal

pub returns : goal.returns
returns c =
    let b = c.args.before.now in
    let a = c.args.after.now in
    let i = c.loop-index.index in
    let ended : min (length (drop i c.args.totals.now)) (length (drop i c.args.capacities.now)) ≤ 0 =
    rw (length-drop i c.args.totals.now, length-drop i c.args.capacities.now) (omega (arith, c.loop-index-test.false, c.min-index-end.ensures)) in
    let none : ports_between b a i (drop i c.args.totals.now) (drop i c.args.capacities.now) ≡ [] = ports-end b a i _ _ ended in
    sym (append-nil _) ∙ rw none at c.loop-index.invariant
