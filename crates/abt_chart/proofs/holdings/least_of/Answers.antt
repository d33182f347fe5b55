use Rattle.std.proofs.Common.{ap, sym, ◌∙◌, ◌≤◌, ◌+◌, length, min, arith}
use Rattle.std.specs.Prelude.{unwrap_or}
use Rattle.abt_model.specs.Past.{facts_of}
use Rattle.abt_model.specs.Run.{facts_after}
use Rattle.abt_chart.specs.Frames.{least_held}
use Rattle.abt_chart.proofs.Read.{hop_read, least_more}
use Rattle.abt_chart.proofs.holdings.least_of.Goals as goal

pub loop-before-init : goal.loop-before-init
loop-before-init c = λ net events conn stands known within.
    let some = c.if-hops-eq0.false in
    let high : 1 ≤ length conn.path = omega (arith, within, some) in
    c.units_of-least.ensures ∙ ap (λ o. unwrap_or o 0) (c.held.ensures net events stands)
    ∙ hop_read net (facts_after net events) c.args.place conn 1 known (omega arith) high

pub loop-before-preserved : goal.loop-before-preserved
loop-before-preserved c = λ net events conn stands known within.
    let facts = facts_of c.args.place (facts_after net events) in
    let i = c.loop-before.before in
    let test = c.loop-before-test.true in
    let start = c.loop-before.auto.before in
    let low : 1 ≤ i = omega arith in
    let high : i + 1 ≤ length conn.path = omega (arith, within, test) in
    let held = c.units_of.ensures ∙ ap (λ o. unwrap_or o 0) (c.held-in-loop-before.ensures net events stands)
    ∙ hop_read net (facts_after net events) c.args.place conn (i + 1) known (omega arith) high in
    c.min-least.ensures ∙ ap (λ n. min n c.units_of.result) (c.loop-before.invariant net events conn stands known within)
    ∙ ap (min (least_held facts i)) held ∙ sym (least_more facts i low)
