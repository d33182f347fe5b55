use Rattle.std.proofs.Common.{ℕ, ◌<◌, ◌≤◌, ◌++◌, [], ◌∷◌, List, length, subst, sym, ap, ◌∙◌}
use Rattle.abt_model.specs.Run.{facts_after}
use Rattle.abt_chart.specs.Frames.{stack_after}
use Rattle.abt_chart.proofs.Numbered.{next_numbered, all_numbered}
use Rattle.abt_chart.proofs.holdings.stacks_of.Goals as goal

pub loop-port-preserved : goal.loop-port-preserved
loop-port-preserved c = λ events stands.
    let net = c.args.net.now in
    let past = facts_after net events in
    let i = c.loop-port.port in
    let stack = c.in_ok-stack.stack in
    let low : i < length net.capacities = subst (λ (l : List ℕ). i < length l) c.capacities-ports.ensures.value c.loop-port-test.true in
    c.in_ok-push.ensures.ok ∙ ap (λ (l : List (List ℕ)). l ++ stack ∷ []) (c.loop-port.invariant events stands)
    ∙ sym (next_numbered (λ (numbered : ℕ × ℕ). stack_after net past numbered.0) net.capacities i stack low
    (λ x at. c.in_ok-stack.ensures events stands))

pub returns : goal.returns
returns c = λ events stands.
    let net = c.args.net.now in
    let past = facts_after net events in
    let i = c.loop-port.port in
    let over : length net.capacities ≤ i = subst (λ (l : List ℕ). length l ≤ i) c.capacities-ports.ensures.value c.loop-port-test.false in
    c.loop-port.invariant events stands ∙ all_numbered (λ (numbered : ℕ × ℕ). stack_after net past numbered.0) net.capacities i over
