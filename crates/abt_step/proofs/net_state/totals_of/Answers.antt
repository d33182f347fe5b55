use Rattle.std.proofs.Common.{ℕ, ◌<◌, ◌≤◌, ◌++◌, [], ◌∷◌, List, length, subst, sym, ap, ◌∙◌}
use Rattle.std.specs.Prelude.{option_map, unwrap_or}
use Rattle.abt_model.specs.Reserved.{reserved_on}
use Rattle.abt_model.specs.Run.{facts_after}
use Rattle.abt_step.proofs.Numbered.{next_numbered, all_from}
use Rattle.abt_step.proofs.net_state.totals_of.Goals as goal

pub loop-port-preserved : goal.loop-port-preserved
loop-port-preserved c = λ events stands.
    let net = c.args.net.now in
    let past = facts_after net events in
    let i = c.loop-port.port in
    let low : i < length net.capacities = subst (λ (l : List ℕ). i < length l) c.capacities-ports.ensures.value c.loop-port-test.true in
    c.in_ok-push.ensures.ok ∙ ap (λ (l : List ℕ). l ++ c.unwrap_or.result ∷ []) (c.loop-port.invariant events stands)
    ∙ sym (next_numbered (λ (numbered : ℕ × ℕ). reserved_on net past numbered.0) net.capacities i c.unwrap_or.result low
    (λ x at. c.unwrap_or.ensures ∙ ap (λ o. unwrap_or o 0) (c.total.ensures net events stands ∙ ap (option_map (λ (_ : ℕ). reserved_on net past i)) at)))

pub returns : goal.returns
returns c = λ events stands.
    let net = c.args.net.now in
    let past = facts_after net events in
    let i = c.loop-port.port in
    let over : length net.capacities ≤ i = subst (λ (l : List ℕ). length l ≤ i) c.capacities-ports.ensures.value c.loop-port-test.false in
    c.loop-port.invariant events stands ∙ all_from (λ (numbered : ℕ × ℕ). reserved_on net past numbered.0) 0 net.capacities i over
