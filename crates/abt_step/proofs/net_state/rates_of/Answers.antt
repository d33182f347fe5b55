use Rattle.std.proofs.Common.{ℕ, ◌<◌, ◌≤◌, ◌++◌, [], ◌∷◌, List, length, subst, sym, ap, ◌∙◌}
use Rattle.std.specs.Prelude.{option_map, unwrap_or}
use Rattle.abt_facts.specs.Source.{rate_of}
use Rattle.abt_model.specs.Past.{facts_of}
use Rattle.abt_net.specs.declared.conn.Conn.{Conn}
use Rattle.abt_model.specs.Run.{facts_after}
use Rattle.abt_step.proofs.Numbered.{next_numbered, all_from}
use Rattle.abt_step.proofs.net_state.rates_of.Goals as goal

pub loop-conn-preserved : goal.loop-conn-preserved
loop-conn-preserved c = λ events stands.
    let net = c.args.net.now in
    let past = facts_after net events in
    let i = c.loop-conn.conn in
    let low : i < length net.conns = subst (λ (l : List Conn). i < length l) c.conns-conns.ensures.value c.loop-conn-test.true in
    c.in_ok-push.ensures.ok ∙ ap (λ (l : List ℕ). l ++ c.unwrap_or.result ∷ []) (c.loop-conn.invariant events stands)
    ∙ sym (next_numbered (λ (numbered : ℕ × Conn). rate_of (facts_of numbered.0 past)) net.conns i c.unwrap_or.result low
    (λ x at. c.unwrap_or.ensures ∙ ap (λ o. unwrap_or o 0) (c.rate.ensures net events stands ∙ ap (option_map (λ (_ : Conn). rate_of (facts_of i past))) at)))

pub returns : goal.returns
returns c = λ events stands.
    let net = c.args.net.now in
    let past = facts_after net events in
    let i = c.loop-conn.conn in
    let over : length net.conns ≤ i = subst (λ (l : List Conn). length l ≤ i) c.conns-conns.ensures.value c.loop-conn-test.false in
    c.loop-conn.invariant events stands ∙ all_from (λ (numbered : ℕ × Conn). rate_of (facts_of numbered.0 past)) 0 net.conns i over
