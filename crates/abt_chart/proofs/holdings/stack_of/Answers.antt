use Rattle.std.proofs.Common.{ℕ, ◌<◌, ◌≤◌, ◌++◌, [], ◌∷◌, List, Some, length, subst, sym, ap, ◌∙◌}
use Rattle.abt_model.specs.Past.{facts_of}
use Rattle.abt_model.specs.Reserved.{held_on}
use Rattle.abt_model.specs.Run.{facts_after}
use Rattle.abt_net.specs.declared.conn.Conn.{Conn}
use Rattle.abt_chart.proofs.Numbered.{next_numbered, all_numbered, item_is}
use Rattle.abt_chart.proofs.holdings.stack_of.Goals as goal

pub loop-place-preserved : goal.loop-place-preserved
loop-place-preserved c = λ events stands.
    let net = c.args.net.now in
    let past = facts_after net events in
    let i = c.loop-place.place in
    let conn = c.index-conns-place.result in
    let low : i < length net.conns = subst (λ (l : List Conn). i < length l) c.conns-conns.ensures.value c.loop-place-test.true in
    c.in_ok-push.ensures.ok ∙ ap (λ (l : List ℕ). l ++ c.held_at.result ∷ []) (c.loop-place.invariant events stands)
    ∙ sym (next_numbered (λ (numbered : ℕ × Conn). held_on (facts_of numbered.0 past) numbered.1.path c.args.port) net.conns i c.held_at.result low
    (λ x at. (
    let same = item_is net.conns c.conns-conns.result.now i x conn c.conns-conns.ensures.value c.index-conns-place.is at in
    c.held_at.ensures net events stands (at ∙ ap Some (sym same)) ∙ ap (λ (k : Conn). held_on (facts_of i past) k.path c.args.port) same)))

pub returns : goal.returns
returns c = λ events stands.
    let net = c.args.net.now in
    let past = facts_after net events in
    let i = c.loop-place.place in
    let over : length net.conns ≤ i = subst (λ (l : List Conn). length l ≤ i) c.conns-conns.ensures.value c.loop-place-test.false in
    c.loop-place.invariant events stands
    ∙ all_numbered (λ (numbered : ℕ × Conn). held_on (facts_of numbered.0 past) numbered.1.path c.args.port) net.conns i over
