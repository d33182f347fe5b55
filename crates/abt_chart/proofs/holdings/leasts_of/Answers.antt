use Rattle.std.proofs.Common.{ℕ, ◌≡◌, ◌<◌, ◌≤◌, ◌++◌, [], ◌∷◌, List, length, subst, sym, ap, ◌∙◌, arith}
use Rattle.abt_model.specs.Past.{facts_of}
use Rattle.abt_model.specs.Run.{facts_after}
use Rattle.abt_net.specs.declared.conn.Conn.{Conn}
use Rattle.abt_chart.specs.Frames.{least_held}
use Rattle.abt_chart.proofs.Numbered.{next_numbered, all_numbered, item_is}
use Rattle.abt_chart.proofs.holdings.leasts_of.Goals as goal

pub loop-place-preserved : goal.loop-place-preserved
loop-place-preserved c = λ events stands.
    let net = c.args.net.now in
    let past = facts_after net events in
    let i = c.loop-place.place in
    let conn = c.index-conns-place.result in
    let low : i < length net.conns = subst (λ (l : List Conn). i < length l) c.conns-conns.ensures.value c.loop-place-test.true in
    c.in_ok-push.ensures.ok ∙ ap (λ (l : List ℕ). l ++ c.least_of.result ∷ []) (c.loop-place.invariant events stands)
    ∙ sym (next_numbered (λ (numbered : ℕ × Conn). least_held (facts_of numbered.0 past) (length numbered.1.path)) net.conns i c.least_of.result low
    (λ x at. (
    let same = item_is net.conns c.conns-conns.result.now i x conn c.conns-conns.ensures.value c.index-conns-place.is at in
    let hops : c.len-hops.result ≡ length x.path = c.len-hops.ensures ∙ ap (λ (k : Conn). length k.path) (sym c.index-conns-place.is ∙ same) in
    c.least_of.ensures net events x stands at (omega (arith, hops)) ∙ ap (least_held (facts_of i past)) hops)))

pub returns-clause-value : goal.returns-clause-value
returns-clause-value c = λ events stands.
    let net = c.args.net.now in
    let past = facts_after net events in
    let i = c.loop-place.place in
    let over : length net.conns ≤ i = subst (λ (l : List Conn). length l ≤ i) c.conns-conns.ensures.value c.loop-place-test.false in
    c.loop-place.invariant events stands
    ∙ all_numbered (λ (numbered : ℕ × Conn). least_held (facts_of numbered.0 past) (length numbered.1.path)) net.conns i over
