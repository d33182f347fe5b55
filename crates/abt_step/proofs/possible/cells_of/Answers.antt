use Rattle.std.proofs.Common.{ℕ, ◌<◌, ◌≤◌, ◌++◌, [], ◌∷◌, List, Some, length, subst, sym, ap, ◌∙◌}
use Rattle.abt_model.specs.Past.{facts_of}
use Rattle.abt_model.specs.Run.{facts_after}
use Rattle.abt_net.specs.declared.conn.Conn.{Conn}
use Rattle.abt_step.specs.Possible.{windows_of}
use Rattle.abt_step.specs.declared.possible.CellWindow.{CellWindow}
use Rattle.abt_step.proofs.Numbered.{next_numbered, all_from, item_is}
use Rattle.abt_step.proofs.possible.cells_of.Goals as goal

pub loop-conn-preserved : goal.loop-conn-preserved
loop-conn-preserved c = λ events stands.
    let net = c.args.net.now in
    let past = facts_after net events in
    let i = c.loop-conn.conn in
    let conn = c.index-conns-conn.result in
    let windows = c.in_ok-windows_of.field-0 in
    let low : i < length net.conns = subst (λ (l : List Conn). i < length l) c.conns-conns.ensures.value c.loop-conn-test.true in
    c.in_ok-push.ensures.ok ∙ ap (λ (l : List (List CellWindow)). l ++ windows ∷ []) (c.loop-conn.invariant events stands)
    ∙ sym (next_numbered (λ (numbered : ℕ × Conn). windows_of numbered.0 numbered.1 (facts_of numbered.0 past)) net.conns i windows low
    (λ x at. (
    let same = item_is net.conns c.conns-conns.result.now i x conn c.conns-conns.ensures.value c.index-conns-conn.is at in
    c.in_ok-windows_of.ensures net events stands (at ∙ ap Some (sym same)) ∙ ap (λ (k : Conn). windows_of i k (facts_of i past)) same)))

pub returns : goal.returns
returns c = λ events stands.
    let net = c.args.net.now in
    let past = facts_after net events in
    let i = c.loop-conn.conn in
    let over : length net.conns ≤ i = subst (λ (l : List Conn). length l ≤ i) c.conns-conns.ensures.value c.loop-conn-test.false in
    c.loop-conn.invariant events stands ∙ all_from (λ (numbered : ℕ × Conn). windows_of numbered.0 numbered.1 (facts_of numbered.0 past)) 0 net.conns i over
