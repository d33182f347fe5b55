use Rattle.std.proofs.Common.{◌≡◌, ◌≤◌, ◌<◌, min, length, drop, arith, length-drop, sym, ◌∙◌, append-nil, [], ap}
use Rattle.abt_text.specs.Text.{◌⋅◌}
use Rattle.abt_step.specs.StateWords.{conn_words, conns_between}
use Rattle.abt_step.proofs.Pairs.{conns-end, conns-step, text_grows}
use Rattle.abt_step.proofs.state_words.push_conns.Goals as goal

pub loop-index-preserved : goal.loop-index-preserved
loop-index-preserved c =
    let b = c.args.before.now in
    let a = c.args.after.now in
    let i = c.loop-index.index in
    let rate = c.index-rates-index.result in
    let held = c.index-held-index.result in
    let below_rates : i < length c.args.rates.now = omega (arith, c.loop-index-test.true, c.min-index-end.ensures) in
    let below_held : i < length c.args.held.now = omega (arith, c.loop-index-test.true, c.min-index-end.ensures) in
    let step = conns-step b a i c.args.rates.now c.args.held.now rate held below_rates below_held c.index-rates-index.is c.index-held-index.is in
    text_grows _ _ _ _ _ _ _ c.in_ok-push_conn.ensures (ap (λ h. b ⋅ (conn_words i rate h ⋅ a)) c.as_slice-hops.ensures) step c.loop-index.invariant

pub returns : goal.returns
returns c =
    let b = c.args.before.now in
    let a = c.args.after.now in
    let i = c.loop-index.index in
    let ended : min (length (drop i c.args.rates.now)) (length (drop i c.args.held.now)) ≤ 0 =
    rw (length-drop i c.args.rates.now, length-drop i c.args.held.now) (omega (arith, c.loop-index-test.false, c.min-index-end.ensures)) in
    let none : conns_between b a i (drop i c.args.rates.now) (drop i c.args.held.now) ≡ [] = conns-end b a i _ _ ended in
    sym (append-nil _) ∙ rw none at c.loop-index.invariant
