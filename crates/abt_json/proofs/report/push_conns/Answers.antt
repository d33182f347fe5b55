use Rattle.std.proofs.Common.{◌≡◌, ◌≤◌, ◌<◌, min, length, drop, arith, length-drop, sym, ◌∙◌, append-nil, [], ap, ℕ}
use Rattle.abt_json.specs.Objects.{conn_object, conn_objects}
use Rattle.abt_json.proofs.Pairs.{conn_objects-end, conn_objects-step, text_grows}
use Rattle.abt_json.proofs.report.push_conns.Goals as goal

pub loop-index-preserved : goal.loop-index-preserved
loop-index-preserved c =
    let i = c.loop-index.index in
    let rate = c.index-rates-index.result in
    let held = c.index-held-index.result in
    let below_rates : i < length c.args.rates.now = omega (arith, c.loop-index-test.true, c.min-index-end.ensures) in
    let below_held : i < length c.args.held.now = omega (arith, c.loop-index-test.true, c.min-index-end.ensures) in
    let step = conn_objects-step i c.args.rates.now c.args.held.now rate held below_rates below_held c.index-rates-index.is c.index-held-index.is in
    text_grows _ _ _ _ _ _ _ c.in_ok-push_conn_object.ensures (ap (conn_object i rate) c.as_slice.ensures) step c.loop-index.invariant

pub returns : goal.returns
returns c =
    let i = c.loop-index.index in
    let ended : min (length (drop i c.args.rates.now)) (length (drop i c.args.held.now)) ≤ 0 =
    rw (length-drop i c.args.rates.now, length-drop i c.args.held.now) (omega (arith, c.loop-index-test.false, c.min-index-end.ensures)) in
    let none : conn_objects i (drop i c.args.rates.now) (drop i c.args.held.now) ≡ [] = conn_objects-end i _ _ ended in
    sym (append-nil _) ∙ rw none at c.loop-index.invariant
