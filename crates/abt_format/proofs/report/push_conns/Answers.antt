use Rattle.std.proofs.Common.{◌≡◌, ◌≤◌, ◌<◌, min, length, drop, arith, length-drop, sym, ◌∙◌, append-nil, [], string_bytes, ap, ℕ}
use Rattle.std.proofs.lemmas.Grind.{common_steps}
use Rattle.abt_format.specs.Report.{conn_line, conn_lines}
use Rattle.abt_format.proofs.Pairs.{conn_lines-end, conn_lines-step, text_grows}
use Rattle.abt_format.proofs.report.push_conns.Goals as goal

pub loop-index-preserved : goal.loop-index-preserved
loop-index-preserved c =
    let i = c.loop-index.index in
    let rate = c.index-rates-index.result in
    let held = c.index-held-index.result in
    let below_rates : i < length c.args.rates.now = omega (arith, c.loop-index-test.true, c.min-index-end.ensures) in
    let below_held : i < length c.args.held.now = omega (arith, c.loop-index-test.true, c.min-index-end.ensures) in
    let step = conn_lines-step i c.args.rates.now c.args.held.now rate held below_rates below_held c.index-rates-index.is c.index-held-index.is in
    let line : c.as_str.result.now ≡ conn_line i rate held =
    c.as_str.ensures.value ∙ c.in_ok-line.ensures ∙ ap (conn_line i rate) c.as_slice.ensures in
    text_grows _ _ _ _ _ _ _ c.in_ok-push_str.ensures.bytes line step c.loop-index.invariant

pub returns : goal.returns
returns c =
    let i = c.loop-index.index in
    let ended : min (length (drop i c.args.rates.now)) (length (drop i c.args.held.now)) ≤ 0 =
    rw (length-drop i c.args.rates.now, length-drop i c.args.held.now) (omega (arith, c.loop-index-test.false, c.min-index-end.ensures)) in
    let none : conn_lines i (drop i c.args.rates.now) (drop i c.args.held.now) ≡ [] = conn_lines-end i _ _ ended in
    sym (append-nil _) ∙ rw none at c.loop-index.invariant
