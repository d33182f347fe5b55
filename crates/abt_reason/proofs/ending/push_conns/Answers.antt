use Rattle.std.proofs.Common.{◌≡◌, ◌++◌, ◌≤◌, ◌<◌, min, length, drop, arith, length-drop, sym, ◌∙◌, append-nil, [], string_bytes, ap}
use Rattle.abt_reason.specs.Ending.{conn_line, conn_lines}
use Rattle.abt_reason.proofs.Lines.{conn_lines-end, conn_lines-step, text_grows}
use Rattle.abt_reason.proofs.ending.push_conns.Goals as goal

pub loop-index-preserved : goal.loop-index-preserved
loop-index-preserved c =
    let i = c.loop-index.index in
    let conn = c.index-conns-index.result in
    let rate = c.index-rates-index.result in
    let hops = c.index-held-index.result in
    let below_conns : i < length c.args.conns.now = omega (arith, c.loop-index-test.true, c.min-index-end.ensures, c.min.ensures) in
    let below_rates : i < length c.args.rates.now = omega (arith, c.loop-index-test.true, c.min-index-end.ensures, c.min.ensures) in
    let below_held : i < length c.args.held.now = omega (arith, c.loop-index-test.true, c.min-index-end.ensures) in
    let step = conn_lines-step i c.args.conns.now c.args.rates.now c.args.held.now conn rate hops below_conns below_rates below_held
    c.index-conns-index.is c.index-rates-index.is c.index-held-index.is in
    let grown : string_bytes c.push_conn.new.text ≡ string_bytes c.loop-index.text ++ conn_line i conn rate hops =
    c.in_ok-push_conn.ensures ∙ ap (λ held. string_bytes c.loop-index.text ++ conn_line i conn rate held) c.as_slice-hops.ensures in
    text_grows _ _ _ _ _ _ grown step c.loop-index.invariant

pub returns : goal.returns
returns c =
    let i = c.loop-index.index in
    let conns = drop i c.args.conns.now in
    let rates = drop i c.args.rates.now in
    let held = drop i c.args.held.now in
    let ended : min (min (length conns) (length rates)) (length held) ≤ 0 =
    rw (length-drop i c.args.conns.now, length-drop i c.args.rates.now, length-drop i c.args.held.now)
    (omega (arith, c.loop-index-test.false, c.min-index-end.ensures, c.min.ensures)) in
    let none : conn_lines i conns rates held ≡ [] = conn_lines-end i conns rates held ended in
    sym (append-nil _) ∙ rw none at c.loop-index.invariant
