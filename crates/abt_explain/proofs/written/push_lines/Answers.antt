-- Behind the last place or the last event there is no line.
use Rattle.std.proofs.Common.{◌≡◌, ◌≤◌, ◌+◌, ◌∙◌, min, length, drop, arith, length-drop, sym, append-nil, []}
use Rattle.abt_explain.specs.Written.{lines_from}
use Rattle.abt_explain.proofs.Ends.{lines_end}
use Rattle.abt_explain.proofs.written.push_lines.Goals as goal

pub returns : goal.returns
returns c =
    let i = c.loop-index.index in
    let ended : min (length (drop i c.args.places.now)) (length (drop i c.args.events.now)) ≤ 0 =
    rw (length-drop i c.args.places.now, length-drop i c.args.events.now) (omega (arith, c.loop-index-test.false, c.min-index-end.ensures)) in
    let none : lines_from c.args.source.now (i + 1) (drop i c.args.places.now) (drop i c.args.events.now) ≡ [] = lines_end _ (i + 1) _ _ ended in
    sym (append-nil _) ∙ rw none at c.loop-index.invariant
