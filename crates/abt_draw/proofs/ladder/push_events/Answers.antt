-- Behind the last event there is no line.
use Rattle.std.proofs.Common.{◌≡◌, ◌≤◌, ◌∙◌, min, length, drop, arith, length-drop, sym, append-nil, []}
use Rattle.abt_draw.specs.Ladders.{events_text}
use Rattle.abt_draw.proofs.Counted.{events_end}
use Rattle.abt_draw.proofs.ladder.push_events.Goals as goal

pub returns : goal.returns
returns c =
    let i = c.loop-index.index in
    let tolds = c.shown_in-tolds.result.now in
    let crossings = c.as_slice-crossings.result.now in
    let ended : min (length (drop i tolds)) (length (drop i crossings)) ≤ 0 =
    rw (length-drop i tolds, length-drop i crossings) (omega (arith, c.loop-index-test.false, c.min-index-end.ensures)) in
    let none : events_text c.args.sheet.now (drop i tolds) (drop i crossings) c.loop-index.rest.now ≡ [] = events_end c.args.sheet.now (drop i tolds) (drop i crossings) c.loop-index.rest.now ended in
    rw (← c.shown_in-tolds.ensures, ← c.as_slice-crossings.ensures, ← c.lines_behind-rest.ensures)
    (sym (append-nil _) ∙ rw none at c.loop-index.invariant.1)
