-- The line that was drawn is that of what is counted now.
use Rattle.std.proofs.Common.{◌⊎◌, ℕ, Bool, subst, sym, ap}
use Rattle.std.specs.Io.KnownBytes.{Keeps}
use Rattle.abt_progress.specs.Line.{Draws, line_text}
use Rattle.abt_progress.specs.declared.meter.Meter.{Meter}
use Rattle.abt_progress.proofs.progress.State.count.Goals as goal

pub returns-then-count-clause-draws : goal.returns-then-count-clause-draws
returns-then-count-clause-draws g c = λ due.
    let old = g.E.Write.contents c.args.self.now.drawing.terminal in
    let new = g.E.Write.contents c.draw.new.self.drawing.terminal in
    subst (λ (octets : ℕ). Keeps old new ⊎ Draws (line_text octets c.draw.new.self.ended) old new) (ap (λ (meter : Meter). meter.octets) (sym c.draw.ensures.same.0))
    (subst (λ (ended : Bool). Keeps old new ⊎ Draws (line_text c.count.new.self.octets ended) old new) (sym c.draw.ensures.same.1) c.draw.ensures.draws)
