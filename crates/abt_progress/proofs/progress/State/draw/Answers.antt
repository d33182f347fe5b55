-- The line is that of what was counted.
use Rattle.std.proofs.Common.{◌⊎◌, ℕ, subst}
use Rattle.std.specs.Io.KnownBytes.{Keeps}
use Rattle.abt_progress.specs.Line.{Draws, line_text}
use Rattle.abt_progress.proofs.progress.State.draw.Goals as goal

pub returns-clause-draws : goal.returns-clause-draws
returns-clause-draws g c =
    let old = g.E.Write.contents c.args.self.now.drawing.terminal in
    let new = g.E.Write.contents c.draw.new.self.terminal in
    subst (λ (octets : ℕ). Keeps old new ⊎ Draws (line_text octets c.args.self.now.ended) old new) c.octets.ensures c.draw.ensures.draws
