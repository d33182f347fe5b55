-- The text that was made is the line.
use Rattle.std.proofs.Common.{◌∙◌, inr, ℕ, List, subst}
use Rattle.abt_progress.specs.Line.{Draws}
use Rattle.abt_progress.proofs.drawing.Drawing.draw.Goals as goal

pub returns-in-Ok-clause-draws : goal.returns-in-Ok-clause-draws
returns-in-Ok-clause-draws g c =
    inr (subst (λ (text : List ℕ). Draws text (g.E.Write.contents c.args.self.now.terminal) (g.E.Write.contents c.tell.new.terminal))
    (c.as_str.ensures.value ∙ c.in-Ok.ensures) c.tell.ensures)
