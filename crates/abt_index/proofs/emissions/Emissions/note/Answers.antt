use Rattle.std.proofs.Common.{◌∷◌, ◌∙◌, ap, length}
use Rattle.std.specs.Prelude.{reverse}
use Rattle.std.specs.List.{enumerate_from}
use Rattle.abt_index.specs.FactIndex.{EmissionsView}
use Rattle.abt_index.proofs.Emitted.{next_moment}
use Rattle.abt_index.proofs.emissions.Emissions.note.Goals as goal

pub returns-clause-moments : goal.returns-clause-moments
returns-clause-moments c =
    ap (λ xs. reverse (enumerate_from 0 xs)) c.push_reserved.ensures.items ∙ next_moment c.self.inside.moments.items c.args.at
    ∙ ap (λ (view : EmissionsView). (length view.moments, c.args.at) ∷ view.moments) c.self.view_is
