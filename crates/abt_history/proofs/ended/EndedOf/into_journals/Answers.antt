use Rattle.std.proofs.Common.{subst}
use Rattle.abt_history.specs.Legal.{IsLegal}
use Rattle.abt_history.proofs.Closing.{can_be_woven}
use Rattle.abt_history.proofs.Modes.{of_both}
use Rattle.abt_history.proofs.ended.EndedOf.into_journals.Goals as goal

pub returns-clause-woven : goal.returns-clause-woven
returns-clause-woven g c =
    let k = g.K.Keeping in
    of_both k.kept c.again.ensures.legal c.self.invariant (λ legal its.
    can_be_woven k.net _ _ (k.log c.self.inside.front) (subst (IsLegal k.net) c.again.ensures.value legal.1) its)
