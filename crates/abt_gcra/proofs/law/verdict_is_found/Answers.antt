use Rattle.std.proofs.Common.{sym, subst}
use Rattle.abt_gcra.specs.Windows.{IsVerdict, IsVerdictAt}
use Rattle.abt_gcra.proofs.FindingLemmas.{verdict-is, verdict_only, verdict_at-is, verdict_at_only}
use Rattle.abt_gcra.proofs.law.verdict_is_found.Goals as goal

pub returns-clause-of_cell : goal.returns-clause-of_cell
returns-clause-of_cell c = λ tau taken cell verdict.
    (verdict_only tau taken cell verdict, λ found. subst (IsVerdict tau taken cell) (sym found) (verdict-is tau taken cell))

pub returns-clause-at_rate : goal.returns-clause-at_rate
returns-clause-at_rate c = λ tau at held taken verdict.
    (verdict_at_only tau taken at held verdict, λ found. subst (IsVerdictAt tau taken at held) (sym found) (verdict_at-is tau taken at held))
