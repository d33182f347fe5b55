use Rattle.abt_gcra.proofs.PassageLemmas.{shaped_conform}
use Rattle.abt_gcra.proofs.TakenLemmas.{reversed_taken}
use Rattle.abt_gcra.proofs.law.shaped_cells_conform.Goals as goal

pub returns-clause-conform : goal.returns-clause-conform
returns-clause-conform c = λ delay tau cells shaped delayed ordered held. shaped_conform delay tau cells shaped delayed held

pub returns-clause-verdicts : goal.returns-clause-verdicts
returns-clause-verdicts c = λ delay tau cells verdicts shaped delayed ordered held are.
    reversed_taken tau _ verdicts (shaped_conform delay tau cells shaped delayed held) are
