use Rattle.abt_gcra.proofs.TakenLemmas.{reversed_taken}
use Rattle.abt_gcra.proofs.law.conforming_cells_are_taken.Goals as goal

pub returns : goal.returns
returns c = reversed_taken
