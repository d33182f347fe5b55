use Rattle.abt_cell.specs.Damage.{error_of}
use Rattle.abt_cell.proofs.Damaged.{damaged_refused, error-lt}
use Rattle.abt_cell.proofs.Errors.{few_show, odd_shows, burst_shows}
use Rattle.abt_cell.proofs.law.damage_is_refused.Goals as goal

pub returns-clause-few : goal.returns-clause-few
returns-clause-few c = λ rm sent received damaged some few.
    damaged_refused rm sent received damaged (few_show (error_of sent received) (error-lt rm sent received damaged) some few)

pub returns-clause-odd : goal.returns-clause-odd
returns-clause-odd c = λ rm sent received damaged odd. damaged_refused rm sent received damaged (odd_shows (error_of sent received) odd)

pub returns-clause-burst : goal.returns-clause-burst
returns-clause-burst c = λ rm sent received damaged burst. damaged_refused rm sent received damaged (burst_shows (error_of sent received) burst)
