use Rattle.abt_lifetime.proofs.Lives.{numbers_kept}
use Rattle.abt_lifetime.proofs.laws.numbers_rise_over_any_store.Goals as goal

pub returns : goal.returns
returns c = record { kept = numbers_kept }
