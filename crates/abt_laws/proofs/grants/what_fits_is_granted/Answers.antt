use Rattle.abt_laws.proofs.EveryGrant.{every_grant}
use Rattle.abt_laws.proofs.grants.what_fits_is_granted.Goals as goal

pub returns : goal.returns
returns c = record { granted = every_grant }
