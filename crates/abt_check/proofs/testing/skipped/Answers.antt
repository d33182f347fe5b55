-- The warnings that are told are those of the check.
use Rattle.std.proofs.Common.{refl, rules}
use Rattle.abt_check.proofs.testing.skipped.Goals as goal

pub returns : goal.returns
returns c = (
  refl,
  record {
    checked = c.in_ok-checked.checked;
    is_check = c.in_ok-checked.ensures;
    told = search rules;
  },
)
