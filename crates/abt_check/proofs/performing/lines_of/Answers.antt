use Rattle.std.proofs.Common.{◌∙◌, ap}
use Rattle.abt_check.proofs.performing.lines_of.Goals as goal

pub returns : goal.returns
returns c = record {
  checked = c.in_ok-text.ensures.checked;
  is_check = c.in_ok-text.ensures.is_check;
  told = ap (λ v. v.items) c.into_bytes-octets.ensures.value ∙ c.in_ok-text.ensures.told;
  is_faulty = c.in_ok-text.ensures.faulty;
}
