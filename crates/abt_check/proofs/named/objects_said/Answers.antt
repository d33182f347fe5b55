use Rattle.std.proofs.Common.{◌∙◌, ap}
use Rattle.abt_check.specs.Performed.{has_some}
use Rattle.abt_check.proofs.named.objects_said.Goals as goal

pub returns : goal.returns
returns c = record {
  checked = c.in_ok-checked.checked;
  is_check = c.in_ok-checked.ensures;
  told = rw c.new-octets.ensures.items at c.in_ok-push_objects.ensures;
  faulty = c.has_some-is_faulty.ensures ∙ ap has_some c.as_slice.ensures.value;
}
