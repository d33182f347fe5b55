use Rattle.abt_entry.proofs.Adding.{adds_both, line_last}
use Rattle.abt_check.proofs.objects.push_warning.Goals as goal

pub returns : goal.returns
returns c =
    rw (← c.as_str.ensures.value)
    (line_last c.end.result _ _ _ _ _ _ _ c.in_ok-object.ensures c.in_ok-push_text.ensures
    (adds_both _ _ _ _ _ (adds_both _ _ _ _ _ c.in_ok-push_file.ensures c.in_ok-push_place.ensures) c.in_ok-push_text-2.ensures) c.end.ensures)
