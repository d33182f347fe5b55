-- The fault is told of this run, with its notes.
use Rattle.std.proofs.Common.{◌∙◌, List, ap, refl}
use Rattle.abt_text.specs.Text.{Text, ◌⋅◌}
use Rattle.abt_journal_text.specs.declared.spot.Spot.{Spot}
use Rattle.abt_audit.specs.Findings.{notes_text}
use Rattle.abt_audit.proofs.performing_one.differing.Goals as goal

pub returns : goal.returns
returns c = (
  refl,
  refl,
  c.in-Ok.lines.items,
  c.in-Ok.ensures,
  c.in-Ok-with_notes.ensures ∙ ap (λ (t : Text). t ⋅ notes_text c.args.form c.as_slice-2.result.now) c.as_slice.ensures.value
      ∙ ap (λ (cuts : List Spot). c.in-Ok.lines.items ⋅ notes_text c.args.form cuts) c.as_slice-2.ensures.value,
)
