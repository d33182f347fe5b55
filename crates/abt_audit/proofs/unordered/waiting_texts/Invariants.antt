-- The lines so far, and those of the entries that are left, are all.
use Rattle.std.proofs.Common.{◌≡◌, drop}
use Rattle.abt_text.specs.Text.{◌⋅◌}
use Rattle.abt_model.specs.Run.{facts_after}
use Rattle.abt_audit.specs.Waits.{waiting_texts}
use Rattle.abt_audit.proofs.unordered.waiting_texts.Given as goal

abbrev pub invariant-loop-stuck : goal.invariant-loop-stuck
invariant-loop-stuck l =
    l.text.items ⋅ waiting_texts l.form l.names l.run (facts_after l.run.net l.events) (drop l.stuck-index l.all)
    ≡ waiting_texts l.form l.names l.run (facts_after l.run.net l.events) l.all
