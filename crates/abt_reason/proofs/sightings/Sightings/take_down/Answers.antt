use Rattle.std.proofs.Common.{sym, ap, ◌∙◌}
use Rattle.std.specs.Prelude.{Option, Some}
use Rattle.std.specs.Map.{lookup}
use Rattle.abt_reason.specs.Sightings.{newest_of, same_message, SightingsView}
use Rattle.abt_reason.specs.declared.sighting.Posted.{Posted}
use Rattle.abt_reason.proofs.sightings.Sightings.take_down.Goals as goal

pub returns-in_ok-insert-in-Some : goal.returns-in_ok-insert-in-Some
returns-in_ok-insert-in-Some c = λ d q.
    c.in_ok-insert-in-Some.ensures.updates.0 (d, q)
    ∙ ap (λ (view : SightingsView). newest_of (Some c.in-Some.field-0) d q (lookup (same_message (d, q)) view.entries)) c.self.view_is
    ∙ ap (λ (p : Option Posted). newest_of p d q (lookup (same_message (d, q)) c.args.self.now.entries)) (sym c.in-Some.is)
