use Rattle.std.proofs.Common.{subst}
use Rattle.std.specs.Prelude.{Option}
use Rattle.abt_reason.specs.Sightings.{AreNext}
use Rattle.abt_reason.specs.declared.sighting.Posted.{Posted}
use Rattle.abt_reason.proofs.Sighted.{sightings_next, on_ok_more}
use Rattle.abt_reason.proofs.sightings.Sightings.note.Goals as goal

pub returns : goal.returns
returns c past are is =
    let old = c.args.self.now in
    let new = c.take_down.new.self in
    on_ok_more c.take_down.result c.take_down.ensures
    (λ next. sightings_next c.args.net.now past c.args.event.now c.args.outcome.now old new are is (subst (λ (p : Option Posted). AreNext p old new) c.posted.ensures next))
