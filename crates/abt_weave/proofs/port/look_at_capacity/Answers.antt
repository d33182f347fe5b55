use Rattle.std.proofs.Common.{inl, ◌≡◌, ◌≢◌, ◌∙◌, ◌++◌, ◌∷◌, [], ℕ, refl, ap, sym, subst, length, reverse, false, true, Some}
use Rattle.std.specs.Prelude.{slice_index}
use Rattle.abt_model.specs.declared.event.Event.TheVariants.{Capacity}
use Rattle.abt_model.specs.Outcomes.{outcome_of}
use Rattle.abt_world.specs.Standing.{StandsFor}
use Rattle.abt_weave.specs.Projections.{step_of, reply_of, is_enabled, past_of, steps_on}
use Rattle.abt_weave.specs.declared.trying.Tried.TheVariants.{Agrees, Differs, Absent}
use Rattle.abt_weave.specs.Tried.{IsVisitTried}
use Rattle.abt_weave.specs.Progress.{journaled, total, IsPlacing}
use Rattle.abt_weave.proofs.Pasts.{past-is}
use Rattle.abt_weave.proofs.SourceLooks.{progress_kept, place_is}
use Rattle.abt_weave.proofs.Capped.{misplaced, capacity_absent, capacity_differs, capacity_progress}
use Rattle.abt_weave.proofs.port.look_at_capacity.Goals as goal

pub returns-then-entry-placed : goal.returns-then-entry-placed
returns-then-entry-placed c =
    let net = c.args.given.now.net.now in
    let js = journaled c.args.given.now.ports.now c.args.given.now.sources.now in
    let events = c.args.progress.now.events.items in
    let pp = c.args.progress.now.port_places.items in
    let at = place_is pp c.from-p.result c.args.port c.index-placed.result.now c.from-p.ensures c.requires.port c.index-placed.ensures
    ∙ c.requires.progress.port_places c.args.port c.requires.port in
    (c.requires.progress, refl, refl, misplaced net js (reverse events) c.args.port (step_of c.args.entry.now) c.requires.next (λ e. c.if-entry-placed.true (e ∙ sym at)))

pub returns-in_ok-push-in-Agrees : goal.returns-in_ok-push-in-Agrees
returns-in_ok-push-in-Agrees c =
    let net = c.args.given.now.net.now in
    let js = journaled c.args.given.now.ports.now c.args.given.now.sources.now in
    let events = c.args.progress.now.events.items in
    let sp = c.args.progress.now.source_places.items in
    let pp = c.args.progress.now.port_places.items in
    let event = Capacity c.args.port c.args.capacity in
    let here = place_is pp c.from-p.result c.args.port c.index-placed.result.now c.from-p.ensures c.requires.port c.index-placed.ensures in
    let at = here ∙ c.requires.progress.port_places c.args.port c.requires.port in
    let is : c.in_ok-try_visit.field-0 ≡ Agrees = c.in-Agrees.is in
    let tried = subst (λ t. IsVisitTried net events event c.args.entry.now.reply c.try_visit.new.world t) is (c.in_ok-try_visit.ensures net events c.requires.progress.stands) in
    let pushed = c.in_ok-push-in-Agrees.ensures.items ∙ ap (λ l. l ++ event ∷ []) c.in_ok-reserve.ensures.items in
    let placed = capacity_progress net js events c.push.new.self.items c.args.progress.now.world c.try_visit.new.world sp pp c.args.port c.from-p.result c.index-placed.result.now c.args.capacity (step_of c.args.entry.now)
    c.requires.progress c.requires.port c.requires.next (c.if-entry-placed.false ∙ at) c.requires.input tried.0 tried.1 pushed c.from-p.ensures here in
    (placed.0, placed.1, inl pushed)

pub returns-in_ok-progress-in-Differs : goal.returns-in_ok-progress-in-Differs
returns-in_ok-progress-in-Differs c =
    let net = c.args.given.now.net.now in
    let js = journaled c.args.given.now.ports.now c.args.given.now.sources.now in
    let events = c.args.progress.now.events.items in
    let sp = c.args.progress.now.source_places.items in
    let pp = c.args.progress.now.port_places.items in
    let event = Capacity c.args.port c.args.capacity in
    let here = place_is pp c.from-p.result c.args.port c.index-placed.result.now c.from-p.ensures c.requires.port c.index-placed.ensures in
    let at = here ∙ c.requires.progress.port_places c.args.port c.requires.port in
    let is : c.in_ok-try_visit.field-0 ≡ Differs = c.in-Differs.is in
    let tried = subst (λ t. IsVisitTried net events event c.args.entry.now.reply c.try_visit.new.world t) is (c.in_ok-try_visit.ensures net events c.requires.progress.stands) in
    let same = c.in_ok-reserve.ensures.items in
    let after : StandsFor net events c.in_ok-progress-in-Differs.field-0 = subst (λ l. StandsFor net l c.in_ok-progress-in-Differs.field-0) (c.deref.ensures.value ∙ same) c.in_ok-progress-in-Differs.ensures in (
      progress_kept net js events c.reserve.new.self.items c.args.progress.now.world c.in_ok-progress-in-Differs.field-0 sp pp c.requires.progress after same,
      same,
      refl,
      capacity_differs net js (reverse events) c.args.port c.args.capacity (step_of c.args.entry.now) c.requires.next (c.if-entry-placed.false ∙ at) c.requires.input
          (subst (λ w. is_enabled (outcome_of net w event) ≡ true) (past-is net events) tried.0.0)
          (subst (λ w. reply_of (outcome_of net w event) ≢ Some c.args.entry.now.reply) (past-is net events) tried.0.1),
    )

pub returns-in-Absent : goal.returns-in-Absent
returns-in-Absent c =
    let net = c.args.given.now.net.now in
    let js = journaled c.args.given.now.ports.now c.args.given.now.sources.now in
    let events = c.args.progress.now.events.items in
    let sp = c.args.progress.now.source_places.items in
    let pp = c.args.progress.now.port_places.items in
    let event = Capacity c.args.port c.args.capacity in
    let is : c.in_ok-try_visit.field-0 ≡ Absent = c.in-Absent.is in
    let tried = subst (λ t. IsVisitTried net events event c.args.entry.now.reply c.try_visit.new.world t) is (c.in_ok-try_visit.ensures net events c.requires.progress.stands) in
    let same = c.in_ok-reserve.ensures.items in (
      progress_kept net js events c.reserve.new.self.items c.args.progress.now.world c.try_visit.new.world sp pp c.requires.progress tried.1 same,
      same,
      refl,
      capacity_absent net js (reverse events) c.args.port c.args.capacity (step_of c.args.entry.now) c.requires.next c.requires.input
          (subst (λ w. is_enabled (outcome_of net w event) ≡ false) (past-is net events) tried.0),
    )
