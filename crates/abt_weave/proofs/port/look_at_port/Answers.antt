use Rattle.std.proofs.Common.{inl, ◌≡◌, ◌∙◌, ◌<◌, ◌+◌, ◌++◌, ◌∷◌, [], ℕ, refl, ap, sym, subst, length, reverse, rules, arith, Some, None, false}
use Rattle.std.specs.Prelude.{slice_index}
use Rattle.std.proofs.lemmas.List.{length-map}
use Rattle.abt_world.specs.Standing.{StandsFor}
use Rattle.abt_model.specs.Outcomes.{outcome_of}
use Rattle.abt_model.specs.Run.{facts_after}
use Rattle.abt_weave.specs.Projections.{step_of, is_enabled}
use Rattle.abt_weave.specs.declared.trying.Tried.TheVariants.{Agrees, Differs, Absent}
use Rattle.abt_weave.specs.Tried.{IsVisitTried}
use Rattle.abt_weave.specs.Progress.{journaled, IsPlacing, IsPortSettled}
use Rattle.abt_weave.specs.Comes.{IsExpected}
use Rattle.abt_weave.proofs.SourceLooks.{progress_kept}
use Rattle.abt_weave.proofs.PortLooks.{step_read, step_at_place, no_step, port_done, none_settled, expected_differs}
use Rattle.abt_weave.proofs.PortPlaces.{expected_placed}
use Rattle.abt_weave.proofs.port.look_at_port.Goals as goal

pub returns-then-place-entries : goal.returns-then-place-entries
returns-then-place-entries c =
    let net = c.args.given.now.net.now in
    let ports = c.args.given.now.ports.now in
    let sources = c.args.given.now.sources.now in
    let js = journaled ports sources in
    let events = c.args.progress.now.events.items in
    let sp = c.args.progress.now.source_places.items in
    let pp = c.args.progress.now.port_places.items in
    let read = step_read net ports sources events c.args.progress.now.world sp pp c.args.port c.from-p.result c.index-given-p.result c.as_slice-entries.result.now c.index-place.result.now c.requires.progress
    c.from-p.ensures c.requires.port c.index-given-p.is c.as_slice-entries.ensures.value c.index-place.ensures in
    (c.requires.progress, refl, refl, port_done net js (reverse events) c.args.port (read.0 ∙ no_step c.as_slice-entries.result.now c.index-place.result.now c.if-place-entries.true))

pub expect_event-requires-clause-next : goal.expect_event-requires-clause-next
expect_event-requires-clause-next c =
    let net = c.args.given.now.net.now in
    let ports = c.args.given.now.ports.now in
    let sources = c.args.given.now.sources.now in
    let js = journaled ports sources in
    let events = c.args.progress.now.events.items in
    let sp = c.args.progress.now.source_places.items in
    let pp = c.args.progress.now.port_places.items in
    let read = step_read net ports sources events c.args.progress.now.world sp pp c.args.port c.from-p.result c.index-given-p.result c.as_slice-entries.result.now c.index-place.result.now c.requires.progress
    c.from-p.ensures c.requires.port c.index-given-p.is c.as_slice-entries.ensures.value c.index-place.ensures in
    let low : c.index-place.result.now < length c.as_slice-entries.result.now = omega arith in
    read.0 ∙ step_at_place c.as_slice-entries.result.now c.index-place.result.now c.index-entries-place.result low c.index-entries-place.is

pub returns-in_default-expect_event : goal.returns-in_default-expect_event
returns-in_default-expect_event c =
    let net = c.args.given.now.net.now in
    let ports = c.args.given.now.ports.now in
    let sources = c.args.given.now.sources.now in
    let js = journaled ports sources in
    let events = c.args.progress.now.events.items in
    let sp = c.args.progress.now.source_places.items in
    let pp = c.args.progress.now.port_places.items in
    let read = step_read net ports sources events c.args.progress.now.world sp pp c.args.port c.from-p.result c.index-given-p.result c.as_slice-entries.result.now c.index-place.result.now c.requires.progress
    c.from-p.ensures c.requires.port c.index-given-p.is c.as_slice-entries.ensures.value c.index-place.ensures in
    let low : c.index-place.result.now < length c.as_slice-entries.result.now = omega arith in
    let next = read.0 ∙ step_at_place c.as_slice-entries.result.now c.index-place.result.now c.index-entries-place.result low c.index-entries-place.is in
    (c.requires.progress, refl, refl, none_settled net js c.in_default-expect_event.ensures.rules (reverse events) c.args.port c.index-entries-place.result next c.in_default.not-Capacity (c.in_default-expect_event.ensures.none refl))

pub returns-in_ok-push-in-Agrees : goal.returns-in_ok-push-in-Agrees
returns-in_ok-push-in-Agrees c =
    let net = c.args.given.now.net.now in
    let ports = c.args.given.now.ports.now in
    let sources = c.args.given.now.sources.now in
    let js = journaled ports sources in
    let events = c.args.progress.now.events.items in
    let sp = c.args.progress.now.source_places.items in
    let pp = c.args.progress.now.port_places.items in
    let read = step_read net ports sources events c.args.progress.now.world sp pp c.args.port c.from-p.result c.index-given-p.result c.as_slice-entries.result.now c.index-place.result.now c.requires.progress
    c.from-p.ensures c.requires.port c.index-given-p.is c.as_slice-entries.ensures.value c.index-place.ensures in
    let is : c.in_ok-try_visit.field-0 ≡ Agrees = c.in-Agrees.is in
    let tried = subst (λ t. IsVisitTried net events c.in-Some.it.event c.index-entries-place.result.reply c.try_visit.new.world t) is (c.in_ok-try_visit.ensures net events c.requires.progress.stands) in
    let pushed = c.in_ok-push-in-Agrees.ensures.items ∙ ap (λ l. l ++ c.in-Some.it.event ∷ []) c.in_ok-reserve.ensures.items in
    let lowp : c.args.port < length pp = subst (λ n. c.args.port < n) (sym (c.requires.progress.port_count ∙ length-map ports _)) c.requires.port in
    let placed = expected_placed net js events c.push.new.self.items c.args.progress.now.world c.try_visit.new.world sp pp c.args.port c.from-p.result c.index-place.result.now c.index-entries-place.result.place c.in-Some.it.conn c.from.result
    c.in-Some.it.reached c.in-Some.it.event c.index-entries-place.result.input c.index-entries-place.result.reply c.requires.progress c.in-Some.ensures.some tried.0 tried.1 c.from-p.ensures c.from.ensures lowp read.1 pushed in
    (placed.0, placed.1, inl pushed)

pub returns-in_ok-progress-in-Differs : goal.returns-in_ok-progress-in-Differs
returns-in_ok-progress-in-Differs c =
    let net = c.args.given.now.net.now in
    let ports = c.args.given.now.ports.now in
    let sources = c.args.given.now.sources.now in
    let js = journaled ports sources in
    let events = c.args.progress.now.events.items in
    let sp = c.args.progress.now.source_places.items in
    let pp = c.args.progress.now.port_places.items in
    let read = step_read net ports sources events c.args.progress.now.world sp pp c.args.port c.from-p.result c.index-given-p.result c.as_slice-entries.result.now c.index-place.result.now c.requires.progress
    c.from-p.ensures c.requires.port c.index-given-p.is c.as_slice-entries.ensures.value c.index-place.ensures in
    let is : c.in_ok-try_visit.field-0 ≡ Differs = c.in-Differs.is in
    let tried = subst (λ t. IsVisitTried net events c.in-Some.it.event c.index-entries-place.result.reply c.try_visit.new.world t) is (c.in_ok-try_visit.ensures net events c.requires.progress.stands) in
    let same = c.in_ok-reserve.ensures.items in
    let after : StandsFor net events c.in_ok-progress-in-Differs.field-0 = subst (λ l. StandsFor net l c.in_ok-progress-in-Differs.field-0) (c.deref.ensures.value ∙ same) c.in_ok-progress-in-Differs.ensures in (
      progress_kept net js events c.reserve.new.self.items c.args.progress.now.world c.in_ok-progress-in-Differs.field-0 sp pp c.requires.progress after same,
      same,
      refl,
      expected_differs net js events sp c.args.port c.index-entries-place.result.place c.index-entries-place.result.input c.index-entries-place.result.reply c.in-Some.it.conn c.in-Some.it.reached c.in-Some.it.event
          c.in-Some.ensures.some tried.0.0 tried.0.1,
    )

pub look_after_turn-requires-clause-progress : goal.look_after_turn-requires-clause-progress
look_after_turn-requires-clause-progress c =
    let net = c.args.given.now.net.now in
    let ports = c.args.given.now.ports.now in
    let sources = c.args.given.now.sources.now in
    let js = journaled ports sources in
    let events = c.args.progress.now.events.items in
    let sp = c.args.progress.now.source_places.items in
    let pp = c.args.progress.now.port_places.items in
    let is : c.in_ok-try_visit.field-0 ≡ Absent = c.in-Absent.is in
    let tried = subst (λ t. IsVisitTried net events c.in-Some.it.event c.index-entries-place.result.reply c.try_visit.new.world t) is (c.in_ok-try_visit.ensures net events c.requires.progress.stands) in
    let same = c.in_ok-reserve.ensures.items in
    progress_kept net js events c.reserve.new.self.items c.args.progress.now.world c.try_visit.new.world sp pp c.requires.progress tried.1 same

pub look_after_turn-requires-clause-absent : goal.look_after_turn-requires-clause-absent
look_after_turn-requires-clause-absent c =
    let net = c.args.given.now.net.now in
    let ports = c.args.given.now.ports.now in
    let sources = c.args.given.now.sources.now in
    let js = journaled ports sources in
    let events = c.args.progress.now.events.items in
    let sp = c.args.progress.now.source_places.items in
    let pp = c.args.progress.now.port_places.items in
    let is : c.in_ok-try_visit.field-0 ≡ Absent = c.in-Absent.is in
    let tried = subst (λ t. IsVisitTried net events c.in-Some.it.event c.index-entries-place.result.reply c.try_visit.new.world t) is (c.in_ok-try_visit.ensures net events c.requires.progress.stands) in
    let same = c.in_ok-reserve.ensures.items in
    subst (λ l. is_enabled (outcome_of net (facts_after net l) c.in-Some.it.event) ≡ false) (sym same) tried.0

pub look_at_capacity-requires-clause-next : goal.look_at_capacity-requires-clause-next
look_at_capacity-requires-clause-next c =
    let net = c.args.given.now.net.now in
    let ports = c.args.given.now.ports.now in
    let sources = c.args.given.now.sources.now in
    let events = c.args.progress.now.events.items in
    let sp = c.args.progress.now.source_places.items in
    let pp = c.args.progress.now.port_places.items in
    let read = step_read net ports sources events c.args.progress.now.world sp pp c.args.port c.from-p.result c.index-given-p.result c.as_slice-entries.result.now c.index-place.result.now c.requires.progress
    c.from-p.ensures c.requires.port c.index-given-p.is c.as_slice-entries.ensures.value c.index-place.ensures in
    let low : c.index-place.result.now < length c.as_slice-entries.result.now = omega arith in
    read.0 ∙ step_at_place c.as_slice-entries.result.now c.index-place.result.now c.index-entries-place.result low c.index-entries-place.is
