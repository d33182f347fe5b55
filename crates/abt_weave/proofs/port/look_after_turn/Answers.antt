use Rattle.std.proofs.Common.{inr, ◌≡◌, ◌≢◌, ◌∙◌, ◌++◌, ◌∷◌, [], refl, ap, subst, Some}
use Rattle.abt_model.specs.Outcomes.{outcome_of}
use Rattle.abt_model.specs.Run.{facts_after}
use Rattle.abt_world.specs.Standing.{StandsFor}
use Rattle.abt_weave.specs.Projections.{reply_of}
use Rattle.abt_weave.specs.declared.trying.Tried.TheVariants.{Agrees}
use Rattle.abt_weave.specs.Tried.{IsVisitTried, IsTurnTried}
use Rattle.abt_weave.specs.Progress.{journaled}
use Rattle.abt_weave.proofs.SourceLooks.{progress_kept, place_is}
use Rattle.abt_weave.proofs.PortLooks.{expected_absent, expected_turn_differs, expected_after, turn_off}
use Rattle.abt_weave.proofs.Needed.{turn_needed}
use Rattle.abt_weave.proofs.PortPlaces.{expected_placed, turn_placed}
use Rattle.abt_weave.proofs.Tries.{not_agreed}
use Rattle.abt_weave.proofs.port.look_after_turn.Goals as goal

pub returns-in_default : goal.returns-in_default
returns-in_default c =
    let net = c.args.given.now.net.now in
    let ports = c.args.given.now.ports.now in
    let sources = c.args.given.now.sources.now in
    let js = journaled ports sources in
    let events = c.args.progress.now.events.items in
    let sp = c.args.progress.now.source_places.items in
    let pp = c.args.progress.now.port_places.items in (
      c.requires.progress,
      refl,
      refl,
      expected_absent net js events sp c.args.port c.args.entry.now.place c.args.entry.now.input c.args.entry.now.reply c.args.it.conn c.args.it.reached c.args.it.event c.requires.expected c.requires.absent
          (λ d seq yes_of happens. c.in_default.ensures.none refl d seq yes_of),
    )

pub returns-then-not-branch : goal.returns-then-not-branch
returns-then-not-branch c =
    let net = c.args.given.now.net.now in
    let ports = c.args.given.now.ports.now in
    let sources = c.args.given.now.sources.now in
    let js = journaled ports sources in
    let events = c.args.progress.now.events.items in
    let sp = c.args.progress.now.source_places.items in
    let pp = c.args.progress.now.port_places.items in
    let its = c.in-Some.ensures.some in
    let went = subst (λ b. IsTurnTried net events c.in-Some.turn c.try_turn.new.world b) c.if-not-branch.true (c.in_ok-try_turn.ensures net events c.requires.progress.stands) in (
      progress_kept net js events events c.args.progress.now.world c.try_turn.new.world sp pp c.requires.progress went.1 refl,
      refl,
      refl,
      expected_absent net js events sp c.args.port c.args.entry.now.place c.args.entry.now.input c.args.entry.now.reply c.args.it.conn c.args.it.reached c.args.it.event c.requires.expected c.requires.absent
          (turn_off net (facts_after net events) c.args.it.event c.in-Some.turn its went.0),
    )

pub returns-in_ok-push-in-Agrees-2 : goal.returns-in_ok-push-in-Agrees-2
returns-in_ok-push-in-Agrees-2 c =
    let net = c.args.given.now.net.now in
    let ports = c.args.given.now.ports.now in
    let sources = c.args.given.now.sources.now in
    let js = journaled ports sources in
    let events = c.args.progress.now.events.items in
    let sp = c.args.progress.now.source_places.items in
    let pp = c.args.progress.now.port_places.items in
    let its = c.in-Some.ensures.some in
    let went = subst (λ b. IsTurnTried net events c.in-Some.turn c.try_turn.new.world b) c.if-not-branch.false (c.in_ok-try_turn.ensures net events c.requires.progress.stands) in
    let same = c.in_ok-reserve.ensures.items in
    let is : c.in_ok-try_visit.field-0 ≡ Agrees = c.in-Agrees.is in
    let tried = subst (λ t. IsVisitTried net (events ++ c.in-Some.turn ∷ []) c.args.it.event c.args.entry.now.reply c.try_visit.new.world t) is (c.in_ok-try_visit.ensures net (events ++ c.in-Some.turn ∷ []) went.1) in
    let it = expected_after net js events sp c.args.port c.args.entry.now.place c.args.entry.now.input c.args.entry.now.reply c.args.it.conn c.args.it.reached c.args.it.event c.in-Some.turn c.requires.expected its went.0 in
    let needed = turn_needed net js events sp c.args.port c.args.entry.now.place c.args.entry.now.input c.args.entry.now.reply c.args.it.conn c.args.it.reached c.args.it.event c.in-Some.turn its went.0 c.requires.absent it tried.0 in
    let later = turn_placed net js events c.args.progress.now.world c.try_turn.new.world sp pp c.args.it.event c.in-Some.turn c.requires.progress its went.1 needed in
    let pushed = c.in_ok-push-in-Agrees-2.ensures.items ∙ ap (λ l. l ++ c.args.it.event ∷ []) (c.in_ok-push-in-Agrees.ensures.items ∙ ap (λ l. l ++ c.in-Some.turn ∷ []) same) in
    let at = place_is pp c.from-in-Agrees.result c.args.port c.index_mut-in-Agrees.result.now c.from-in-Agrees.ensures c.requires.port c.index_mut-in-Agrees.ensures.value in
    let placed = expected_placed net js (events ++ c.in-Some.turn ∷ []) c.push-in-Agrees.new.self.items c.try_turn.new.world c.try_visit.new.world sp pp c.args.port c.from-in-Agrees.result c.index_mut-in-Agrees.result.now c.args.entry.now.place c.args.it.conn c.from.result
    c.args.it.reached c.args.it.event c.args.entry.now.input c.args.entry.now.reply later it tried.0 tried.1 c.from-in-Agrees.ensures c.from.ensures c.requires.port at pushed in
    (placed.0, placed.1, inr (c.in-Some.turn, its, pushed))

pub returns-in_ok-progress-in_default-2 : goal.returns-in_ok-progress-in_default-2
returns-in_ok-progress-in_default-2 c =
    let net = c.args.given.now.net.now in
    let ports = c.args.given.now.ports.now in
    let sources = c.args.given.now.sources.now in
    let js = journaled ports sources in
    let events = c.args.progress.now.events.items in
    let sp = c.args.progress.now.source_places.items in
    let pp = c.args.progress.now.port_places.items in
    let its = c.in-Some.ensures.some in
    let went = subst (λ b. IsTurnTried net events c.in-Some.turn c.try_turn.new.world b) c.if-not-branch.false (c.in_ok-try_turn.ensures net events c.requires.progress.stands) in
    let same = c.in_ok-reserve.ensures.items in
    let differ : reply_of (outcome_of net (facts_after net (events ++ c.in-Some.turn ∷ [])) c.args.it.event) ≢ Some c.args.entry.now.reply =
    not_agreed net (events ++ c.in-Some.turn ∷ []) c.args.it.event c.args.entry.now.reply c.try_visit.new.world c.in_ok-try_visit.field-0 c.in_default-2.not-Agrees (c.in_ok-try_visit.ensures net (events ++ c.in-Some.turn ∷ []) went.1) in
    let after : StandsFor net events c.in_ok-progress-in_default-2.field-0 = subst (λ l. StandsFor net l c.in_ok-progress-in_default-2.field-0) (c.deref.ensures.value ∙ same) c.in_ok-progress-in_default-2.ensures in (
      progress_kept net js events c.reserve.new.self.items c.args.progress.now.world c.in_ok-progress-in_default-2.field-0 sp pp c.requires.progress after same,
      same,
      refl,
      expected_turn_differs net js events sp c.args.port c.args.entry.now.place c.args.entry.now.input c.args.entry.now.reply c.args.it.conn c.args.it.reached c.args.it.event c.in-Some.turn c.requires.expected c.requires.absent its went.0 differ,
    )
