use Rattle.std.proofs.Common.{◌≡◌, length, ap, sym, subst, ◌∙◌}
use mathlib.Core.List.{IsPrefix}
use Rattle.abt_journal.specs.Journaled.{Journaled}
use Rattle.abt_journal.specs.declared.input.PortInput.{PortInput}
use Rattle.abt_history.specs.Sites.{HasBrought}
use Rattle.abt_history.specs.Stations.{StationView, CameTo}
use Rattle.abt_history.proofs.Going.{may_go}
use Rattle.abt_history.proofs.Modes.{of_kept, of_both}
use Rattle.abt_history.proofs.Stations.{stays_station, numbered, came_so, same_fault, tells_wounds}
use Rattle.abt_history.proofs.Visited.{visits, may_visit, has_visited}
use Rattle.abt_history.proofs.station.StationOf.meet.Goals as goal

pub returns-in_err-place-clause-wound : goal.returns-in_err-place-clause-wound
returns-in_err-place-clause-wound g c =
    let k = g.K.Keeping in
    let s = c.self.inside in
    let inside : StationView = record { port = s.state.opening.id; state = s.state; front = k.log s.front } in
    let same : c.from_residual.result ≡ c.step.result = same_fault c.from_residual.result c.in_err-place.field-0.0 c.from_residual.ensures.1 ∙ sym c.in_err-place.was in
    let tells = tells_wounds k.net inside c.args.self.now c.step.result c.from_residual.result c.id-port.result c.args.seat.now.receipts c.id-port.ensures.opening c.self.view_is same c.step.ensures.wound in
    λ seen found is. (tells seen found).0 is

pub note-out-requires-clause-may : goal.note-out-requires-clause-may
note-out-requires-clause-may g c =
    let k = g.K.Keeping in
    let v = c.args.visitor.now in
    of_both k.kept c.requires.key c.requires.home (λ key home. may_go k.net v.conn v.turns (k.key v.tally.now) (k.log v.front.now) (k.log c.self.inside.front) key home)

pub note-requires-clause-may : goal.note-requires-clause-may
note-requires-clause-may g c =
    let k = g.K.Keeping in
    let s = c.self.inside in
    let v = c.args.visitor.now in
    let brought = c.args.brought.now in
    let old : StationView = record { port = s.state.opening.id; state = s.state; front = k.log s.front } in
    let visit = visits k.net k.kept old c.args.self.now v.conn v.turns (k.key v.tally.now) (k.key s.tally) (length c.entries.result.now) v.vc (k.log v.front.now) (k.log c.note-out.result) brought c.self.view_is (ap length c.entries.ensures.value)
    c.self.invariant c.requires.key c.requires.home c.requires.channel c.requires.first c.requires.can c.note-out.ensures in
    of_kept k.kept visit (may_visit k.net old v.conn (k.key s.tally) (length c.entries.result.now) v.vc (k.log v.front.now) (k.log c.note-out.result) brought c.event-event.result c.event-event.ensures)

pub invariant_of-self-2 : goal.invariant_of-self-2
invariant_of-self-2 g c =
    let k = g.K.Keeping in
    let s = c.self.inside in
    let v = c.args.visitor.now in
    let brought = c.args.brought.now in
    let old : StationView = record { port = s.state.opening.id; state = s.state; front = k.log s.front } in
    let visit = visits k.net k.kept old c.args.self.now v.conn v.turns (k.key v.tally.now) (k.key s.tally) (length c.entries.result.now) v.vc (k.log v.front.now) (k.log c.note-out.result) brought c.self.view_is (ap length c.entries.ensures.value)
    c.self.invariant c.requires.key c.requires.home c.requires.channel c.requires.first c.requires.can c.note-out.ensures in
    let value = c.in_ok-place.ensures.value in
    let new = k.log c.note.result in
    of_both k.kept visit c.note.ensures (λ its noted.
    let had = has_visited k.net old v.conn (k.key s.tally) (length c.entries.result.now) v.vc (k.log v.front.now) (k.log c.note-out.result) new brought c.event-event.result c.input-input.result c.event-event.ensures c.input-input.ensures its noted in
    numbered k.net (k.key s.tally) old.port c.step.new.state new (sym (ap (λ (j : Journaled). j.opening.id) c.in_ok-place.ensures.ok)) its.key_is
    (stays_station k.net old c.step.new.state _ c.in_ok-place.place new c.input-input.result c.in_ok-place.reply its.station had.rates c.entries.ensures.replay had.stepped
    (ap (λ r. r.0) value) (ap (λ r. r.1) value) c.in_ok-place.ensures.ok))

pub returns-clause-came : goal.returns-clause-came
returns-clause-came g c =
    let k = g.K.Keeping in
    let s = c.self.inside in
    let v = c.args.visitor.now in
    let brought = c.args.brought.now in
    let old : StationView = record { port = s.state.opening.id; state = s.state; front = k.log s.front } in
    let visit = visits k.net k.kept old c.args.self.now v.conn v.turns (k.key v.tally.now) (k.key s.tally) (length c.entries.result.now) v.vc (k.log v.front.now) (k.log c.note-out.result) brought c.self.view_is (ap length c.entries.ensures.value)
    c.self.invariant c.requires.key c.requires.home c.requires.channel c.requires.first c.requires.can c.note-out.ensures in
    let new = k.log c.note.result in
    of_both k.kept visit c.note.ensures (λ its noted.
    let had = has_visited k.net old v.conn (k.key s.tally) (length c.entries.result.now) v.vc (k.log v.front.now) (k.log c.note-out.result) new brought c.event-event.result c.input-input.result c.event-event.ensures c.input-input.ensures its noted in
    let came = came_so k.net old new c.input-input.result c.in_ok-place.reply its.station had.rates c.entries.ensures.replay had.stepped (ap (λ r. r.1) c.in_ok-place.ensures.value) in
    subst (λ (i : PortInput). CameTo k.net new c.args.self.now.port i c.in_ok-place.reply) c.input-input.ensures
    (subst (λ p. CameTo k.net new p c.input-input.result c.in_ok-place.reply) (ap (λ (w : StationView). w.port) c.self.view_is) came))

pub returns-clause-back : goal.returns-clause-back
returns-clause-back g c =
    let k = g.K.Keeping in
    let s = c.self.inside in
    let v = c.args.visitor.now in
    let brought = c.args.brought.now in
    let old : StationView = record { port = s.state.opening.id; state = s.state; front = k.log s.front } in
    let visit = visits k.net k.kept old c.args.self.now v.conn v.turns (k.key v.tally.now) (k.key s.tally) (length c.entries.result.now) v.vc (k.log v.front.now) (k.log c.note-out.result) brought c.self.view_is (ap length c.entries.ensures.value)
    c.self.invariant c.requires.key c.requires.home c.requires.channel c.requires.first c.requires.can c.note-out.ensures in
    let new = k.log c.note.result in
    of_both k.kept visit c.note.ensures (λ its noted.
    let had = has_visited k.net old v.conn (k.key s.tally) (length c.entries.result.now) v.vc (k.log v.front.now) (k.log c.note-out.result) new brought c.event-event.result c.input-input.result c.event-event.ensures c.input-input.ensures its noted in
    subst (λ n. HasBrought k.net v.conn (k.log v.front.now) new n brought) (sym (ap (λ r. r.0) c.in_ok-place.ensures.value)) had.back)

pub returns-clause-own : goal.returns-clause-own
returns-clause-own g c =
    let k = g.K.Keeping in
    let s = c.self.inside in
    let v = c.args.visitor.now in
    let brought = c.args.brought.now in
    let old : StationView = record { port = s.state.opening.id; state = s.state; front = k.log s.front } in
    let visit = visits k.net k.kept old c.args.self.now v.conn v.turns (k.key v.tally.now) (k.key s.tally) (length c.entries.result.now) v.vc (k.log v.front.now) (k.log c.note-out.result) brought c.self.view_is (ap length c.entries.ensures.value)
    c.self.invariant c.requires.key c.requires.home c.requires.channel c.requires.first c.requires.can c.note-out.ensures in
    let new = k.log c.note.result in
    of_both k.kept visit c.note.ensures (λ its noted.
    let had = has_visited k.net old v.conn (k.key s.tally) (length c.entries.result.now) v.vc (k.log v.front.now) (k.log c.note-out.result) new brought c.event-event.result c.input-input.result c.event-event.ensures c.input-input.ensures its noted in
    subst (λ f. IsPrefix f new) (ap (λ (w : StationView). w.front) c.self.view_is) had.ahead)
