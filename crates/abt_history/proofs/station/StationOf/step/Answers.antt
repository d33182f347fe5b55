use Rattle.std.proofs.Common.{◌≡◌, ◌<◌, length, ap, sym, subst, ◌∙◌}
use mathlib.Core.List.{IsPrefix}
use Rattle.abt_journal.specs.Journaled.{Journaled}
use Rattle.abt_serving.specs.Messages.{ComesNow}
use Rattle.abt_history.specs.declared.deed.Deed.TheVariants.{Comes}
use Rattle.abt_history.specs.Histories.{happened, count_of}
use Rattle.abt_history.specs.Legal.{MayNote, IsNoted}
use Rattle.abt_history.specs.Stations.{StationView, CameTo}
use Rattle.abt_history.proofs.Coming.{has_stepped, may_come, start_rates}
use Rattle.abt_history.proofs.Modes.{of_kept, of_both}
use Rattle.abt_history.proofs.Notes.{noted_after}
use Rattle.abt_history.proofs.Stations.{deeds_of, stays_station, numbered, came_so, same_fault, tells_wounds}
use Rattle.abt_history.proofs.station.StationOf.step.Goals as goal

pub returns-in_err-place-clause-rules : goal.returns-in_err-place-clause-rules
returns-in_err-place-clause-rules g c = of_kept g.K.Keeping.kept c.self.invariant (λ its. its.1.rules)

pub returns-in_err-place-clause-wound : goal.returns-in_err-place-clause-wound
returns-in_err-place-clause-wound g c =
    let k = g.K.Keeping in
    let s = c.self.inside in
    let inside : StationView = record { port = s.state.opening.id; state = s.state; front = k.log s.front } in
    let same : c.from_residual.result ≡ c.step.result = same_fault c.from_residual.result c.in_err-place.field-0.0 c.from_residual.ensures.1 ∙ sym c.in_err-place.was in
    tells_wounds k.net inside c.args.self.now c.step.result c.from_residual.result c.id-port.result c.args.seat.now.receipts c.id-port.ensures.opening c.self.view_is same c.step.ensures.wound

pub note-requires-clause-may : goal.note-requires-clause-may
note-requires-clause-may g c =
    let k = g.K.Keeping in
    let net = k.net in
    let s = c.self.inside in
    let port = s.state.opening.id in
    let front = k.log s.front in
    let seen = k.log c.args.seen.now in
    let deeds = length c.entries.result.now in
    let station : StationView = record { port = port; state = s.state; front = front } in
    let port_is : c.args.self.now.port ≡ port = ap (λ (v : StationView). v.port) (sym c.self.view_is) in
    of_both k.kept c.self.invariant c.requires.comes (λ its comes.
    let counted : count_of net port front ≡ deeds = deeds_of net station its.1 ∙ ap length (sym c.entries.ensures.value) in
    subst (λ n. MayNote net front seen n deeds (Comes c.id-port.result c.args.input)) (sym its.0)
    (subst (λ p. MayNote net front seen port deeds (Comes p c.args.input)) (sym c.id-port.ensures.opening)
    (may_come net front seen port deeds c.args.input its.1.low counted its.1.unended
    (λ log pre legal. subst (λ p. ComesNow net (happened log) p c.args.input) port_is (comes its.1.rules (subst (λ p. p < length net.capacities) (sym port_is) its.1.low) log pre legal)))))

pub invariant_of-self-2 : goal.invariant_of-self-2
invariant_of-self-2 g c =
    let k = g.K.Keeping in
    let net = k.net in
    let s = c.self.inside in
    let port = s.state.opening.id in
    let front = k.log s.front in
    let seen = k.log c.args.seen.now in
    let new = k.log c.note.result in
    let deeds = length c.entries.result.now in
    let station : StationView = record { port = port; state = s.state; front = front } in
    let value = c.in_ok-place.ensures.value in
    of_both k.kept c.self.invariant c.note.ensures (λ its noted.
    let counted : count_of net port front ≡ deeds = deeds_of net station its.1 ∙ ap length (sym c.entries.ensures.value) in
    let here : IsNoted net front seen new port deeds (Comes c.id-port.result c.args.input) = subst (λ n. IsNoted net front seen new n deeds (Comes c.id-port.result c.args.input)) its.0 noted in
    let this : IsNoted net front seen new port deeds (Comes port c.args.input) = subst (λ p. IsNoted net front seen new port deeds (Comes p c.args.input)) c.id-port.ensures.opening here in
    let stepped = has_stepped net front seen new port deeds c.args.input its.1.rules its.1.low counted its.1.unended this in
    numbered net (k.key s.tally) port c.step.new.state new (sym (ap (λ (j : Journaled). j.opening.id) c.in_ok-place.ensures.ok)) its.0
    (stays_station net station c.step.new.state _ c.in_ok-place.place new c.args.input c.in_ok-place.reply its.1 (start_rates net front this.log this.mine this.legal) c.entries.ensures.replay stepped
    (ap (λ r. r.0) value) (ap (λ r. r.1) value) c.in_ok-place.ensures.ok))

pub returns-clause-rules : goal.returns-clause-rules
returns-clause-rules g c = of_kept g.K.Keeping.kept c.self.invariant (λ its. its.1.rules)

pub returns-clause-came : goal.returns-clause-came
returns-clause-came g c =
    let k = g.K.Keeping in
    let net = k.net in
    let s = c.self.inside in
    let port = s.state.opening.id in
    let front = k.log s.front in
    let seen = k.log c.args.seen.now in
    let new = k.log c.note.result in
    let deeds = length c.entries.result.now in
    let station : StationView = record { port = port; state = s.state; front = front } in
    let port_is : port ≡ c.args.self.now.port = ap (λ (v : StationView). v.port) c.self.view_is in
    of_both k.kept c.self.invariant c.note.ensures (λ its noted.
    let counted : count_of net port front ≡ deeds = deeds_of net station its.1 ∙ ap length (sym c.entries.ensures.value) in
    let here : IsNoted net front seen new port deeds (Comes c.id-port.result c.args.input) = subst (λ n. IsNoted net front seen new n deeds (Comes c.id-port.result c.args.input)) its.0 noted in
    let this : IsNoted net front seen new port deeds (Comes port c.args.input) = subst (λ p. IsNoted net front seen new port deeds (Comes p c.args.input)) c.id-port.ensures.opening here in
    let stepped = has_stepped net front seen new port deeds c.args.input its.1.rules its.1.low counted its.1.unended this in
    subst (λ p. CameTo net new p c.args.input c.in_ok-place.reply) port_is
    (came_so net station new c.args.input c.in_ok-place.reply its.1 (start_rates net front this.log this.mine this.legal) c.entries.ensures.replay stepped (ap (λ r. r.1) c.in_ok-place.ensures.value)))

pub returns-clause-own : goal.returns-clause-own
returns-clause-own g c =
    let k = g.K.Keeping in
    of_kept k.kept c.note.ensures (λ noted. subst (λ f. IsPrefix f (k.log c.note.result)) (ap (λ (v : StationView). v.front) c.self.view_is) (noted_after _ _ _ _ _ _ _ noted).0)

pub returns-clause-seen : goal.returns-clause-seen
returns-clause-seen g c = of_kept g.K.Keeping.kept c.note.ensures (λ noted. (noted_after _ _ _ _ _ _ _ noted).1)
