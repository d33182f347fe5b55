use Rattle.std.proofs.Common.{List, length, ap, sym, subst}
use Rattle.abt_history.specs.declared.deed.Deed.TheVariants.{EndsPort}
use Rattle.abt_history.specs.Ended.{HasPortEnded}
use Rattle.abt_history.specs.Legal.{MayNote, IsNoted}
use Rattle.abt_history.specs.Stations.{StationView}
use Rattle.abt_history.proofs.Closing.{may_end_port, port_ended}
use Rattle.abt_history.proofs.Modes.{of_kept, of_both}
use Rattle.abt_history.proofs.station.StationOf.into_state.Goals as goal

pub note-last-requires-clause-may : goal.note-last-requires-clause-may
note-last-requires-clause-may g c =
    let k = g.K.Keeping in
    let s = c.self.inside in
    let port = s.state.opening.id in
    let front = k.log s.front in
    let deeds = length c.entries.result.now in
    of_kept k.kept c.self.invariant (λ its.
    subst (λ n. MayNote k.net front front n deeds (EndsPort c.id-port.result)) (sym its.0)
    (subst (λ p. MayNote k.net front front port deeds (EndsPort p)) (sym c.id-port.ensures.opening) (may_end_port k.net port deeds front front its.1.low)))

pub returns-clause-ended : goal.returns-clause-ended
returns-clause-ended g c =
    let k = g.K.Keeping in
    let s = c.self.inside in
    let port = s.state.opening.id in
    let front = k.log s.front in
    let last = k.log c.note-last.result in
    let deeds = length c.entries.result.now in
    let station : StationView = record { port = port; state = s.state; front = front } in
    of_both k.kept c.self.invariant c.note-last.ensures (λ its noted.
    let here : IsNoted k.net front front last port deeds (EndsPort c.id-port.result) = subst (λ n. IsNoted k.net front front last n deeds (EndsPort c.id-port.result)) its.0 noted in
    let this : IsNoted k.net front front last port deeds (EndsPort port) = subst (λ p. IsNoted k.net front front last port deeds (EndsPort p)) c.id-port.ensures.opening here in
    let ended = port_ended k.net station front last deeds its.1 (ap length c.entries.ensures.value) this in
    subst (λ p. HasPortEnded k.net p s.state.entries last) (ap (λ (v : StationView). v.port) c.self.view_is) ended)
