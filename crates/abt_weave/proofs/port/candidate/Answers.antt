use Rattle.std.proofs.Common.{◌≡◌, ◌∙◌, ◌<◌, ℕ, ap, sym, subst, length, reverse, take, Option, Some, None, rules}
use Rattle.abt_net.specs.Topology.{Topology}
use Rattle.abt_weave.specs.Projections.{entries_on}
use Rattle.abt_weave.specs.Progress.{journaled}
use Rattle.abt_weave.specs.Candidates.{AreTermsOf, event_by}
use Rattle.abt_model.specs.declared.event.Event.{Event}
use Rattle.abt_model.specs.PortTable.{hop_visited}
use Rattle.abt_weave.specs.declared.candidate.HopOnPath.{HopOnPath}
use Rattle.abt_weave.specs.declared.port.Coming.{Coming}
use Rattle.abt_weave.proofs.PortEvents.{some_same}
use Rattle.abt_weave.proofs.Comings.{stop_low, beside_read, coming_found, comes_stop, coming_only, port_at}
use Rattle.abt_weave.proofs.port.candidate.Goals as goal

pub returns-in_err-stop-clause-only : goal.returns-in_err-stop-clause-only
returns-in_err-stop-clause-only c = λ event comes.
    let net = c.args.given.now.net.now in
    let js = journaled c.args.given.now.ports.now c.args.given.now.sources.now in
    let stop = comes_stop net js (reverse c.args.progress.now.events.items) c.args.port c.args.entry.now.place c.args.entry.now.input event comes in
    let clash = c.in_err-stop.ensures.only comes.c (hop_visited event) stop in
    absurd (cc)

pub bounds-given-c : goal.bounds-given-c
bounds-given-c c =
    let low = stop_low c.args.given.now.net.now c.args.entry.now.input c.args.port c.in_ok-stop.stop.conn c.in_ok-stop.stop.hop c.in_ok-stop.ensures.some in
    subst (λ n. n < length c.args.given.now.sources.now) (sym c.from-c.ensures) (subst (λ n. c.in_ok-stop.stop.conn < n) (sym c.requires.conns) low)

pub index-come-requires : goal.index-come-requires
index-come-requires c =
    let low = stop_low c.args.given.now.net.now c.args.entry.now.input c.args.port c.in_ok-stop.stop.conn c.in_ok-stop.stop.hop c.in_ok-stop.ensures.some in
    let here : c.from-c.result < length c.args.given.now.sources.now = subst (λ n. n < length c.args.given.now.sources.now) (sym c.from-c.ensures) (subst (λ n. c.in_ok-stop.stop.conn < n) (sym c.requires.conns) low) in
    let there : c.from-c.result < length c.args.progress.now.source_places.items = subst (λ n. c.from-c.result < n) (sym c.requires.progress.source_count) here in
    search rules

pub rates_for-rates-requires : goal.rates_for-rates-requires
rates_for-rates-requires c =
    let net = c.args.given.now.net.now in
    let low = stop_low net c.args.entry.now.input c.args.port c.in_ok-stop.stop.conn c.in_ok-stop.stop.hop c.in_ok-stop.ensures.some in
    subst (λ (n : Topology). c.in_ok-stop.stop.conn < length n.conns) (sym c.requires.progress.stands.stands.net_is) low

pub returns-clause-some : goal.returns-clause-some
returns-clause-some c =
    let net = c.args.given.now.net.now in
    let js = journaled c.args.given.now.ports.now c.args.given.now.sources.now in
    let low = stop_low net c.args.entry.now.input c.args.port c.in_ok-stop.stop.conn c.in_ok-stop.stop.hop c.in_ok-stop.ensures.some in
    let here : c.from-c.result < length c.args.given.now.sources.now = subst (λ n. n < length c.args.given.now.sources.now) (sym c.from-c.ensures) (subst (λ n. c.in_ok-stop.stop.conn < n) (sym c.requires.conns) low) in
    let beside = beside_read net c.args.given.now.ports.now c.args.given.now.sources.now c.args.progress.now.events.items c.args.progress.now.world c.args.progress.now.source_places.items c.args.progress.now.port_places.items
    c.from-c.result c.index-given-c.result c.as_slice-entries.result.now c.index-come.result.now c.requires.progress here c.index-given-c.is c.as_slice-entries.ensures c.index-come.ensures in
    let events = c.args.progress.now.events.items in
    let input = c.args.entry.now.input in
    let told = c.rates_for-rates.ensures net events c.requires.progress.stands in
    let same : entries_on net c.in_ok-stop.stop.conn (reverse events) ≡ take c.index-come.result.now c.as_slice-entries.result.now = ap (λ n. entries_on net n (reverse events)) (sym c.from-c.ensures) ∙ sym beside.placed in
    let terms : AreTermsOf input c.rates_for-rates.result.floor c.rates_for-rates.result.ask (reverse (take c.index-come.result.now c.as_slice-entries.result.now)) =
    subst (λ l. AreTermsOf input c.rates_for-rates.result.floor c.rates_for-rates.result.ask (reverse l)) same told in
    let at = port_at net c.args.given.now.ports.now c.args.given.now.sources.now c.args.progress.now.events.items c.args.progress.now.world c.args.progress.now.source_places.items c.args.progress.now.port_places.items c.args.port c.requires.progress c.requires.port in
    coming_found net js (reverse c.args.progress.now.events.items) c.args.port c.in_ok-stop.stop.conn c.in_ok-stop.stop.hop c.from-c.result c.args.entry.now.place c.args.entry.now.input
    c.as_slice-entries.result.now c.index-come.result.now c.in_ok-event.event c.in_ok-stop.ensures.some c.from-c.ensures beside (c.if-entry-place.false ∙ c.requires.place ∙ at)
    (c.in_ok-event.ensures (reverse (take c.index-come.result.now c.as_slice-entries.result.now)) terms ∙ ap (event_by c.in_ok-stop.stop.conn c.in_ok-stop.stop.hop c.args.entry.now.place c.args.entry.now.input (reverse (take c.index-come.result.now c.as_slice-entries.result.now))) c.entry_at-next.ensures)

pub returns-clause-only : goal.returns-clause-only
returns-clause-only c = λ event comes.
    let net = c.args.given.now.net.now in
    let js = journaled c.args.given.now.ports.now c.args.given.now.sources.now in
    let low = stop_low net c.args.entry.now.input c.args.port c.in_ok-stop.stop.conn c.in_ok-stop.stop.hop c.in_ok-stop.ensures.some in
    let here : c.from-c.result < length c.args.given.now.sources.now = subst (λ n. n < length c.args.given.now.sources.now) (sym c.from-c.ensures) (subst (λ n. c.in_ok-stop.stop.conn < n) (sym c.requires.conns) low) in
    let beside = beside_read net c.args.given.now.ports.now c.args.given.now.sources.now c.args.progress.now.events.items c.args.progress.now.world c.args.progress.now.source_places.items c.args.progress.now.port_places.items
    c.from-c.result c.index-given-c.result c.as_slice-entries.result.now c.index-come.result.now c.requires.progress here c.index-given-c.is c.as_slice-entries.ensures c.index-come.ensures in
    let events = c.args.progress.now.events.items in
    let input = c.args.entry.now.input in
    let told = c.rates_for-rates.ensures net events c.requires.progress.stands in
    let same : entries_on net c.in_ok-stop.stop.conn (reverse events) ≡ take c.index-come.result.now c.as_slice-entries.result.now = ap (λ n. entries_on net n (reverse events)) (sym c.from-c.ensures) ∙ sym beside.placed in
    let terms : AreTermsOf input c.rates_for-rates.result.floor c.rates_for-rates.result.ask (reverse (take c.index-come.result.now c.as_slice-entries.result.now)) =
    subst (λ l. AreTermsOf input c.rates_for-rates.result.floor c.rates_for-rates.result.ask (reverse l)) same told in
    let stop = comes_stop net js (reverse c.args.progress.now.events.items) c.args.port c.args.entry.now.place c.args.entry.now.input event comes in
    let same = c.in_ok-stop.ensures.only comes.c (hop_visited event) stop in
    let whose : c.in_ok-stop.stop.conn ≡ comes.c = ap (λ (s : HopOnPath). s.conn) (some_same same) in
    let hops : c.in_ok-stop.stop.hop ≡ hop_visited event = ap (λ (s : HopOnPath). s.hop) (some_same same) in
    let is = coming_only net js (reverse c.args.progress.now.events.items) c.args.port c.in_ok-stop.stop.conn c.in_ok-stop.stop.hop c.from-c.result c.args.entry.now.place c.args.entry.now.input
    c.as_slice-entries.result.now c.index-come.result.now event comes whose hops c.from-c.ensures beside in
    let found : Some c.in_ok-event.event ≡ Some event = c.in_ok-event.ensures (reverse (take c.index-come.result.now c.as_slice-entries.result.now)) terms ∙ ap (event_by c.in_ok-stop.stop.conn c.in_ok-stop.stop.hop c.args.entry.now.place c.args.entry.now.input (reverse (take c.index-come.result.now c.as_slice-entries.result.now))) c.entry_at-next.ensures ∙ is in
    let coming : ℕ → Event → Option Coming = λ n e. Some (record { conn = n; event = e }) in
    ap (λ n. coming n c.in_ok-event.event) whose ∙ ap (coming comes.c) (some_same found)

pub returns-in_err-event-clause-only : goal.returns-in_err-event-clause-only
returns-in_err-event-clause-only c = λ event comes.
    let net = c.args.given.now.net.now in
    let js = journaled c.args.given.now.ports.now c.args.given.now.sources.now in
    let low = stop_low net c.args.entry.now.input c.args.port c.in_ok-stop.stop.conn c.in_ok-stop.stop.hop c.in_ok-stop.ensures.some in
    let here : c.from-c.result < length c.args.given.now.sources.now = subst (λ n. n < length c.args.given.now.sources.now) (sym c.from-c.ensures) (subst (λ n. c.in_ok-stop.stop.conn < n) (sym c.requires.conns) low) in
    let beside = beside_read net c.args.given.now.ports.now c.args.given.now.sources.now c.args.progress.now.events.items c.args.progress.now.world c.args.progress.now.source_places.items c.args.progress.now.port_places.items
    c.from-c.result c.index-given-c.result c.as_slice-entries.result.now c.index-come.result.now c.requires.progress here c.index-given-c.is c.as_slice-entries.ensures c.index-come.ensures in
    let events = c.args.progress.now.events.items in
    let input = c.args.entry.now.input in
    let told = c.rates_for-rates.ensures net events c.requires.progress.stands in
    let same : entries_on net c.in_ok-stop.stop.conn (reverse events) ≡ take c.index-come.result.now c.as_slice-entries.result.now = ap (λ n. entries_on net n (reverse events)) (sym c.from-c.ensures) ∙ sym beside.placed in
    let terms : AreTermsOf input c.rates_for-rates.result.floor c.rates_for-rates.result.ask (reverse (take c.index-come.result.now c.as_slice-entries.result.now)) =
    subst (λ l. AreTermsOf input c.rates_for-rates.result.floor c.rates_for-rates.result.ask (reverse l)) same told in
    let stop = comes_stop net js (reverse c.args.progress.now.events.items) c.args.port c.args.entry.now.place c.args.entry.now.input event comes in
    let same = c.in_ok-stop.ensures.only comes.c (hop_visited event) stop in
    let whose : c.in_ok-stop.stop.conn ≡ comes.c = ap (λ (s : HopOnPath). s.conn) (some_same same) in
    let hops : c.in_ok-stop.stop.hop ≡ hop_visited event = ap (λ (s : HopOnPath). s.hop) (some_same same) in
    let is = coming_only net js (reverse c.args.progress.now.events.items) c.args.port c.in_ok-stop.stop.conn c.in_ok-stop.stop.hop c.from-c.result c.args.entry.now.place c.args.entry.now.input
    c.as_slice-entries.result.now c.index-come.result.now event comes whose hops c.from-c.ensures beside in
    let clash : None ≡ Some event = c.in_err-event.ensures (reverse (take c.index-come.result.now c.as_slice-entries.result.now)) terms ∙ ap (event_by c.in_ok-stop.stop.conn c.in_ok-stop.stop.hop c.args.entry.now.place c.args.entry.now.input (reverse (take c.index-come.result.now c.as_slice-entries.result.now))) c.entry_at-next.ensures ∙ is in
    absurd (cc)
