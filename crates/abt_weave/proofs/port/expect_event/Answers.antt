use Rattle.std.proofs.Common.{◌≡◌, ◌∙◌, ◌<◌, ◌+◌, ℕ, refl, ap, sym, subst, length, reverse, rules, Some, None, Option}
use Rattle.std.specs.Prelude.{slice_index}
use Rattle.std.proofs.lemmas.Bool.{cond-true, cond-false}
use Rattle.abt_model.specs.declared.event.Event.{Event}
use Rattle.abt_model.specs.Outcomes.{conn_of}
use Rattle.abt_weave.specs.declared.port.Coming.{Coming}
use Rattle.abt_weave.specs.Progress.{journaled}
use Rattle.abt_weave.specs.Comes.{IsExpected, reached_by}
use Rattle.abt_weave.proofs.Comings.{beside_read}
use Rattle.abt_weave.proofs.PortEvents.{some_same}
use Rattle.abt_weave.proofs.PortLooks.{coming_low, come_low}
use Rattle.abt_weave.proofs.SourceLooks.{place_is}
use Rattle.abt_weave.proofs.port.expect_event.Goals as goal
use Rattle.abt_weave.proofs.port.expect_event.Goals.{then-is_beside, else-is_beside}

pub bounds-given-c : goal.bounds-given-c
bounds-given-c c =
    subst (λ n. n < length c.args.given.now.sources.now) (sym c.from-c.ensures)
    (coming_low c.args.given.now.net.now (journaled c.args.given.now.ports.now c.args.given.now.sources.now) (reverse c.args.progress.now.events.items) c.args.port c.args.entry.now.place c.args.entry.now.input
    c.in_ok-conn.field-0.conn (length c.args.given.now.sources.now) c.in_ok-conn.field-0.event c.in_ok-conn.ensures.some c.requires.conns)

pub index-come-requires : goal.index-come-requires
index-come-requires c =
    let low : c.from-c.result < length c.args.given.now.sources.now = subst (λ n. n < length c.args.given.now.sources.now) (sym c.from-c.ensures)
    (coming_low c.args.given.now.net.now (journaled c.args.given.now.ports.now c.args.given.now.sources.now) (reverse c.args.progress.now.events.items) c.args.port c.args.entry.now.place c.args.entry.now.input
    c.in_ok-conn.field-0.conn (length c.args.given.now.sources.now) c.in_ok-conn.field-0.event c.in_ok-conn.ensures.some c.requires.conns) in
    let there : c.from-c.result < length c.args.progress.now.source_places.items = subst (λ n. c.from-c.result < n) (sym c.requires.progress.source_count) low in
    search rules

pub behind-reached-requires : goal.behind-reached-requires
behind-reached-requires c =
    let net = c.args.given.now.net.now in
    let js = journaled c.args.given.now.ports.now c.args.given.now.sources.now in
    let low : c.from-c.result < length c.args.given.now.sources.now = subst (λ n. n < length c.args.given.now.sources.now) (sym c.from-c.ensures)
    (coming_low net js (reverse c.args.progress.now.events.items) c.args.port c.args.entry.now.place c.args.entry.now.input
    c.in_ok-conn.field-0.conn (length c.args.given.now.sources.now) c.in_ok-conn.field-0.event c.in_ok-conn.ensures.some c.requires.conns) in
    let beside = beside_read net c.args.given.now.ports.now c.args.given.now.sources.now c.args.progress.now.events.items c.args.progress.now.world c.args.progress.now.source_places.items c.args.progress.now.port_places.items
    c.from-c.result c.index-given-c.result c.as_slice-entries.result.now c.index-come.result.now c.requires.progress low c.index-given-c.is c.as_slice-entries.ensures c.index-come.ensures in
    let less = come_low net js (reverse c.args.progress.now.events.items) c.args.port c.args.entry.now.place c.args.entry.now.input c.in_ok-conn.field-0.conn c.from-c.result c.in_ok-conn.field-0.event
    c.as_slice-entries.result.now c.index-come.result.now c.in_ok-conn.ensures.some c.from-c.ensures beside (sym c.is_beside.ensures ∙ c.if-is_beside.true) in
    search rules

pub returns-clause-some : goal.returns-clause-some
returns-clause-some c =
    let net = c.args.given.now.net.now in
    let js = journaled c.args.given.now.ports.now c.args.given.now.sources.now in
    let earlier = reverse c.args.progress.now.events.items in
    let sp = c.args.progress.now.source_places.items in
    let lows : c.in_ok-conn.field-0.conn < length c.args.given.now.sources.now = coming_low net js earlier c.args.port c.args.entry.now.place c.args.entry.now.input
    c.in_ok-conn.field-0.conn (length c.args.given.now.sources.now) c.in_ok-conn.field-0.event c.in_ok-conn.ensures.some c.requires.conns in
    let low : c.in_ok-conn.field-0.conn < length sp = subst (λ n. c.in_ok-conn.field-0.conn < n) (sym c.requires.progress.source_count) lows in
    let come : c.index-come.result.now ≡ slice_index sp c.in_ok-conn.field-0.conn = place_is sp c.from-c.result c.in_ok-conn.field-0.conn c.index-come.result.now c.from-c.ensures low c.index-come.ensures in
    record {
      rules = c.in_ok-conn.ensures.rules;
      coming = c.in_ok-conn.ensures.some;
      only = λ other comes. (let same = c.in_ok-conn.ensures.only other comes in sym (ap (λ (x : Coming). x.event) (some_same same)));
      next = c.requires.next;
      low = low;
      reached_is = elim c.if-is_beside.branch [
        | then-is_beside w ↦ (w.reached-is ∙ w.behind-reached.ensures ∙ ap (λ n. n + 1) come ∙ sym (cond-true _ _ _ (sym c.is_beside.ensures ∙ w.if-is_beside.true)))
        | else-is_beside w ↦ (w.reached-is ∙ come ∙ sym (cond-false _ _ _ (sym c.is_beside.ensures ∙ w.if-is_beside.false)))
      ];
    }

pub returns-in_err-conn-clause-none : goal.returns-in_err-conn-clause-none
returns-in_err-conn-clause-none c = λ none event comes. (let clash = c.in_err-conn.ensures.only event comes in absurd (cc))
