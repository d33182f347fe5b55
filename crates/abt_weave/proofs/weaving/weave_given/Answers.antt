use Rattle.std.proofs.Common.{◌≡◌, ◌∙◌, sym, subst, length, reverse, true, []}
use Rattle.abt_weave.specs.Woven.{IsWoven}
use Rattle.abt_weave.specs.Actors.{actor_at}
use Rattle.abt_weave.specs.Progress.{journaled}
use Rattle.abt_weave.specs.Faults.{all_left}
use Rattle.abt_weave.specs.Marks.{AreUnmarked, IsFirstMark}
use Rattle.abt_weave.specs.Shown.{AreShown}
use Rattle.abt_weave.proofs.Numbers.{are_journals}
use Rattle.abt_weave.proofs.Wovens.{first_is, none_mismatch, all_woven, empty_is, some_left}
use Rattle.abt_model.specs.Run.{facts_after}
use Rattle.abt_world.proofs.Standings.{headline_before}
use Rattle.abt_weave.specs.Leaving.{LeavesAsJournaled}
use Rattle.abt_model.specs.Events.{AsksRate}
use Rattle.abt_weave.proofs.AllBelow.{mismatch_none, order_none}
use Rattle.abt_weave.proofs.Leavings.{all_reversed, leaves}
use Rattle.abt_weave.proofs.NoneWoven.{HaveEnded}
use Rattle.abt_weave.proofs.Ends.{all_still}
use Rattle.abt_weave.proofs.weaving.weave_given.Goals as goal

pub returns-in-Some-clause-err : goal.returns-in-Some-clause-err
returns-in-Some-clause-err c =
    let net = c.args.given.now.net.now in
    let ports = c.args.given.now.ports.now in
    let sources = c.args.given.now.sources.now in
    let js = journaled ports sources in
    let events = c.settle.new.progress.events.items in
    let progress = c.in_ok-marks.ensures.progress in
    let world = c.settle.new.progress.world in
    let sp = c.settle.new.progress.source_places.items in
    let pp = c.settle.new.progress.port_places.items in
    let ms = c.in_ok-marks.marks.items in
    let settled = c.in_ok-marks.ensures.marks in
    let are = are_journals net ports sources c.requires.conns c.requires.ports in
    let first = subst (λ m. IsFirstMark net m sp pp c.in-Some.field-0) c.deref.ensures.value c.in-Some.ensures.first in
    (events, progress.stands.rates, all_still net js are c.in-Some.ensures.rules (reverse events) ms progress.placed settled, first_is net js are events world sp pp ms c.in-Some.field-0 progress settled first)

pub returns-then-not-is_empty-clause-err : goal.returns-then-not-is_empty-clause-err
returns-then-not-is_empty-clause-err c =
    let net = c.args.given.now.net.now in
    let ports = c.args.given.now.ports.now in
    let sources = c.args.given.now.sources.now in
    let js = journaled ports sources in
    let events = c.settle.new.progress.events.items in
    let progress = c.in_ok-marks.ensures.progress in
    let ms = c.in_ok-marks.marks.items in
    let settled = c.in_ok-marks.ensures.marks in
    let are = are_journals net ports sources c.requires.conns c.requires.ports in
    let none : AreUnmarked ms (length ms) = subst (λ m. AreUnmarked m (length m)) c.deref.ensures.value c.in_default.ensures.first in (
      events,
      progress.stands.rates,
      all_still net js are c.in_default.ensures.rules (reverse events) ms progress.placed settled,
      none_mismatch net js are (reverse events) ms settled none,
      c.in_ok-left.ensures,
      some_left c.in_ok-left.left (sym c.is_empty.ensures ∙ c.if-not-is_empty.true),
    )

pub returns-clause-ok : goal.returns-clause-ok
returns-clause-ok c =
    let net = c.args.given.now.net.now in
    let ports = c.args.given.now.ports.now in
    let sources = c.args.given.now.sources.now in
    let js = journaled ports sources in
    let events = c.settle.new.progress.events.items in
    let progress = c.in_ok-marks.ensures.progress in
    let sp = c.settle.new.progress.source_places.items in
    let pp = c.settle.new.progress.port_places.items in
    let none : all_left net js (reverse events) ≡ [] = sym c.in_ok-left.ensures ∙ empty_is c.in_ok-left.left (sym c.is_empty.ensures ∙ c.if-not-is_empty.false) in
    subst (λ l. IsWoven net js.ports js.sources l) (sym c.from.ensures) (all_woven net js events c.settle.new.progress.world sp pp progress none)

pub returns-clause-shown : goal.returns-clause-shown
returns-clause-shown c =
    subst (λ l. AreShown c.args.given.now.net.now (journaled c.args.given.now.ports.now c.args.given.now.sources.now) (reverse l)) (sym c.from.ensures) c.in_ok-marks.ensures.progress.shown

pub returns-clause-leaves : goal.returns-clause-leaves
returns-clause-leaves c =
    let net = c.args.given.now.net.now in
    let ports = c.args.given.now.ports.now in
    let sources = c.args.given.now.sources.now in
    let js = journaled ports sources in
    let events = c.settle.new.progress.events.items in
    let progress = c.in_ok-marks.ensures.progress in
    let none : all_left net js (reverse events) ≡ [] = sym c.in_ok-left.ensures ∙ empty_is c.in_ok-left.left (sym c.is_empty.ensures ∙ c.if-not-is_empty.false) in
    let woven = all_woven net js events c.settle.new.progress.world c.settle.new.progress.source_places.items c.settle.new.progress.port_places.items progress none in
    subst (λ l. LeavesAsJournaled net js.ports js.sources (facts_after net l)) (sym c.from.ensures) (leaves net js.ports js.sources events c.in_default.ensures.rules progress.stands.rates woven)

pub returns-clause-headline : goal.returns-clause-headline
returns-clause-headline c before after is =
    headline_before c.args.given.now.net.now before after c.settle.new.progress.events.items c.in_default.ensures.rules c.in_ok-marks.ensures.progress.stands.rates (is ∙ c.from.ensures)

pub returns-in-Some-clause-none : goal.returns-in-Some-clause-none
returns-in-Some-clause-none c =
    let net = c.args.given.now.net.now in
    let ports = c.args.given.now.ports.now in
    let sources = c.args.given.now.sources.now in
    let js = journaled ports sources in
    let events = c.settle.new.progress.events.items in
    let progress = c.in_ok-marks.ensures.progress in
    let ms = c.in_ok-marks.marks.items in
    let settled = c.in_ok-marks.ensures.marks in
    let are = are_journals net ports sources c.requires.conns c.requires.ports in
    let end : HaveEnded net js (reverse events) = record {
      rules = c.in-Some.ensures.rules;
      rates = all_reversed AsksRate events progress.stands.rates;
      stands = all_still net js are c.in-Some.ensures.rules (reverse events) ms progress.placed settled;
    } in
    let first = subst (λ m. IsFirstMark net m c.settle.new.progress.source_places.items c.settle.new.progress.port_places.items c.in-Some.field-0) c.deref.ensures.value c.in-Some.ensures.first in
    mismatch_none net js (reverse events) (actor_at net first.number) end are (settled.each first.number true first.marked)

pub returns-then-not-is_empty-clause-none : goal.returns-then-not-is_empty-clause-none
returns-then-not-is_empty-clause-none c =
    let net = c.args.given.now.net.now in
    let ports = c.args.given.now.ports.now in
    let sources = c.args.given.now.sources.now in
    let js = journaled ports sources in
    let events = c.settle.new.progress.events.items in
    let progress = c.in_ok-marks.ensures.progress in
    let ms = c.in_ok-marks.marks.items in
    let settled = c.in_ok-marks.ensures.marks in
    let are = are_journals net ports sources c.requires.conns c.requires.ports in
    let end : HaveEnded net js (reverse events) = record {
      rules = c.in_default.ensures.rules;
      rates = all_reversed AsksRate events progress.stands.rates;
      stands = all_still net js are c.in_default.ensures.rules (reverse events) ms progress.placed settled;
    } in
    order_none net js (reverse events) c.in_ok-left.left end are c.in_ok-left.ensures (some_left c.in_ok-left.left (sym c.is_empty.ensures ∙ c.if-not-is_empty.true))
