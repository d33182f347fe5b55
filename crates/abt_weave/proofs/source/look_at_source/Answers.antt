use Rattle.std.proofs.Common.{inl, ◌≡◌, ◌<◌, ◌+◌, ◌++◌, ◌∷◌, [], refl, sym, ◌∙◌, ap, subst, reverse, length, Some, arith}
use Rattle.std.specs.Prelude.{slice_get, slice_index, sum}
use Rattle.std.proofs.Math.ListN.{set}
use Rattle.abt_model.specs.declared.entry.SourceEntry.TheVariants.{Did}
use Rattle.abt_weave.specs.Stuck.{next_entry}
use Rattle.abt_world.specs.Standing.{StandsFor}
use Rattle.abt_weave.specs.declared.trying.Tried.TheVariants.{Agrees, Differs, Absent}
use Rattle.abt_weave.specs.Tried.{IsOwnTried}
use Rattle.abt_weave.specs.Progress.{journaled, IsPlacing}
use Rattle.abt_weave.proofs.SourceLooks.{next_read, past_settled, other_settled, stands_at, foreign_settled, own_placed, placed_more, differs_settled, absent_settled}
use Rattle.abt_weave.proofs.source.look_at_source.Goals as goal

pub returns-then-place-entries : goal.returns-then-place-entries
returns-then-place-entries c =
    let net = c.args.given.now.net.now in
    let js = journaled c.args.given.now.ports.now c.args.given.now.sources.now in
    let next = next_read net c.args.given.now.ports.now c.args.given.now.sources.now c.args.progress.now.events.items c.args.progress.now.world c.args.progress.now.source_places.items c.args.progress.now.port_places.items
    c.args.conn c.from-c.result c.index-given-c.result c.as_slice-entries.result.now c.index-place.result.now c.requires.progress c.from-c.ensures c.requires.source c.index-given-c.is c.as_slice-entries.ensures c.index-place.ensures in
    (c.requires.progress, refl, refl, past_settled net js (reverse c.args.progress.now.events.items) c.args.conn c.as_slice-entries.result.now c.index-place.result.now next c.if-place-entries.true)

pub returns-in_default : goal.returns-in_default
returns-in_default c =
    let net = c.args.given.now.net.now in
    let js = journaled c.args.given.now.ports.now c.args.given.now.sources.now in
    let next = next_read net c.args.given.now.ports.now c.args.given.now.sources.now c.args.progress.now.events.items c.args.progress.now.world c.args.progress.now.source_places.items c.args.progress.now.port_places.items
    c.args.conn c.from-c.result c.index-given-c.result c.as_slice-entries.result.now c.index-place.result.now c.requires.progress c.from-c.ensures c.requires.source c.index-given-c.is c.as_slice-entries.ensures c.index-place.ensures in
    (c.requires.progress, refl, refl, other_settled net js (reverse c.args.progress.now.events.items) c.args.conn c.as_slice-entries.result.now c.index-place.result.now _ next c.in_default.not-Did)

pub returns-then-not-is_own_of : goal.returns-then-not-is_own_of
returns-then-not-is_own_of c =
    let net = c.args.given.now.net.now in
    let js = journaled c.args.given.now.ports.now c.args.given.now.sources.now in
    let next = next_read net c.args.given.now.ports.now c.args.given.now.sources.now c.args.progress.now.events.items c.args.progress.now.world c.args.progress.now.source_places.items c.args.progress.now.port_places.items
    c.args.conn c.from-c.result c.index-given-c.result c.as_slice-entries.result.now c.index-place.result.now c.requires.progress c.from-c.ensures c.requires.source c.index-given-c.is c.as_slice-entries.ensures c.index-place.ensures in
    let low : c.index-place.result.now < length c.as_slice-entries.result.now = omega arith in
    let at = stands_at c.as_slice-entries.result.now c.index-place.result.now _ (Did c.in-Did.event c.in-Did.told) low c.in-Did.is in
    (c.requires.progress, refl, refl, foreign_settled net js (reverse c.args.progress.now.events.items) c.args.conn c.in-Did.event c.in-Did.told (next ∙ at) (sym c.is_own_of.ensures ∙ c.if-not-is_own_of.true))

pub returns-in_ok-push-in-Agrees : goal.returns-in_ok-push-in-Agrees
returns-in_ok-push-in-Agrees c =
    let net = c.args.given.now.net.now in
    let js = journaled c.args.given.now.ports.now c.args.given.now.sources.now in
    let events = c.args.progress.now.events.items in
    let sp = c.args.progress.now.source_places.items in
    let pp = c.args.progress.now.port_places.items in
    let next = next_read net c.args.given.now.ports.now c.args.given.now.sources.now events c.args.progress.now.world sp pp
    c.args.conn c.from-c.result c.index-given-c.result c.as_slice-entries.result.now c.index-place.result.now c.requires.progress c.from-c.ensures c.requires.source c.index-given-c.is c.as_slice-entries.ensures c.index-place.ensures in
    let low : c.index-place.result.now < length c.as_slice-entries.result.now = omega arith in
    let at = stands_at c.as_slice-entries.result.now c.index-place.result.now _ (Did c.in-Did.event c.in-Did.told) low c.in-Did.is in
    let is : c.in_ok-try_own.field-0 ≡ Agrees = c.in-Agrees.is in
    let tried = subst (λ t. IsOwnTried net events c.in-Did.event c.in-Did.told c.try_own.new.world t) is (c.in_ok-try_own.ensures net events c.requires.progress.stands) in
    let pushed = c.in_ok-push-in-Agrees.ensures.items ∙ ap (λ l. l ++ c.in-Did.event ∷ []) c.in_ok-reserve.ensures.items in
    let placed = placed_more net js events c.push.new.self.items c.args.progress.now.world c.try_own.new.world sp pp c.args.conn c.from-c.result c.index-place.result.now c.in-Did.event c.in-Did.told
    c.requires.progress c.from-c.ensures (subst (λ n. c.args.conn < n) (sym c.requires.progress.source_count) c.requires.source) c.index-place.ensures (next ∙ at) (sym c.is_own_of.ensures ∙ c.if-not-is_own_of.false) tried.0.0 tried.0.1 tried.1 pushed in
    (placed.0, placed.1, inl pushed)

pub returns-in_ok-progress-in-Differs : goal.returns-in_ok-progress-in-Differs
returns-in_ok-progress-in-Differs c =
    let net = c.args.given.now.net.now in
    let js = journaled c.args.given.now.ports.now c.args.given.now.sources.now in
    let events = c.args.progress.now.events.items in
    let sp = c.args.progress.now.source_places.items in
    let pp = c.args.progress.now.port_places.items in
    let next = next_read net c.args.given.now.ports.now c.args.given.now.sources.now events c.args.progress.now.world sp pp
    c.args.conn c.from-c.result c.index-given-c.result c.as_slice-entries.result.now c.index-place.result.now c.requires.progress c.from-c.ensures c.requires.source c.index-given-c.is c.as_slice-entries.ensures c.index-place.ensures in
    let low : c.index-place.result.now < length c.as_slice-entries.result.now = omega arith in
    let at = stands_at c.as_slice-entries.result.now c.index-place.result.now _ (Did c.in-Did.event c.in-Did.told) low c.in-Did.is in
    let is : c.in_ok-try_own.field-0 ≡ Differs = c.in-Differs.is in
    let tried = subst (λ t. IsOwnTried net events c.in-Did.event c.in-Did.told c.try_own.new.world t) is (c.in_ok-try_own.ensures net events c.requires.progress.stands) in
    let same = c.in_ok-reserve.ensures.items in
    let after : StandsFor net events c.in_ok-progress-in-Differs.field-0 = subst (λ l. StandsFor net l c.in_ok-progress-in-Differs.field-0) (c.deref.ensures.value ∙ same) c.in_ok-progress-in-Differs.ensures in
    let whole = differs_settled net js events c.reserve.new.self.items c.args.progress.now.world c.in_ok-progress-in-Differs.field-0 sp pp c.args.conn c.in-Did.event c.in-Did.told c.requires.progress (next ∙ at) (sym c.is_own_of.ensures ∙ c.if-not-is_own_of.false) tried.0.0 tried.0.1 after same in
    (whole.0, whole.1, refl, whole.2)

pub returns-in-Absent : goal.returns-in-Absent
returns-in-Absent c =
    let net = c.args.given.now.net.now in
    let js = journaled c.args.given.now.ports.now c.args.given.now.sources.now in
    let events = c.args.progress.now.events.items in
    let sp = c.args.progress.now.source_places.items in
    let pp = c.args.progress.now.port_places.items in
    let next = next_read net c.args.given.now.ports.now c.args.given.now.sources.now events c.args.progress.now.world sp pp
    c.args.conn c.from-c.result c.index-given-c.result c.as_slice-entries.result.now c.index-place.result.now c.requires.progress c.from-c.ensures c.requires.source c.index-given-c.is c.as_slice-entries.ensures c.index-place.ensures in
    let low : c.index-place.result.now < length c.as_slice-entries.result.now = omega arith in
    let at = stands_at c.as_slice-entries.result.now c.index-place.result.now _ (Did c.in-Did.event c.in-Did.told) low c.in-Did.is in
    let is : c.in_ok-try_own.field-0 ≡ Absent = c.in-Absent.is in
    let tried = subst (λ t. IsOwnTried net events c.in-Did.event c.in-Did.told c.try_own.new.world t) is (c.in_ok-try_own.ensures net events c.requires.progress.stands) in
    let same = c.in_ok-reserve.ensures.items in
    let whole = absent_settled net js events c.reserve.new.self.items c.args.progress.now.world c.try_own.new.world sp pp c.args.conn c.in-Did.event c.in-Did.told c.requires.progress (next ∙ at) tried.0.0 tried.0.1 tried.1 same in
    (whole.0, whole.1, refl, whole.2)
