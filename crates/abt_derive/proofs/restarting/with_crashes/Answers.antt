-- One entry more, behind the crash that was missing.
use Rattle.std.proofs.Common.{◌+◌, Bool, drop, subst, sym, vec_items, ◌∙◌}
use Rattle.std.specs.Prelude.{Option, option_to_list}
use Rattle.abt_journal_text.proofs.Sending.{next_of}
use Rattle.abt_model.specs.declared.entry.SourceEntry.{SourceEntry}
use Rattle.abt_derive.specs.Completes.{HasMore}
use Rattle.abt_derive.specs.Restarts.{lines_at_spot}
use Rattle.abt_derive.proofs.Crashing.{IsPartly, partly_on}
use Rattle.abt_derive.proofs.restarting.with_crashes.Goals as goal

pub loop-place-preserved : goal.loop-place-preserved
loop-place-preserved c =
    let spots = c.args.spots.now in
    let entries = c.args.entries.now in
    let n = c.loop-place.place in
    let entry = c.index-entries-place.result in
    let spot = c.spot_at-spot.result in
    let crashed = subst (λ (crash : Option SourceEntry). HasMore (lines_at_spot spot (option_to_list crash)) c.loop-place.full c.push_some.new.self)
    c.crash_before.ensures c.in_ok-push_some.ensures in
    subst (λ (up : Bool). IsPartly spots (n + 1) up entries (drop (n + 1) entries) c.push-in-loop-place.new.self (vec_items c.push.new.self))
    (sym c.up_behind-up.ensures)
    (partly_on spots n c.loop-place.up entries (drop n entries) (drop (n + 1) entries) c.loop-place.full c.push_some.new.self c.push-in-loop-place.new.self
    (vec_items c.loop-place.places) (vec_items c.push.new.self) entry spot c.len.result
    (next_of entries n entry c.loop-place-test.true c.index-entries-place.is) c.spot_at-spot.ensures c.loop-place.invariant crashed
    (c.len.ensures ∙ c.push_some.new.self.entries.ok.0) c.in_ok-push.ensures.items c.in_ok-push-2.ensures.entries c.in_ok-push-2.ensures.spots)
