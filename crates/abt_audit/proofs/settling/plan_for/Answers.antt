-- As many entries fit under this plan as can.
use Rattle.std.proofs.Common.{◌≡◌, ◌∙◌, List, length, ap, subst, arith}
use Rattle.abt_keep.specs.declared.plan.StorePlan.TheVariants.{FailsBefore, FailsAfter}
use Rattle.abt_model.specs.declared.entry.SourceEntry.{SourceEntry}
use Rattle.abt_audit.specs.Settling.{planned, IsFarthest}
use Rattle.abt_audit.proofs.Settled.{farthest_whole, farthest_before, farthest_after, prefers_before, prefers_after, put_back}
use Rattle.abt_audit.proofs.Stopped.{prefers_early}
use Rattle.abt_audit.proofs.settling.plan_for.Goals as goal

pub returns-then-before-entries-clause-same : goal.returns-then-before-entries-clause-same
returns-then-before-entries-clause-same c =
    let place = c.args.place in
    let rest = c.args.next.now in
    let low = c.requires in
    let entries = c.args.entries.now in
    let one = c.index-entries-place.result in
    let back = put_back place entries one c.plan_of-kept.result FailsBefore c.plan_at.new.entries c.farthest-before.new.entries c.plan_at-2.new.entries low
    c.plan_of-kept.ensures c.plan_at.ensures c.farthest-before.ensures.same c.plan_at-2.ensures in
    back

pub returns-then-before-entries-clause-value : goal.returns-then-before-entries-clause-value
returns-then-before-entries-clause-value c =
    let place = c.args.place in
    let rest = c.args.next.now in
    let low = c.requires in
    let entries = c.args.entries.now in
    let one = c.index-entries-place.result in
    let back = put_back place entries one c.plan_of-kept.result FailsBefore c.plan_at.new.entries c.farthest-before.new.entries c.plan_at-2.new.entries low
    c.plan_of-kept.ensures c.plan_at.ensures c.farthest-before.ensures.same c.plan_at-2.ensures in
    let before = subst (λ (es : List SourceEntry). IsFarthest c.args.vc rest es c.farthest-before.result) c.plan_at.ensures c.farthest-before.ensures.value in
    let all : c.farthest-before.result ≡ length entries = c.if-before-entries.true ∙ ap (λ (es : List SourceEntry). length es) back in
    prefers_before c.args.vc place rest entries c.farthest-before.result
    (farthest_whole c.args.vc place rest entries c.farthest-before.result all before) before

pub returns-then-before-place-clause-same : goal.returns-then-before-place-clause-same
returns-then-before-place-clause-same c =
    let place = c.args.place in
    let low = c.requires in
    let entries = c.args.entries.now in
    let one = c.index-entries-place.result in
    let back = put_back place entries one c.plan_of-kept.result FailsBefore c.plan_at.new.entries c.farthest-before.new.entries c.plan_at-2.new.entries low
    c.plan_of-kept.ensures c.plan_at.ensures c.farthest-before.ensures.same c.plan_at-2.ensures in
    back

pub returns-then-before-place-clause-value : goal.returns-then-before-place-clause-value
returns-then-before-place-clause-value c =
    let place = c.args.place in
    let rest = c.args.next.now in
    let entries = c.args.entries.now in
    let before = subst (λ (es : List SourceEntry). IsFarthest c.args.vc rest es c.farthest-before.result) c.plan_at.ensures c.farthest-before.ensures.value in
    prefers_early c.args.vc place rest entries c.farthest-before.result (omega (arith, c.if-before-place.true)) before

pub returns-then-after-before-clause-same : goal.returns-then-after-before-clause-same
returns-then-after-before-clause-same c =
    let place = c.args.place in
    let rest = c.args.next.now in
    let low = c.requires in
    let entries = c.args.entries.now in
    let one = c.index-entries-place.result in
    let back = put_back place entries one c.plan_of-kept.result FailsBefore c.plan_at.new.entries c.farthest-before.new.entries c.plan_at-2.new.entries low
    c.plan_of-kept.ensures c.plan_at.ensures c.farthest-before.ensures.same c.plan_at-2.ensures in
    let planned_after : c.plan_at-3.new.entries ≡ planned FailsAfter place entries = c.plan_at-3.ensures ∙ ap (planned FailsAfter place) back in
    put_back place entries one c.plan_of-kept.result FailsAfter c.plan_at-3.new.entries c.farthest-after.new.entries c.plan_at-4.new.entries low
    c.plan_of-kept.ensures planned_after c.farthest-after.ensures.same c.plan_at-4.ensures

pub returns-then-after-before-clause-value : goal.returns-then-after-before-clause-value
returns-then-after-before-clause-value c =
    let place = c.args.place in
    let rest = c.args.next.now in
    let low = c.requires in
    let entries = c.args.entries.now in
    let one = c.index-entries-place.result in
    let back = put_back place entries one c.plan_of-kept.result FailsBefore c.plan_at.new.entries c.farthest-before.new.entries c.plan_at-2.new.entries low
    c.plan_of-kept.ensures c.plan_at.ensures c.farthest-before.ensures.same c.plan_at-2.ensures in
    let before = subst (λ (es : List SourceEntry). IsFarthest c.args.vc rest es c.farthest-before.result) c.plan_at.ensures c.farthest-before.ensures.value in
    let planned_after : c.plan_at-3.new.entries ≡ planned FailsAfter place entries = c.plan_at-3.ensures ∙ ap (planned FailsAfter place) back in
    let after = subst (λ (es : List SourceEntry). IsFarthest c.args.vc rest es c.farthest-after.result) planned_after c.farthest-after.ensures.value in
    prefers_after c.args.vc place rest entries c.farthest-before.result c.farthest-after.result (omega (arith, c.if-after-before.true))
    (farthest_after c.args.vc place rest entries c.farthest-before.result c.farthest-after.result (omega (arith, c.if-after-before.true)) before after)
    before after

pub returns-clause-same : goal.returns-clause-same
returns-clause-same c =
    let place = c.args.place in
    let rest = c.args.next.now in
    let low = c.requires in
    let entries = c.args.entries.now in
    let one = c.index-entries-place.result in
    let back = put_back place entries one c.plan_of-kept.result FailsBefore c.plan_at.new.entries c.farthest-before.new.entries c.plan_at-2.new.entries low
    c.plan_of-kept.ensures c.plan_at.ensures c.farthest-before.ensures.same c.plan_at-2.ensures in
    let planned_after : c.plan_at-3.new.entries ≡ planned FailsAfter place entries = c.plan_at-3.ensures ∙ ap (planned FailsAfter place) back in
    put_back place entries one c.plan_of-kept.result FailsAfter c.plan_at-3.new.entries c.farthest-after.new.entries c.plan_at-4.new.entries low
    c.plan_of-kept.ensures planned_after c.farthest-after.ensures.same c.plan_at-4.ensures

pub returns-clause-value : goal.returns-clause-value
returns-clause-value c =
    let place = c.args.place in
    let rest = c.args.next.now in
    let low = c.requires in
    let entries = c.args.entries.now in
    let one = c.index-entries-place.result in
    let back = put_back place entries one c.plan_of-kept.result FailsBefore c.plan_at.new.entries c.farthest-before.new.entries c.plan_at-2.new.entries low
    c.plan_of-kept.ensures c.plan_at.ensures c.farthest-before.ensures.same c.plan_at-2.ensures in
    let before = subst (λ (es : List SourceEntry). IsFarthest c.args.vc rest es c.farthest-before.result) c.plan_at.ensures c.farthest-before.ensures.value in
    let planned_after : c.plan_at-3.new.entries ≡ planned FailsAfter place entries = c.plan_at-3.ensures ∙ ap (planned FailsAfter place) back in
    let after = subst (λ (es : List SourceEntry). IsFarthest c.args.vc rest es c.farthest-after.result) planned_after c.farthest-after.ensures.value in
    prefers_before c.args.vc place rest entries c.farthest-before.result
    (farthest_before c.args.vc place rest entries c.farthest-before.result c.farthest-after.result (omega (arith, c.if-after-before.false)) before after) before
