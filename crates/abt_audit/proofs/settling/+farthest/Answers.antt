-- However the first write is settled, the others are settled in each way.
use Rattle.std.proofs.Common.{◌≡◌, ◌∙◌, ◌<◌, List, ◌∷◌, length, ℕ, sym, ap, subst, arith}
use Rattle.abt_keep.specs.declared.plan.StorePlan.TheVariants.{FailsBefore, FailsAfter}
use Rattle.abt_model.specs.declared.entry.SourceEntry.{SourceEntry}
use Rattle.abt_audit.specs.Settling.{planned, IsFarthest}
use Rattle.abt_audit.proofs.Settled.{farthest_none, farthest_past, farthest_whole, farthest_before, farthest_after, no_places, put_back}
use Rattle.abt_audit.proofs.Stopped.{farthest_early}
use Rattle.abt_audit.proofs.settling.+farthest.Goals as goal

pub returns-in_default-clause-value : goal.returns-in_default-clause-value
returns-in_default-clause-value n c =
    subst (λ (ps : List ℕ). IsFarthest c.args.vc ps c.args.entries.now c.reach.result) (sym (no_places c.args.places.now c.in_default.ensures.cases))
    (farthest_none c.args.vc c.args.entries.now c.reach.result c.reach.ensures)

pub returns-then-place-entries-clause-value : goal.returns-then-place-entries-clause-value
returns-then-place-entries-clause-value n c =
    let place = c.in-Some.first.now in
    let rest = c.in-Some.rest.now in
    let list : c.args.places.now ≡ place ∷ rest = c.in-Some.ensures.cases.0 in
    subst (λ (ps : List ℕ). IsFarthest c.args.vc ps c.args.entries.now c.farthest.result) (sym list)
    (farthest_past c.args.vc place rest c.args.entries.now c.farthest.result (omega (arith, c.if-place-entries.true)) c.farthest.ensures.value)

pub returns-then-before-entries-clause-same : goal.returns-then-before-entries-clause-same
returns-then-before-entries-clause-same n c =
    let place = c.in-Some.first.now in
    let low : place < length c.args.entries.now = omega (arith, c.if-place-entries.false) in
    let entries = c.args.entries.now in
    let one = c.index-entries-place.result in
    let back = put_back place entries one c.plan_of-kept.result FailsBefore c.plan_at.new.entries c.farthest-before.new.entries c.plan_at-2.new.entries low
    c.plan_of-kept.ensures c.plan_at.ensures c.farthest-before.ensures.same c.plan_at-2.ensures in
    back

pub returns-then-before-entries-clause-value : goal.returns-then-before-entries-clause-value
returns-then-before-entries-clause-value n c =
    let place = c.in-Some.first.now in
    let rest = c.in-Some.rest.now in
    let list : c.args.places.now ≡ place ∷ rest = c.in-Some.ensures.cases.0 in
    let low : place < length c.args.entries.now = omega (arith, c.if-place-entries.false) in
    let entries = c.args.entries.now in
    let one = c.index-entries-place.result in
    let back = put_back place entries one c.plan_of-kept.result FailsBefore c.plan_at.new.entries c.farthest-before.new.entries c.plan_at-2.new.entries low
    c.plan_of-kept.ensures c.plan_at.ensures c.farthest-before.ensures.same c.plan_at-2.ensures in
    let before = subst (λ (es : List SourceEntry). IsFarthest c.args.vc rest es c.farthest-before.result) c.plan_at.ensures c.farthest-before.ensures.value in
    let all : c.farthest-before.result ≡ length entries = c.if-before-entries.true ∙ ap (λ (es : List SourceEntry). length es) back in
    subst (λ (ps : List ℕ). IsFarthest c.args.vc ps entries c.farthest-before.result) (sym list)
    (farthest_whole c.args.vc place rest entries c.farthest-before.result all before)

pub returns-then-before-place-clause-same : goal.returns-then-before-place-clause-same
returns-then-before-place-clause-same n c =
    let place = c.in-Some.first.now in
    let low : place < length c.args.entries.now = omega (arith, c.if-place-entries.false) in
    let entries = c.args.entries.now in
    let one = c.index-entries-place.result in
    let back = put_back place entries one c.plan_of-kept.result FailsBefore c.plan_at.new.entries c.farthest-before.new.entries c.plan_at-2.new.entries low
    c.plan_of-kept.ensures c.plan_at.ensures c.farthest-before.ensures.same c.plan_at-2.ensures in
    back

pub returns-then-before-place-clause-value : goal.returns-then-before-place-clause-value
returns-then-before-place-clause-value n c =
    let place = c.in-Some.first.now in
    let rest = c.in-Some.rest.now in
    let list : c.args.places.now ≡ place ∷ rest = c.in-Some.ensures.cases.0 in
    let entries = c.args.entries.now in
    let before = subst (λ (es : List SourceEntry). IsFarthest c.args.vc rest es c.farthest-before.result) c.plan_at.ensures c.farthest-before.ensures.value in
    subst (λ (ps : List ℕ). IsFarthest c.args.vc ps entries c.farthest-before.result) (sym list)
    (farthest_early c.args.vc place rest entries c.farthest-before.result (omega (arith, c.if-before-place.true)) before)

pub returns-then-after-before-clause-same : goal.returns-then-after-before-clause-same
returns-then-after-before-clause-same n c =
    let place = c.in-Some.first.now in
    let low : place < length c.args.entries.now = omega (arith, c.if-place-entries.false) in
    let entries = c.args.entries.now in
    let one = c.index-entries-place.result in
    let back = put_back place entries one c.plan_of-kept.result FailsBefore c.plan_at.new.entries c.farthest-before.new.entries c.plan_at-2.new.entries low
    c.plan_of-kept.ensures c.plan_at.ensures c.farthest-before.ensures.same c.plan_at-2.ensures in
    let planned_after : c.plan_at-3.new.entries ≡ planned FailsAfter place entries = c.plan_at-3.ensures ∙ ap (planned FailsAfter place) back in
    put_back place entries one c.plan_of-kept.result FailsAfter c.plan_at-3.new.entries c.farthest-after.new.entries c.plan_at-4.new.entries low
    c.plan_of-kept.ensures planned_after c.farthest-after.ensures.same c.plan_at-4.ensures

pub returns-then-after-before-clause-value : goal.returns-then-after-before-clause-value
returns-then-after-before-clause-value n c =
    let place = c.in-Some.first.now in
    let rest = c.in-Some.rest.now in
    let list : c.args.places.now ≡ place ∷ rest = c.in-Some.ensures.cases.0 in
    let low : place < length c.args.entries.now = omega (arith, c.if-place-entries.false) in
    let entries = c.args.entries.now in
    let one = c.index-entries-place.result in
    let back = put_back place entries one c.plan_of-kept.result FailsBefore c.plan_at.new.entries c.farthest-before.new.entries c.plan_at-2.new.entries low
    c.plan_of-kept.ensures c.plan_at.ensures c.farthest-before.ensures.same c.plan_at-2.ensures in
    let before = subst (λ (es : List SourceEntry). IsFarthest c.args.vc rest es c.farthest-before.result) c.plan_at.ensures c.farthest-before.ensures.value in
    let planned_after : c.plan_at-3.new.entries ≡ planned FailsAfter place entries = c.plan_at-3.ensures ∙ ap (planned FailsAfter place) back in
    let after = subst (λ (es : List SourceEntry). IsFarthest c.args.vc rest es c.farthest-after.result) planned_after c.farthest-after.ensures.value in
    subst (λ (ps : List ℕ). IsFarthest c.args.vc ps entries c.farthest-after.result) (sym list)
    (farthest_after c.args.vc place rest entries c.farthest-before.result c.farthest-after.result (omega (arith, c.if-after-before.true)) before after)

pub returns-clause-same : goal.returns-clause-same
returns-clause-same n c =
    let place = c.in-Some.first.now in
    let low : place < length c.args.entries.now = omega (arith, c.if-place-entries.false) in
    let entries = c.args.entries.now in
    let one = c.index-entries-place.result in
    let back = put_back place entries one c.plan_of-kept.result FailsBefore c.plan_at.new.entries c.farthest-before.new.entries c.plan_at-2.new.entries low
    c.plan_of-kept.ensures c.plan_at.ensures c.farthest-before.ensures.same c.plan_at-2.ensures in
    let planned_after : c.plan_at-3.new.entries ≡ planned FailsAfter place entries = c.plan_at-3.ensures ∙ ap (planned FailsAfter place) back in
    put_back place entries one c.plan_of-kept.result FailsAfter c.plan_at-3.new.entries c.farthest-after.new.entries c.plan_at-4.new.entries low
    c.plan_of-kept.ensures planned_after c.farthest-after.ensures.same c.plan_at-4.ensures

pub returns-clause-value : goal.returns-clause-value
returns-clause-value n c =
    let place = c.in-Some.first.now in
    let rest = c.in-Some.rest.now in
    let list : c.args.places.now ≡ place ∷ rest = c.in-Some.ensures.cases.0 in
    let low : place < length c.args.entries.now = omega (arith, c.if-place-entries.false) in
    let entries = c.args.entries.now in
    let one = c.index-entries-place.result in
    let back = put_back place entries one c.plan_of-kept.result FailsBefore c.plan_at.new.entries c.farthest-before.new.entries c.plan_at-2.new.entries low
    c.plan_of-kept.ensures c.plan_at.ensures c.farthest-before.ensures.same c.plan_at-2.ensures in
    let before = subst (λ (es : List SourceEntry). IsFarthest c.args.vc rest es c.farthest-before.result) c.plan_at.ensures c.farthest-before.ensures.value in
    let planned_after : c.plan_at-3.new.entries ≡ planned FailsAfter place entries = c.plan_at-3.ensures ∙ ap (planned FailsAfter place) back in
    let after = subst (λ (es : List SourceEntry). IsFarthest c.args.vc rest es c.farthest-after.result) planned_after c.farthest-after.ensures.value in
    subst (λ (ps : List ℕ). IsFarthest c.args.vc ps entries c.farthest-before.result) (sym list)
    (farthest_before c.args.vc place rest entries c.farthest-before.result c.farthest-after.result (omega (arith, c.if-after-before.false)) before after)
