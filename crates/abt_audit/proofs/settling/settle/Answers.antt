-- One open write more is settled.
use Rattle.std.proofs.Common.{◌≡◌, ◌∙◌, List, ◌∷◌, ℕ, sym, ap, subst, arith}
use Rattle.abt_audit.specs.Settling.{planned, Prefers}
use Rattle.abt_audit.proofs.Settled.{IsUnderWay, under_way_past, under_way_more}
use Rattle.abt_audit.proofs.settling.settle.Goals as goal

pub loop-first-preserved-then-place-entries : goal.loop-first-preserved-then-place-entries
loop-first-preserved-then-place-entries c =
    let place = c.in-Some.first.now in
    let rest = c.in-Some.rest.now in
    let now = c.loop-first.entries in
    let plan = c.plan_of_write-plan.result in
    let list : c.loop-first.left.now ≡ place ∷ rest = c.in-Some.ensures.cases.0 in
    let so = subst (λ (ps : List ℕ). IsUnderWay c.args.vc c.args.places.now c.args.entries.now ps now) list c.loop-first.invariant in
    let best = subst (λ (ps : List ℕ). Prefers c.args.vc place ps now plan) c.ahead.ensures c.plan_of_write-plan.ensures.value in
    subst (IsUnderWay c.args.vc c.args.places.now c.args.entries.now rest) (sym (c.plan_at.ensures ∙ ap (planned plan place) c.plan_of_write-plan.ensures.same))
    (under_way_more c.args.vc c.args.places.now c.args.entries.now place rest now plan best so)

pub loop-first-preserved : goal.loop-first-preserved
loop-first-preserved c =
    let place = c.in-Some.first.now in
    let rest = c.in-Some.rest.now in
    let now = c.loop-first.entries in
    let list : c.loop-first.left.now ≡ place ∷ rest = c.in-Some.ensures.cases.0 in
    let so = subst (λ (ps : List ℕ). IsUnderWay c.args.vc c.args.places.now c.args.entries.now ps now) list c.loop-first.invariant in
    under_way_past c.args.vc c.args.places.now c.args.entries.now place rest now (omega (arith, c.if-place-entries.false)) so
