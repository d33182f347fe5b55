use Rattle.std.proofs.Common.{◌≡◌, ℕ, ◌-◌, ◌<◌, [], ◌∷◌, ◌++◌, List, true, refl, sym, ap, subst, ◌∙◌, append_assoc, arith}
use Rattle.abt_model.specs.declared.event.Event.{Event}
use Rattle.abt_model.specs.declared.event.Event.TheVariants.{Answer}
use Rattle.abt_world.specs.Standing.{StandsFor}
use Rattle.abt_laws.specs.RoundTrips.{back_over}
use Rattle.abt_laws.specs.Playing.{HaveBegun}
use Rattle.abt_laws.proofs.Played.{err_holds, append_none, back_less}
use Rattle.abt_laws.proofs.round_trip.carry_back.Goals as goal

pub loop-hop-init : goal.loop-hop-init
loop-hop-init c net events stands = ([], refl, subst (λ (es : List Event). StandsFor net es c.args.world.now) (sym (append_none events)) stands)

pub loop-hop-preserved : goal.loop-hop-preserved
loop-hop-preserved c net events stands =
    let conn = c.args.conn in
    let seq = c.args.seq in
    let n = c.loop-hop.hop in
    let test = c.loop-hop-test.true in
    let e = Answer conn n seq true in
    let before = c.loop-hop.invariant net events stands in
    let some : 0 < n = omega arith in
    let step = (c.in_ok-step.ensures.outcome net (events ++ before.0) before.2).1 in (
      before.0 ++ e ∷ [],
      append_assoc before.0 (e ∷ []) (back_over conn seq (n - 1)) ∙ ap (λ (l : List Event). before.0 ++ l) (sym (back_less conn seq n some)) ∙ before.1,
      subst (λ (es : List Event). StandsFor net es c.step.new.self) (append_assoc events before.0 (e ∷ [])) step,
    )

pub returns-in_err-step-clause-err : goal.returns-in_err-step-clause-err
returns-in_err-step-clause-err c net events stands =
    let before = c.loop-hop.invariant net events stands in
    err_holds c.from_residual.result (HaveBegun net events (back_over c.args.conn c.args.seq c.args.hops) c.step.new.self) (record {
      done = before.0;
      left = back_over c.args.conn c.args.seq c.loop-hop.hop;
      parts = before.1;
      stands = c.in_err-step.ensures.outcome net (events ++ before.0) before.2;
    })

pub returns-clause-ok : goal.returns-clause-ok
returns-clause-ok c net events stands =
    let test = c.loop-hop-test.false in
    let none : c.loop-hop.hop ≡ 0 = omega arith in
    let before = c.loop-hop.invariant net events stands in
    let all : before.0 ≡ back_over c.args.conn c.args.seq c.args.hops = sym (append_none before.0) ∙ ap (λ (n : ℕ). before.0 ++ back_over c.args.conn c.args.seq n) (sym none) ∙ before.1 in
    subst (λ (es : List Event). StandsFor net (events ++ es) c.loop-hop.world) all before.2
