use Rattle.std.proofs.Common.{◌≡◌, ℕ, ◌+◌, [], ◌∷◌, ◌++◌, List, sym, ap, subst, ◌∙◌, append_assoc, arith}
use Rattle.abt_model.specs.declared.event.Event.{Event}
use Rattle.abt_model.specs.declared.event.Event.TheVariants.{Request}
use Rattle.abt_world.specs.Standing.{StandsFor}
use Rattle.abt_laws.specs.RoundTrips.{out_over}
use Rattle.abt_laws.specs.Playing.{HaveBegun}
use Rattle.abt_laws.proofs.Played.{err_holds, append_none, out_more, out_begun}
use Rattle.abt_laws.proofs.round_trip.carry_out.Goals as goal

pub loop-visited-init : goal.loop-visited-init
loop-visited-init c net events stands = subst (λ (es : List Event). StandsFor net es c.args.world.now) (sym (append_none events)) stands

pub loop-visited-preserved : goal.loop-visited-preserved
loop-visited-preserved c net events stands =
    let conn = c.args.conn in
    let seq = c.args.seq in
    let n = c.loop-visited.visited in
    let e = Request conn (n + 1) seq in
    let before = c.loop-visited.invariant net events stands in
    let step = (c.in_ok-step.ensures.outcome net (events ++ out_over conn seq n) before).1 in
    let is : (events ++ out_over conn seq n) ++ e ∷ [] ≡ events ++ out_over conn seq (n + 1) = append_assoc events (out_over conn seq n) (e ∷ []) ∙ ap (λ (l : List Event). events ++ l) (sym (out_more conn seq n)) in
    subst (λ (es : List Event). StandsFor net es c.step.new.self) is step

pub returns-in_err-step-clause-err : goal.returns-in_err-step-clause-err
returns-in_err-step-clause-err c net events stands =
    let conn = c.args.conn in
    let seq = c.args.seq in
    let n = c.loop-visited.visited in
    let test = c.loop-visited-test.true in
    let left = out_begun conn seq n c.args.hops (omega arith) in
    let before = c.loop-visited.invariant net events stands in
    err_holds c.from_residual.result (HaveBegun net events (out_over conn seq c.args.hops) c.step.new.self) (record {
      done = out_over conn seq n;
      left = left.0;
      parts = left.1;
      stands = c.in_err-step.ensures.outcome net (events ++ out_over conn seq n) before;
    })

pub returns-clause-ok : goal.returns-clause-ok
returns-clause-ok c net events stands =
    let test = c.loop-visited-test.false in
    let within = c.loop-visited.auto.visited-end in
    let all : c.loop-visited.visited ≡ c.args.hops = omega arith in
    subst (λ (n : ℕ). StandsFor net (events ++ out_over c.args.conn c.args.seq n) c.loop-visited.world) all (c.loop-visited.invariant net events stands)
