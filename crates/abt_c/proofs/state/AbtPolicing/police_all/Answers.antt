use Rattle.std.proofs.Common.{◌≡◌, ℕ, ◌+◌, ◌<◌, length, set, refl, sym, subst, ◌∙◌, arith}
use Rattle.abt_rate.specs.Rate.{units_of}
use Rattle.abt_c.specs.States.{policing_of}
use Rattle.abt_c.specs.Bursts.{AreJudged}
use Rattle.abt_c.proofs.BurstLemmas.{none_judged, one_more_judged, policed_by-rate}
use Rattle.abt_c.proofs.state.AbtPolicing.police_all.Goals as goal

pub loop-i-init : goal.loop-i-init
loop-i-init c = record {
  state = (refl, c.requires.kept);
  judged = none_judged (policing_of c.args.self.now) (units_of c.args.held) c.args.at.now c.args.verdicts.now;
}

pub returns-then-moment-policer-clause-state : goal.returns-then-moment-policer-clause-state
returns-then-moment-policer-clause-state c = c.loop-i.invariant.state

pub returns-then-moment-policer-clause-value : goal.returns-then-moment-policer-clause-value
returns-then-moment-policer-clause-value c = c.loop-i.invariant.judged

pub loop-i-preserved : goal.loop-i-preserved
loop-i-preserved c =
    let old = policing_of c.args.self.now in
    let held = units_of c.args.held in
    let is = c.police_by-verdict.ensures.value ∙ policed_by-rate (policing_of c.loop-i.policer) _ held c.spacing_of_code-spacing.result c.spacing_of_code-spacing.ensures.none c.spacing_of_code-spacing.ensures.value in
    let room : c.loop-i.i < length c.loop-i.verdicts = omega arith in
    record {
      state = (c.police_by-verdict.ensures.state.0 ∙ c.loop-i.invariant.state.0, c.police_by-verdict.ensures.state.1);
      judged =
          subst
          (λ (k : ℕ). AreJudged old (policing_of c.police_by-verdict.new.self) held c.args.at.now c.args.verdicts.now (set c.loop-i.verdicts c.loop-i.i k) (c.loop-i.i + 1))
          (sym c.of_verdict.ensures.value)
          (one_more_judged old (policing_of c.loop-i.policer) (policing_of c.police_by-verdict.new.self) held c.args.at.now c.args.verdicts.now c.loop-i.verdicts c.loop-i.i c.police_by-verdict.result c.loop-i.invariant.judged
          c.loop-i-test.true room (c.if-moment-policer.false, c.if-moment-gt-ARRIVE_MAX.false) is);
    }

pub returns-clause-value : goal.returns-clause-value
returns-clause-value c =
    let all : c.loop-i.i ≡ length c.args.at.now = omega arith in
    subst
    (λ (n : ℕ). AreJudged (policing_of c.args.self.now) (policing_of c.loop-i.policer) (units_of c.args.held) c.args.at.now c.args.verdicts.now c.loop-i.verdicts n)
    all c.loop-i.invariant.judged

pub returns-clause-state : goal.returns-clause-state
returns-clause-state c = c.loop-i.invariant.state
