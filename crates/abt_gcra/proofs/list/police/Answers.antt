use Rattle.std.proofs.Common.{◌≡◌, ◌+◌, [], ◌∷◌, ◌++◌, arith, ap, subst, ◌∙◌, drop, drop-cons, add-one, get_or}
use Rattle.std.proofs.Math.ListN.{drop_of_length-le}
use Rattle.std.proofs.lemmas.Grind.{common_steps}
use Rattle.abt_gcra.specs.declared.fault.GcraFault.TheVariants.{ClockBack, TimeRange}
use Rattle.abt_gcra.specs.Refusal.{moments_in, IsFirstRefused}
use Rattle.abt_gcra.proofs.PolicingLemmas.{checked-clock}
use Rattle.abt_gcra.proofs.PoliceLemmas.{begun_none, begun_more, begun_all}
use Rattle.abt_gcra.proofs.RefusalLemmas.{one_index, one_fault, first_back, first_late, accepted_next, clock_next, none_first}
use Rattle.abt_gcra.proofs.list.police.Goals as goal

pub loop-index-init : goal.loop-index-init
loop-index-init c = record {
  room = grind (arith, common_steps);
  count = grind (arith, common_steps);
  tau_stays = ap (λ p. p.tau) c.new-gcra.ensures.value;
  clock_is = ap (λ p. p.clock) c.new-gcra.ensures.value;
  accepted = λ before fault below. absurd (omega arith);
  begun = begun_none _ _ _ _ c.new-gcra.ensures.windows (grind (arith, common_steps));
}

first_is_back : (c : goal.After-drop-verdicts) → IsFirstRefused (moments_in c.args.cells.now) c.loop-index.index ClockBack
first_is_back c =
    let e = c.in-Err-ClockBack.field-0-is in
    first_back c.args.cells.now c.loop-index.index c.loop-index.gcra.clock c.loop-index-test.true c.loop-index.invariant.clock_is c.loop-index.invariant.accepted (c.in-Err-ClockBack.ensures.clock_back.0 (cc))

pub returns-in-Err-ClockBack-clause-clock_back : goal.returns-in-Err-ClockBack-clause-clock_back
returns-in-Err-ClockBack-clause-clock_back c = λ _ index. (
  λ is. let same : c.loop-index.index ≡ index = cc in subst (λ k. IsFirstRefused (moments_in c.args.cells.now) k ClockBack) same (first_is_back c),
  λ other. let same = one_index _ _ _ _ _ (first_is_back c) other in cc,
)

pub returns-in-Err-ClockBack-clause-time_range : goal.returns-in-Err-ClockBack-clause-time_range
returns-in-Err-ClockBack-clause-time_range c = λ _ index.
    (λ is. absurd (cc), λ other. absurd (one_fault _ _ _ (first_is_back c) other))

first_is_late : (c : goal.After-drop-verdicts-in-Err-TimeRange) → IsFirstRefused (moments_in c.args.cells.now) c.loop-index.index TimeRange
first_is_late c =
    let e = c.in-Err-TimeRange.field-0-is in
    let late = c.in-Err-TimeRange.ensures.time_range.0 (cc) in
    first_late c.args.cells.now c.loop-index.index c.loop-index.gcra.clock c.loop-index-test.true c.loop-index.invariant.clock_is c.loop-index.invariant.accepted late.0 late.1

pub returns-in-Err-TimeRange-clause-clock_back : goal.returns-in-Err-TimeRange-clause-clock_back
returns-in-Err-TimeRange-clause-clock_back c = λ _ index.
    (λ is. absurd (cc), λ other. absurd (one_fault _ _ _ other (first_is_late c)))

pub returns-in-Err-TimeRange-clause-time_range : goal.returns-in-Err-TimeRange-clause-time_range
returns-in-Err-TimeRange-clause-time_range c = λ _ index. (
  λ is. let same : c.loop-index.index ≡ index = cc in subst (λ k. IsFirstRefused (moments_in c.args.cells.now) k TimeRange) same (first_is_late c),
  λ other. let same = one_index _ _ _ _ _ (first_is_late c) other in cc,
)

pub loop-index-preserved : goal.loop-index-preserved
loop-index-preserved c =
    let clock = checked-clock _ _ _ _ _ c.in-Ok-check.ensures.ok in
    record {
      room = grind (arith, common_steps);
      count = grind (arith, common_steps);
      tau_stays = clock.0 ∙ c.loop-index.invariant.tau_stays;
      clock_is = clock_next _ _ _ c.loop-index-test.true clock.1;
      accepted =
          accepted_next _ _ _ c.loop-index-test.true c.loop-index.invariant.clock_is c.loop-index.invariant.accepted
          (λ back. let refused = c.in-Ok-check.ensures.clock_back.1 back in cc)
          (λ late. let refused = c.in-Ok-check.ensures.time_range.1 late in cc);
      begun =
          let items : c.push.new.self.items ≡ c.loop-index.verdicts.items ++ c.in-Ok-check.verdict ∷ [] = grind (arith, common_steps) in
          let next : drop c.loop-index.index c.args.cells.now ≡ get_or c.args.cells.now c.loop-index.index (0, 0) ∷ drop (c.loop-index.index + 1) c.args.cells.now =
          rw add-one (drop-cons c.args.cells.now c.loop-index.index (0, 0) c.loop-index-test.true) in
          rw items (begun_more _ _ _ _ _ _ _ _ next c.loop-index.invariant.tau_stays c.loop-index.invariant.begun c.in-Ok-check.ensures.windows);
    }

pub returns-clause-ok : goal.returns-clause-ok
returns-clause-ok c = begun_all _ _ _ _ _ (drop_of_length-le _ c.loop-index-test.false) c.loop-index.invariant.begun

pub returns-clause-clock_back : goal.returns-clause-clock_back
returns-clause-clock_back c = λ _ index.
    (λ is. absurd (cc), λ first. absurd (none_first _ _ _ _ c.loop-index-test.false c.loop-index.invariant.accepted first))

pub returns-clause-time_range : goal.returns-clause-time_range
returns-clause-time_range c = λ _ index.
    (λ is. absurd (cc), λ first. absurd (none_first _ _ _ _ c.loop-index-test.false c.loop-index.invariant.accepted first))
