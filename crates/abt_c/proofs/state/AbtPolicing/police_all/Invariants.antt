use Rattle.abt_rate.specs.Rate.{units_of}
use Rattle.abt_c.specs.States.{policing_of, IsPolicing}
use Rattle.abt_c.specs.Bursts.{AreJudged}
use Rattle.abt_c.proofs.state.AbtPolicing.police_all.Given as goal

abbrev pub invariant-loop-i : goal.invariant-loop-i
invariant-loop-i l = record {
  state : IsPolicing l.initial.self.kind l.policer;
  judged : AreJudged (policing_of l.initial.self) (policing_of l.policer) (units_of l.held) l.at l.initial.verdicts l.verdicts l.i;
}
