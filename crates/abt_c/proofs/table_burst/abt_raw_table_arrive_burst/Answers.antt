use Rattle.std.proofs.Common.{rules, ◌≢◌, ◌<◌, length, inl, inr, refl, ◌∙◌, arith, get_or-set_other}
use Rattle.abt_c.proofs.ArrivalLemmas.{none_arrived, one_more_arrived, head_stays, table_stays}
use Rattle.abt_c.proofs.table_burst.abt_raw_table_arrive_burst.Goals as goal

pub loop-i-init : goal.loop-i-init
loop-i-init c = record {
  head = search rules;
  state = λ is. is;
  judged = none_arrived c.args.table.now c.args.cells.now c.args.outcomes.now;
  rest = λ k above. refl;
}

pub returns-then-outcome-ge-FIRST_FAULT-clause-wrong_length :
    goal.returns-then-outcome-ge-FIRST_FAULT-clause-wrong_length
returns-then-outcome-ge-FIRST_FAULT-clause-wrong_length c =
    let came = c.abt_raw_table_arrive-outcome.ensures.value c.loop-i.invariant.head in
    (λ e. absurd (came.kind.1 e), λ e. absurd (e.1 c.if-cells-outcomes.false))

pub returns-then-outcome-ge-FIRST_FAULT-clause-same :
    goal.returns-then-outcome-ge-FIRST_FAULT-clause-same
returns-then-outcome-ge-FIRST_FAULT-clause-same c =
    let came = c.abt_raw_table_arrive-outcome.ensures.value c.loop-i.invariant.head in
    λ either. elim either [ inl e ↦ absurd (came.kind.0 e) | inr e ↦ absurd (came.kind.1 e) ]

pub loop-i-preserved : goal.loop-i-preserved
loop-i-preserved c =
    let came = c.abt_raw_table_arrive-outcome.ensures.value c.loop-i.invariant.head in
    let room : c.loop-i.i < length c.loop-i.outcomes = omega arith in
    record {
      head = head_stays c.loop-i.table c.abt_raw_table_arrive-outcome.new.table c.loop-i.invariant.head came.rest;
      state = λ is. table_stays c.loop-i.table c.abt_raw_table_arrive-outcome.new.table (c.loop-i.invariant.state is) came.rest;
      judged =
          one_more_arrived c.args.table.now c.loop-i.table c.abt_raw_table_arrive-outcome.new.table c.args.cells.now c.loop-i.outcomes c.loop-i.i c.abt_raw_table_arrive-outcome.result c.loop-i.invariant.judged room
          c.if-outcome-ge-FIRST_FAULT.false came;
      rest = λ k above. let other : k ≢ c.loop-i.i = omega arith in get_or-set_other c.loop-i.outcomes c.loop-i.i k c.abt_raw_table_arrive-outcome.result 0 other ∙ c.loop-i.invariant.rest k (omega arith);
    }
