use Rattle.std.proofs.Common.{arith}
use Rattle.std.proofs.lemmas.Bool.{false≢true}
use Rattle.abt_c.proofs.TableLemmas.{HasRoom, is_counted, table_with}
use Rattle.abt_c.proofs.table_state.AbtTable.answer_at.Goals as goal

pub returns-then-not-is_counted-clause-value : goal.returns-then-not-is_counted-clause-value
returns-then-not-is_counted-clause-value c is =
    let room : HasRoom c.args.self.now = record { rows = omega arith; before = omega arith; last = omega arith } in
    absurd (false≢true (c.if-not-is_counted.ensures.1 (is_counted c.args.self.now c.args.row is room c.requires.row.0)))

pub returns-clause-state : goal.returns-clause-state
returns-clause-state c is =
    let room : HasRoom c.args.self.now = record { rows = omega arith; before = omega arith; last = omega arith } in
    table_with c.args.self.now c.args.row c.apply_answer-back.new.self c.apply_answer-back.new.port is room c.requires.row.0 c.apply_answer-back.ensures.vc c.apply_answer-back.ensures.state
    c.apply_answer-back.ensures.port
