-- What was told has crashes put in, is settled and judged.
use Rattle.abt_audit.proofs.OneLogsShown.{absent_so, differs_so, judged, obeyed_so}
use Rattle.abt_audit.proofs.performing_one.judge_log_in.Goals as goal

pub returns-in-Absent-clause-err : goal.returns-in-Absent-clause-err
returns-in-Absent-clause-err c =
    let told = rw c.in-Some.is at c.in_ok-read.ensures in
    let absent = rw c.in-Absent.is at c.in_ok-judge_log.ensures in
    absent_so c.args.form c.args.names.now c.args.book c.args.actor c.in-Some.read c.in_ok-run.run'
    (judged c.args.book c.in-Some.read c.in_ok-restarted.restarted c.in_ok-run.run' told c.in_ok-restarted.ensures c.in_ok-run.ensures) absent

pub returns-in_ok-obeyed-in-Obeys-clause-ok : goal.returns-in_ok-obeyed-in-Obeys-clause-ok
returns-in_ok-obeyed-in-Obeys-clause-ok c =
    let told = rw c.in-Some.is at c.in_ok-read.ensures in
    let obeys = rw c.in-Obeys.is at c.in_ok-judge_log.ensures in
    obeyed_so c.args.form c.args.book c.args.actor c.in-Some.read c.in_ok-run.run' c.entries_judged-count.result c.in_ok-obeyed-in-Obeys.field-0.items
    (judged c.args.book c.in-Some.read c.in_ok-restarted.restarted c.in_ok-run.run' told c.in_ok-restarted.ensures c.in_ok-run.ensures) obeys
    c.entries_judged-count.ensures c.in_ok-obeyed-in-Obeys.ensures

pub returns-in-Differs-clause-err : goal.returns-in-Differs-clause-err
returns-in-Differs-clause-err c =
    let told = rw c.in-Some.is at c.in_ok-read.ensures in
    let differs = rw c.in-Differs.is at c.in_ok-judge_log.ensures in
    differs_so c.args.form c.args.names.now c.args.book c.args.actor c.in-Some.read c.in_ok-run.run' c.in-Differs.place c.differing.result
    (judged c.args.book c.in-Some.read c.in_ok-restarted.restarted c.in_ok-run.run' told c.in_ok-restarted.ensures c.in_ok-run.ensures) differs
    c.differing.ensures
