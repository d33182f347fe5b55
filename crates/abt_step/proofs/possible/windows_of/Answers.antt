use Rattle.std.proofs.Common.{◌≡◌, ◌+◌, ◌-◌, ◌≤◌, ◌∙◌, ap, sym, arith, max}
use Rattle.std.specs.Prelude.{Some, None, unwrap_or}
use Rattle.abt_model.specs.Past.{facts_of}
use Rattle.abt_model.specs.Run.{facts_after}
use Rattle.abt_world.specs.Readings.{progress_of}
use Rattle.abt_world.specs.declared.progress.Progress.{Progress}
use Rattle.abt_step.specs.Possible.{windows_from}
use Rattle.abt_step.proofs.Possibles.{progress_is, moment_is, same_progress, windows_next, windows_all}
use Rattle.abt_step.proofs.possible.windows_of.Goals as goal

pub returns-in_default : goal.returns-in_default
returns-in_default c = λ net events stands known.
    let past = facts_after net events in
    let clash : None ≡ Some (progress_of (facts_of c.args.place past)) =
    sym c.in_default.is ∙ c.progress.ensures net events stands ∙ progress_is net past c.args.place c.args.conn.now known in
    absurd (cc)

pub loop-cell-preserved : goal.loop-cell-preserved
loop-cell-preserved c =
    let test = c.loop-cell-test.true in
    let p = c.in-Some.progress in (
      omega (arith, test),
      λ net events stands known.
          let past = facts_after net events in
          let facts = facts_of c.args.place past in
          let is = same_progress p (progress_of facts) (c.in-Some.ensures net events stands ∙ progress_is net past c.args.place c.args.conn.now known) in
          windows_next c.args.place c.args.conn.now facts p.last_arrival p.fence c.loop-cell.cell _ c.loop-cell.windows _ _
          c.in_ok-push_if_open.ensures c.window_of-window.ensures (ap (λ (q : Progress). q.last_arrival) is)
          (c.unwrap_or-moment.ensures ∙ ap (λ o. unwrap_or o 0) (c.moment.ensures net events stands) ∙ moment_is net past c.args.place c.loop-cell.cell c.args.conn.now known)
          c.loop-cell.auto.cell (c.loop-cell.invariant.1 net events stands known),
    )

pub returns : goal.returns
returns c = λ net events stands known.
    let p = c.in-Some.progress in
    let past = facts_after net events in
    let facts = facts_of c.args.place past in
    let is = same_progress p (progress_of facts) (c.in-Some.ensures net events stands ∙ progress_is net past c.args.place c.args.conn.now known) in
    windows_all c.args.place c.args.conn.now facts p c.loop-cell.cell c.loop-cell.windows is c.loop-cell-test.false c.loop-cell.invariant.0
    (c.loop-cell.invariant.1 net events stands known)
