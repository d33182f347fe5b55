use Rattle.std.proofs.Common.{◌≡◌, ◌∙◌, inl, inr, ap, sym, reverse, Some}
use Rattle.abt_model.specs.Outcomes.{conn_of}
use Rattle.abt_model.specs.Targets.{conn_in}
use Rattle.abt_weave.specs.Progress.{journaled}
use Rattle.abt_weave.proofs.Touching.{touched_wakes}
use Rattle.abt_weave.proofs.waking.wake_for.Goals as goal

pub returns-in-Source-clause-wakes : goal.returns-in-Source-clause-wakes
returns-in-Source-clause-wakes c =
    let whose : conn_of c.args.event.now ≡ Some c.in-Source.conn = elim c.in-Source.is [
      | inl source ↦ ap conn_in (sym c.target.ensures.value ∙ source.1)
      | inr rest ↦ elim rest [
        | inl end ↦ ap conn_in (sym c.target.ensures.value ∙ end.1)
        | inr hop ↦ ap conn_in (sym c.target.ensures.value ∙ hop.1)
      ]
    ] in
    touched_wakes c.wake_connection.result c.args.given.now.net.now (journaled c.args.given.now.ports.now c.args.given.now.sources.now) (reverse c.args.progress.now.events.items) c.args.event.now c.in-Source.conn c.hop_visited.result
    c.args.queue.now c.wake_connection.new.queue whose c.hop_visited.ensures c.wake_connection.ensures.wakes
