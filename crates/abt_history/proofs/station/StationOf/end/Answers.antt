use Rattle.std.proofs.Common.{List, sym, subst}
use Rattle.abt_journal.specs.declared.entry.Entry.{Entry}
use Rattle.abt_history.specs.Ended.{HasPortEnded}
use Rattle.abt_history.specs.Modes.{When}
use Rattle.abt_history.proofs.station.StationOf.end.Goals as goal

pub returns-clause-ended : goal.returns-clause-ended
returns-clause-ended g c =
    let k = g.K.Keeping in
    subst (λ (es : List Entry). When k.kept (HasPortEnded k.net c.args.self.port es (k.log c.into_state-state.result.1))) (sym c.into_entries.ensures.value) c.into_state-state.ensures.ended
