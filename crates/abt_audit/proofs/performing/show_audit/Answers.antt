-- The run of stuck journals has one for each port and each source.
use Rattle.std.proofs.Common.{Option, sym, subst}
use Rattle.std.specs.Prelude.{IfSome}
use Rattle.abt_journal_text.specs.declared.run.Run.{Run}
use Rattle.abt_audit.specs.Parts.{IsSizedRun}
use Rattle.abt_audit.proofs.Judged.{sized_left}
use Rattle.abt_audit.proofs.performing.show_audit.Goals as goal

pub returns-in-Err-clause-sized : goal.returns-in-Err-clause-sized
returns-in-Err-clause-sized g c =
    subst (λ (left : Option Run). IfSome left IsSizedRun) (sym c.run_in.ensures) (sized_left c.args.form c.args.names.now _ c.in-Err.fault _ _ c.in-Err.ensures.err)
