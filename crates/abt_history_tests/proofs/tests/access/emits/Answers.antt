use Rattle.std.proofs.Common.{rules}
use Rattle.abt_model.specs.declared.command.SourceCommand.TheVariants.{Emit}
use Rattle.abt_model.specs.declared.outcome.Outcome.TheVariants.{Emitted}
use Rattle.abt_history.specs.Modes.{When}
use Rattle.abt_history.specs.Sites.{Allows}
use Rattle.abt_history_tests.proofs.Cells.{comes}
use Rattle.abt_history_tests.proofs.tests.access.emits.Goals as goal

pub bring-requires-clause-can : goal.bring-requires-clause-can
bring-requires-clause-can g c =
    let k = g.K.Keeping in
    let site = c.carry_out.new.self in
    let allowed : When k.kept (Allows k.net site (Emit c.args.now) (Emitted c.in-Emitted.cell c.in-Emitted.next)) = search rules in
    comes k.kept k.net c.args.net.now site.conn c.conn.result c.in-Emitted.cell c.args.now c.args.jitter site.arrived c.arrived.result c.in_ok-at.at site.front c.conn.ensures c.arrived.ensures c.requires.net allowed c.in_ok-at.ensures
