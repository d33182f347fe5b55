-- A check is told, and then advice of a text that has nothing to run.
use Rattle.std.proofs.Common.{subst, sym}
use Rattle.std.specs.Option.{option_map}
use Rattle.std.specs.Prelude.{string_bytes}
use Rattle.abt_commands.specs.Checked.{TellsBesides}
use Rattle.abt_commands.specs.declared.run_besides.Besides.{Besides}
use Rattle.abt_commands.proofs.run_besides.tell_besides.Goals as goal

pub returns-in-Check : goal.returns-in-Check
returns-in-Check g c =
    subst (λ (besides : Besides). TellsBesides besides (option_map string_bytes c.args.file.now) c.args.text.now (g.E.Write.contents c.args.errors.now) (g.E.Write.contents c.tell_check_first.new.errors))
    (sym c.in-Check.is) c.tell_check_first.ensures
