-- Without a file the whole text is one piece.
use Rattle.std.proofs.Common.{subst, sym}
use Rattle.std.specs.Option.{option_map}
use Rattle.std.specs.Prelude.{string_bytes}
use Rattle.abt_commands.specs.Advice.{check_pieces}
use Rattle.abt_commands.specs.Opening.{TellsEach}
use Rattle.abt_commands.proofs.advice.name_check.Goals as goal

pub returns-in-None : goal.returns-in-None
returns-in-None g c =
    subst (λ file. TellsEach (check_pieces (option_map string_bytes file)) (g.E.Write.contents c.args.errors.now) (g.E.Write.contents c.tell_text.new.writer))
    (sym c.in-None.is) c.tell_text.ensures
