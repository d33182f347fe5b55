-- The name is that of the file.
use Rattle.std.proofs.Common.{sym}
use Rattle.abt_cli.proofs.lost.is_drawn_over.Goals as goal

pub returns-in-Some : goal.returns-in-Some
returns-in-Some c = rw (c.in-Some.is, sym c.as_str.ensures.value) c.is_taken.ensures
