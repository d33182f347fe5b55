-- The value is no line of journals.
use Rattle.abt_live.proofs.NotedLines.{no_line}
use Rattle.abt_live.proofs.noted.noted_in.Goals as goal

pub noted_about-requires : goal.noted_about-requires
noted_about-requires c = no_line c.args.text.now c.in-Err-Kind.field-0 c.in-Err-Kind.field-0-is c.in-Err-Kind.ensures.err
