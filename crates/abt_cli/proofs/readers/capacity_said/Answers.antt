-- No capacity is said, as none was found.
use Rattle.std.proofs.Common.{rules, inr, IsNone}
use Rattle.abt_cli.proofs.readers.capacity_said.Goals as goal

pub returns-in_ok-wrong_words-in-None-clause-err : goal.returns-in_ok-wrong_words-in-None-clause-err
returns-in_ok-wrong_words-in-None-clause-err c =
    let is_none : IsNone c.capacity_in.result = search rules in
    inr (c.capacity_in.ensures.none is_none)
