-- The file that isn't opened is the one whose turn it is.
use Rattle.std.proofs.Common.{◌∙◌, sym}
use Rattle.abt_commands.proofs.audit.open_all.Goals as goal

pub returns-in-Err-clause-err : goal.returns-in-Err-clause-err
returns-in-Err-clause-err g c =
    (c.loop-name.name-index, c.name-item.result, c.loop-name-test.true, sym c.name-item.is, sym c.as_str-name.ensures.value ∙ sym c.in-Err.ensures)

pub returns-then-is_err-clause-err : goal.returns-then-is_err-clause-err
returns-then-is_err-clause-err g c = (c.loop-name.name-index, c.name-item.result, c.loop-name-test.true, sym c.name-item.is, sym c.as_str-name.ensures.value)
