-- Memory was refused.
use Rattle.std.proofs.Common.{inr}
use Rattle.std.proofs.KnownBytes.{Keeps-refl}
use Rattle.abt_commands.proofs.audit_log.judge_input.Goals as goal

pub returns-then-is_err-clause-err : goal.returns-then-is_err-clause-err
returns-then-is_err-clause-err g c =
    λ _. inr (inr (record { unnamed = c.requires; silent = Keeps-refl _; told = c.tell_text.ensures }))
