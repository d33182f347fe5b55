-- Octets are text, or aren't.
use Rattle.std.proofs.Common.{◌≡◌, subst}
use Rattle.std.specs.Prelude.{IfOk}
use Rattle.abt_live.proofs.LineTexts.{switch_text, switch_no_text}
use Rattle.abt_live.proofs.switch_asked.asked_in.Goals as goal

pub returns-in-Ok : goal.returns-in-Ok
returns-in-Ok c =
    subst (λ wanted. IfOk c.asked_by.result (λ asked. asked ≡ wanted))
    (switch_text c.args.octets.now c.in-Ok.text.now (c.in-Ok.ensures.cases.0) (c.in-Ok.ensures.cases.1)) c.asked_by.ensures

pub returns-in-Err : goal.returns-in-Err
returns-in-Err c = switch_no_text c.args.octets.now (c.in-Err.ensures.cases.0)
