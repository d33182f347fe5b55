-- Each command by its case.
use Rattle.abt_commands.proofs.carry_out.carry_out_command.Goals as goal

pub returns-in-Explain : goal.returns-in-Explain
returns-in-Explain g c = rw c.in-Explain.is c.explain.ensures

pub returns-in-Check : goal.returns-in-Check
returns-in-Check g c = rw c.in-Check.is c.check.ensures

pub returns-in-AuditLog : goal.returns-in-AuditLog
returns-in-AuditLog g c = rw c.in-AuditLog.is c.audit_log.ensures

pub returns-in-Police : goal.returns-in-Police
returns-in-Police g c = rw c.in-Police.is c.answer_lines.ensures

pub returns-in-Shape : goal.returns-in-Shape
returns-in-Shape g c = rw c.in-Shape.is c.answer_lines-in-Shape.ensures

pub returns-in-Step : goal.returns-in-Step
returns-in-Step g c = rw (c.in-Step.is, ← c.as_str.ensures.value) c.step.ensures

pub returns-in-Play : goal.returns-in-Play
returns-in-Play g c = rw c.in-Play.is c.play.ensures

pub returns-in-Code : goal.returns-in-Code
returns-in-Code g c = rw c.in-Code.is c.say_codes.ensures

pub returns-in-Write : goal.returns-in-Write
returns-in-Write g c = rw c.in-Write.is c.say_codes-in-Write.ensures

pub returns-in-Switch : goal.returns-in-Switch
returns-in-Switch g c = rw c.in-Switch.is c.switch.ensures

pub returns-in-Source : goal.returns-in-Source
returns-in-Source g c = rw c.in-Source.is c.source.ensures
