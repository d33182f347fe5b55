use Rattle.abt_entry.proofs.Adding.{adds_last}
use Rattle.abt_check.proofs.objects.push_scenario_fault.Goals as goal

pub returns-in-MissingKey : goal.returns-in-MissingKey
returns-in-MissingKey c = rw (c.in-MissingKey.is, ← c.name.ensures) c.push_with_text.ensures

pub returns-in-WrongType : goal.returns-in-WrongType
returns-in-WrongType c = rw (c.in-WrongType.is, ← c.name-in-WrongType.ensures) c.push_with_text-in-WrongType.ensures

pub returns-in-EventText : goal.returns-in-EventText
returns-in-EventText c = rw (c.in-EventText.is) c.push_with.ensures

pub returns-in_ok-push_with-in-ScriptText : goal.returns-in_ok-push_with-in-ScriptText
returns-in_ok-push_with-in-ScriptText c =
    rw (c.in-ScriptText.is) (adds_last c.push_number.result _ _ _ _ _ c.in_ok-push_with-in-ScriptText.ensures c.push_number.ensures)

pub returns-in-OperatorText : goal.returns-in-OperatorText
returns-in-OperatorText c = rw (c.in-OperatorText.is) c.push_with-in-OperatorText.ensures
