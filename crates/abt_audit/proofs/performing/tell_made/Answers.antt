use Rattle.abt_audit.proofs.performing.tell_made.Goals as goal

pub returns-in-Err : goal.returns-in-Err
returns-in-Err g c = rw c.in-Err.is c.tell_text.ensures
