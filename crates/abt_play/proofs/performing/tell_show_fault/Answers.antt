-- The line is that of the fault.
use Rattle.abt_play.proofs.performing.tell_show_fault.Goals as goal

pub returns-in-Events : goal.returns-in-Events
returns-in-Events g c = rw c.in-Events.is c.tell_text.ensures
