-- What is told without memory is told.
use Rattle.std.proofs.Common.{inl}
use Rattle.abt_audit.proofs.performing.tell.Goals as goal

pub returns-in-Nothing : goal.returns-in-Nothing
returns-in-Nothing g c = rw c.in-Nothing.is (inl c.tell_text.ensures)

pub returns-in-Write : goal.returns-in-Write
returns-in-Write g c = rw c.in-Write.is (inl c.tell_text-in-Write.ensures)

pub returns-in-Memory : goal.returns-in-Memory
returns-in-Memory g c = rw c.in-Memory.is (inl c.tell_text-in-Memory.ensures)
