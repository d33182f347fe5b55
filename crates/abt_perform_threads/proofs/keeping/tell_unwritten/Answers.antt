use Rattle.abt_perform_threads.proofs.keeping.tell_unwritten.Goals as goal

pub returns-in-Write : goal.returns-in-Write
returns-in-Write g c = rw c.in-Write.is c.tell_text.ensures

pub returns-in-Memory : goal.returns-in-Memory
returns-in-Memory g c = rw c.in-Memory.is c.tell_fault-in-Memory.ensures
