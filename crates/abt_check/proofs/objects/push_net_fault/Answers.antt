use Rattle.abt_check.proofs.objects.push_net_fault.Goals as goal

pub returns-in-Memory : goal.returns-in-Memory
returns-in-Memory c = rw (c.in-Memory.is) c.push_with_text-in-Memory.ensures
