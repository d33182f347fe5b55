-- What the entry of a port misses is what the actor's does.
use Rattle.abt_audit.proofs.waiting.missing_of.Goals as goal

pub returns-in-Port : goal.returns-in-Port
returns-in-Port c = λ events stands. rw c.in-Port.is (c.port_missing.ensures events stands)
