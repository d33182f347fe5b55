-- What the ports so far served as the first ones of paths.
use Rattle.std.proofs.Common.{◌≡◌, length, map, take, vec_items}
use Rattle.std.specs.Prelude.{Vec}
use Rattle.std.specs.declared.alloc.Global.{Global}
use Rattle.abt_journal.specs.declared.entry.Entry.{Entry}
use Rattle.abt_derive.proofs.Serving.{AreServedSoFar}
use Rattle.abt_derive.proofs.served.all_served.Given as goal

abbrev pub invariant-loop-port : goal.invariant-loop-port
invariant-loop-port l =
    AreServedSoFar l.net (take l.port (map (λ (steps : Vec Entry Global). steps.items) l.ports)) (vec_items l.served)
    × (length (vec_items l.served) ≡ length l.net.conns)
