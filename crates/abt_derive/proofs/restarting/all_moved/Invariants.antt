-- The writes so far, and those that are left, are all.
use Rattle.std.proofs.Common.{◌≡◌, ◌++◌, ℕ, drop, map, vec_items}
use Rattle.std.specs.Prelude.{Vec}
use Rattle.std.specs.declared.alloc.Global.{Global}
use Rattle.abt_derive.specs.Restarts.{moved}
use Rattle.abt_derive.proofs.restarting.all_moved.Given as goal

abbrev pub invariant-loop-write : goal.invariant-loop-write
invariant-loop-write l =
    vec_items l.made ++ map (moved (map (λ (places : Vec ℕ Global). places.items) l.lists)) (drop l.write-index l.writes)
    ≡ map (moved (map (λ (places : Vec ℕ Global). places.items) l.lists)) l.writes
