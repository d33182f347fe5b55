use Rattle.std.proofs.Common.{◌≡◌, ◌<◌, ℕ, get_or}
use Rattle.abt_net.proofs.conn.Conn.visits_twice.Given as goal

-- no port stands twice so far
abbrev pub invariant-loop-hop : goal.invariant-loop-hop
invariant-loop-hop l = (i j : ℕ) → i < j → j < l.hop → get_or l.ports i 0 ≡ get_or l.ports j 0 → ⊥
