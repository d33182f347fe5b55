-- A cell that left may come to the first port at the moment that was worked out.
use Rattle.std.proofs.Common.{◌≡◌, ◌+◌, ◌≤◌, ℕ, List, Bool, true, false, Some, sym, subst}
use Rattle.std.specs.Prelude.{max}
use Rattle.abt_net.specs.declared.conn.Conn.{Conn}
use Rattle.abt_net.specs.Topology.{Topology, conn_at}
use Rattle.abt_history.specs.declared.deed.Deed.{Deed}
use Rattle.abt_history.specs.Modes.{When}
use Rattle.abt_history.specs.Sites.{CanArrive}

-- what an emission that was carried out allows
abbrev pub MayCome : Topology → (c : ℕ) → List Deed → (cell now arrived : ℕ) → Type 0
MayCome net c front cell now arrived = (line : Conn) (jitter : ℕ) → conn_at net c ≡ Some line → jitter ≤ line.tau → CanArrive net c front cell (max (now + line.delay + jitter) arrived)

pub comes : (b : Bool) (net given : Topology) (c d cell now jitter arrived last at : ℕ) (front : List Deed) → d ≡ c → last ≡ arrived → When b (net ≡ given) → When b (MayCome net c front cell now arrived) →
    ((line : Conn) × (conn_at given d ≡ Some line) × (jitter ≤ line.tau) × (at ≡ max (now + line.delay + jitter) last)) → When b (CanArrive net c front cell at)
comes true net given c d cell now jitter arrived last at front here since same may there =
    let known = subst (λ n. conn_at net n ≡ Some there.0) here (subst (λ (n : Topology). conn_at n d ≡ Some there.0) (sym same) there.1) in
    let may_now = subst (λ n. CanArrive net c front cell (max (now + there.0.delay + jitter) n)) (sym since) (may there.0 jitter known there.2) in
    subst (λ n. CanArrive net c front cell n) (sym there.3) may_now
comes false net given c d cell now jitter arrived last at front here since same may there = tt
