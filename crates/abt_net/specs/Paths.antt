-- Places on the path of a connection. Ports are named by their numbers, hops count from 1.
use Rattle.std.specs.Prelude.{ℕ, ◌+◌, ◌==◌, List, [], ◌∷◌, Option, None, Some, if◌then◌else◌}
use Rattle.abt_net.specs.declared.conn.Conn.{Conn}

-- the hop of a path, from 1, at which it visits a port, and 0 if it doesn't
abbrev pub hop_of : List ℕ → ℕ → ℕ
hop_of [] p = 0
hop_of (port ∷ path) p = if port == p then 1 else (if hop_of path p == 0 then 0 else hop_of path p + 1)

-- What the port at hop `hop` of a connection polices it by, if the connection goes through it: its first port has its tau.
abbrev pub policer_at_hop : (tau hop : ℕ) → Option (Option ℕ)
policer_at_hop tau hop = if hop == 0 then None else Some (if hop == 1 then Some tau else None)

abbrev pub policer_at : Conn → ℕ → Option (Option ℕ)
policer_at conn p = policer_at_hop conn.tau (hop_of conn.path p)
