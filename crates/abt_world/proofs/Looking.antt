-- What a world looks up to see whether it is still safe: where it is, each hop of the path.
use Rattle.std.proofs.Common.{◌≡◌, ℕ, zero, suc, ◌+◌, Bool, true, List, [], ◌∷◌, refl, subst, ap, arith, length}
use Rattle.std.specs.Prelude.{Some, unwrap_or, if◌then◌else◌, nat_le, slice_get}
use Rattle.std.specs.List.{zip, list_all}
use Rattle.std.proofs.lemmas.Bool.{and_parts}
use Rattle.abt_cell.specs.Channel.{Channel}
use Rattle.abt_net.specs.declared.conn.Conn.{Conn}
use Rattle.abt_net.specs.Topology.{Topology, conn_at}
use Rattle.abt_node.specs.Table.{Table}
use Rattle.abt_model.specs.declared.event.Event.{Event}
use Rattle.abt_safety.specs.Holding.{held_by_port, is_held_along, looked_at}
use Rattle.abt_world.specs.declared.connection_state.ConnectionState.{ConnectionState}
use Rattle.abt_world.proofs.Final.{AreOfPast, rates_pass}

-- one of two lists together that pass
both_at : {A B : Type 0} (test : A × B → Bool) (xs : List A) (ys : List B) (i : ℕ) (x : A) (y : B) → list_all test (zip xs ys) ≡ true →
    slice_get xs i ≡ Some x → slice_get ys i ≡ Some y → test (x, y) ≡ true
both_at test [] ys i x y all at there = absurd (let e = at in cc)
both_at test (a ∷ xs) [] i x y all at there = absurd (let e = there in cc)
both_at test (a ∷ xs) (b ∷ ys) zero x y all at there =
    let first : a ≡ x = ap (λ o. unwrap_or o a) at in
    let second : b ≡ y = ap (λ o. unwrap_or o b) there in
    subst (λ z. test (x, z) ≡ true) second (subst (λ z. test (z, b) ≡ true) first (and_parts _ _ all).0)
both_at test (a ∷ xs) (b ∷ ys) (suc i) x y all at there = both_at test xs ys i x y (and_parts _ _ all).1 at there

all_looked : (rate : ℕ) (vc : Channel) (ports : List Table) (path : List ℕ) → is_held_along rate vc ports path ≡ true → looked_at rate vc ports path ≡ length path
all_looked rate vc ports [] all = refl
all_looked rate vc ports (p ∷ path) all =
    let parts = and_parts (nat_le rate (held_by_port vc ports p)) (is_held_along rate vc ports path) all in
    let first = ap (λ (b : Bool). 1 + (if b then looked_at rate vc ports path else 0)) parts.0 in
    let rest = all_looked rate vc ports path parts.1 in
    omega (arith, first, rest)

pub path_looked :
    (net : Topology) (events : List Event) (connections : List ConnectionState) (ports : List Table) (c : ℕ) (conn : Conn) (connection : ConnectionState) → AreOfPast net events connections ports →
    conn_at net c ≡ Some conn → slice_get connections c ≡ Some connection → looked_at connection.actor.source.rate conn.vc ports conn.path ≡ length conn.path
path_looked net events connections ports c conn connection are known at =
    all_looked connection.actor.source.rate conn.vc ports conn.path
    (both_at (λ (pair : Conn × ConnectionState). is_held_along pair.1.actor.source.rate pair.0.vc ports pair.0.path) net.conns connections c conn connection (rates_pass net events connections ports are) known at)
