-- Counts of violations, if one connection and one port change.
use Rattle.std.proofs.Common.{◌≡◌, ◌≢◌, ℕ, zero, suc, ◌+◌, ◌≤◌, ◌<◌, Bool, true, false, not, List, [], ◌∷◌, refl, sym, subst, ap, ◌∙◌, length, map, arith, inl, inr, ◌^◌}
use Rattle.std.specs.Prelude.{◌&&◌, Option, None, Some, unwrap_or, nat_le, slice_get, slice_set, slice_index_or}
use Rattle.std.specs.List.{zip, list_all}
use Rattle.std.proofs.lemmas.Bool.{cases_order, and_parts}
use Rattle.std.proofs.lemmas.Option.{slice_get_within, get_or_from_slice_get}
use Rattle.abt_cell.specs.Channel.{Channel}
use Rattle.abt_net.specs.declared.conn.Conn.{Conn}
use Rattle.abt_node.specs.Table.{Table, sum_of}
use Rattle.abt_model.proofs.Tables.{OwnChannels}
use Rattle.abt_safety.specs.Holding.{held_by_port, is_held_along}
use Rattle.abt_safety.specs.Tallies.{one_if, count_of, is_above, over_at, IsRecounted}
use Rattle.abt_world.specs.ConnectionStates.{ConnectionView}
use Rattle.abt_net.specs.Topology.{Topology}
use Rattle.abt_safety.specs.declared.violations.Violations.{Violations}
use Rattle.abt_safety.specs.declared.violations.ViolationFlags.{ViolationFlags}
use Rattle.abt_world.specs.declared.connection_state.ConnectionState.{ConnectionState}
use Rattle.abt_world.specs.Seen.{seen}
use Rattle.abt_world.specs.Tallied.{shapes_above, is_broken, IsTallied}
use Rattle.abt_world.specs.Touches.{Rewrites, Touches}

-- what marks tell of a connection and a port
pub record AreMarks (net : Topology) (ports : List Table) (conn : Conn) (connection : ConnectionView) (port : Option ℕ) (marks : ViolationFlags) : Type 0 where
  pub above : marks.above ≡ shapes_above ports (conn, connection)
  pub over : marks.over ≡ over_at port ports
  pub broken : marks.broken ≡ is_broken connection

pub one_at_most : (b : Bool) → one_if b ≤ 1
one_at_most true = omega arith
one_at_most false = omega arith

-- a count is at most the length
pub count_within : {A : Type 0} (test : A → Bool) (xs : List A) → count_of test xs ≤ length xs
count_within test [] = omega arith
count_within test (x ∷ xs) = omega (arith, one_at_most (test x), count_within test xs)

-- one that is counted
pub counted_one : {A : Type 0} (test : A → Bool) (xs : List A) (i : ℕ) (x : A) → slice_get xs i ≡ Some x → one_if (test x) ≤ count_of test xs
counted_one test [] i x at = absurd (let e = at in cc)
counted_one test (y ∷ xs) zero x at =
    let is : y ≡ x = ap (λ o. unwrap_or o y) at in
    let same = ap (λ z. one_if (test z)) is in
    omega arith
counted_one test (y ∷ xs) (suc i) x at = omega (arith, counted_one test xs i x at)

-- one of a list changes
pub count_changed : {A : Type 0} (test : A → Bool) (xs : List A) (i : ℕ) (x y : A) → slice_get xs i ≡ Some x →
    count_of test (slice_set xs i y) + one_if (test x) ≡ count_of test xs + one_if (test y)
count_changed test [] i x y at = absurd (let e = at in cc)
count_changed test (z ∷ xs) zero x y at =
    let is : z ≡ x = ap (λ o. unwrap_or o z) at in
    let same = ap (λ w. one_if (test w)) is in
    omega arith
count_changed test (z ∷ xs) (suc i) x y at = omega (arith, count_changed test xs i x y at)

-- all of a path hold the same for another channel
along_same : (rate : ℕ) (vc : Channel) (before after : List Table) (path : List ℕ) → ((p : ℕ) → held_by_port vc after p ≡ held_by_port vc before p) →
    is_held_along rate vc after path ≡ is_held_along rate vc before path
along_same rate vc before after [] same = refl
along_same rate vc before after (p ∷ path) same =
    ap (λ n. nat_le rate n && is_held_along rate vc after path) (same p) ∙ ap (λ b. nat_le rate (held_by_port vc before p) && b) (along_same rate vc before after path same)

abbrev OthersKeep : Channel → (before after : List Table) → Type 0
OthersKeep vc before after = (other : Channel) → other ≢ vc → (p : ℕ) → held_by_port other after p ≡ held_by_port other before p

pair_same : (vc : Channel) (before after : List Table) (pair : Conn × ConnectionView) → OthersKeep vc before after → pair.0.vc ≢ vc → shapes_above after pair ≡ shapes_above before pair
pair_same vc before after pair keep apart = ap not (along_same pair.1.actor.source.rate pair.0.vc before after pair.0.path (keep pair.0.vc apart))

above_same : (vc : Channel) (before after : List Table) (conns : List Conn) (connections : List ConnectionView) → OthersKeep vc before after →
    ((i : ℕ) (conn : Conn) → slice_get conns i ≡ Some conn → conn.vc ≢ vc) → count_of (shapes_above after) (zip conns connections) ≡ count_of (shapes_above before) (zip conns connections)
above_same vc before after [] connections keep apart = refl
above_same vc before after (k ∷ conns) [] keep apart = refl
above_same vc before after (k ∷ conns) (o ∷ connections) keep apart =
    let first = ap one_if (pair_same vc before after (k, o) keep (apart 0 k refl)) in
    let rest = above_same vc before after conns connections keep (λ i conn at. apart (suc i) conn at) in
    omega arith

-- one connection changes, and what ports hold for it
above_changed : (before after : List Table) (conns : List Conn) (connections : List ConnectionView) (c : ℕ) (conn : Conn) (old new : ConnectionView) → OthersKeep conn.vc before after →
    slice_get conns c ≡ Some conn → slice_get connections c ≡ Some old → ((i : ℕ) (k : Conn) → i ≢ c → slice_get conns i ≡ Some k → k.vc ≢ conn.vc) →
    (count_of (shapes_above after) (zip conns (slice_set connections c new)) + one_if (shapes_above before (conn, old))
    ≡ count_of (shapes_above before) (zip conns connections) + one_if (shapes_above after (conn, new)))
    × (one_if (shapes_above before (conn, old)) ≤ count_of (shapes_above before) (zip conns connections))
above_changed before after [] connections c conn old new keep known at apart = absurd (let e = known in cc)
above_changed before after (k ∷ conns) [] c conn old new keep known at apart = absurd (let e = at in cc)
above_changed before after (k ∷ conns) (o ∷ connections) zero conn old new keep known at apart =
    let conn_is : k ≡ conn = ap (λ x. unwrap_or x k) known in
    let old_is : o ≡ old = ap (λ x. unwrap_or x o) at in
    let was = ap (λ (x : Conn). one_if (shapes_above before (x, o))) conn_is ∙ ap (λ (x : ConnectionView). one_if (shapes_above before (conn, x))) old_is in
    let now = ap (λ (x : Conn). one_if (shapes_above after (x, new))) conn_is in
    let rest = above_same conn.vc before after conns connections keep (λ i other there. apart (suc i) other (λ e. omega arith) there) in
    (omega arith, omega arith)
above_changed before after (k ∷ conns) (o ∷ connections) (suc c) conn old new keep known at apart =
    let first = ap one_if (pair_same conn.vc before after (k, o) keep (apart 0 k (λ e. omega arith) refl)) in
    let rest = above_changed before after conns connections c conn old new keep known at (λ i other other_place there. apart (suc i) other (λ e. other_place (omega arith)) there) in
    (omega (arith, rest.0), omega (arith, rest.1))

-- the channels of a net's connections differ
channels_differ : (conns : List Conn) (c : ℕ) (conn : Conn) → OwnChannels conns → slice_get conns c ≡ Some conn → (i : ℕ) (k : Conn) → i ≢ c → slice_get conns i ≡ Some k → k.vc ≢ conn.vc
channels_differ conns c conn own known i k other there same =
    let low = slice_get_within conns c conn known in
    let low_i = slice_get_within conns i k there in
    let here : slice_index_or conns c conn ≡ conn = get_or_from_slice_get conns c conn conn known in
    let at_i : slice_index_or conns i conn ≡ k = get_or_from_slice_get conns i k conn there in
    elim (cases_order i c) [
      | inl e ↦ other e
      | inr (inl less) ↦ own i c conn less low (ap (λ (x : Conn). x.vc) at_i ∙ same ∙ sym (ap (λ (x : Conn). x.vc) here))
      | inr (inr more) ↦ own c i conn more low_i (ap (λ (x : Conn). x.vc) here ∙ sym same ∙ sym (ap (λ (x : Conn). x.vc) at_i))
    ]

-- one port changes
over_changed : (ports : List Table) (p : ℕ) (table : Table) →
    (count_of is_above (slice_set ports p table) + one_if (over_at (Some p) ports) ≡ count_of is_above ports + one_if (over_at (Some p) (slice_set ports p table)))
    × (one_if (over_at (Some p) ports) ≤ count_of is_above ports)
over_changed [] p table = (refl, omega arith)
over_changed (t ∷ ports) zero table = (omega arith, omega arith)
over_changed (t ∷ ports) (suc p) table = (let rest = over_changed ports p table in (omega (arith, rest.0), omega (arith, rest.1)))

over_rewritten : (port : Option ℕ) (before after : List Table) → Rewrites port before after →
    (count_of is_above after + one_if (over_at port before) ≡ count_of is_above before + one_if (over_at port after)) × (one_if (over_at port before) ≤ count_of is_above before)
over_rewritten None before after is = (ap (λ (ps : List Table). count_of is_above ps + 0) is, omega arith)
over_rewritten (Some p) before after is =
    subst (λ (ps : List Table). (count_of is_above ps + one_if (over_at (Some p) before) ≡ count_of is_above before + one_if (over_at (Some p) ps)) × (one_if (over_at (Some p) before) ≤ count_of is_above before))
    (sym is.1) (over_changed before p is.0)

-- a count that was brought up to date is the new count
recounted : (count before after told : ℕ) (was is : Bool) → told ≡ before → IsRecounted told was is after → one_if was ≤ before → before + 1 < 2 ^ 64 → count + one_if was ≡ before + one_if is → after ≡ count
recounted count before after told was is told_is by some room changed =
    let up = by (omega arith) (omega arith) in omega arith

zip_within : {A B : Type 0} (xs : List A) (ys : List B) → length (zip xs ys) ≤ length xs
zip_within [] ys = omega arith
zip_within (x ∷ xs) [] = omega arith
zip_within (x ∷ xs) (y ∷ ys) = (let rest = zip_within xs ys in omega arith)

-- the counts after one connection and one port changed
pub tallied_after :
    (net : Topology) (before after : List Table) (connections : List ConnectionView) (c : ℕ) (port : Option ℕ) (conn : Conn) (old new : ConnectionView) (violations told : Violations) (was is : ViolationFlags) →
    IsTallied net before connections violations → OwnChannels net.conns → length connections ≡ length net.conns → length net.conns < 2 ^ 63 → length before < 2 ^ 63 →
    slice_get net.conns c ≡ Some conn → slice_get connections c ≡ Some old → Touches port conn.vc before after →
    AreMarks net before conn old port was → AreMarks net after conn new port is →
    IsRecounted violations.above was.above is.above told.above → IsRecounted violations.over was.over is.over told.over → IsRecounted violations.broken was.broken is.broken told.broken →
    IsTallied net after (slice_set connections c new) told
tallied_after net before after connections c port conn old new violations told was is kept own many few few_ports known at touches marked marks above over broken =
    let a = above_changed before after net.conns connections c conn old new touches.1 known at (channels_differ net.conns c conn own known) in
    let o = over_rewritten port before after touches.0 in
    let b = count_changed is_broken connections c old new at in
    let some = counted_one is_broken connections c old at in
    let pairs = count_within (shapes_above before) (zip net.conns connections) in
    let in_pairs = zip_within net.conns connections in
    let sums = count_within is_above before in
    let all = count_within is_broken connections in
    record {
      above = recounted _ (count_of (shapes_above before) (zip net.conns connections)) told.above violations.above (shapes_above before (conn, old)) (shapes_above after (conn, new)) kept.above
          (subst (λ x. IsRecounted violations.above x (shapes_above after (conn, new)) told.above) marked.above (subst (λ x. IsRecounted violations.above was.above x told.above) marks.above above)) a.1 (omega arith) a.0;
      over = recounted _ (count_of is_above before) told.over violations.over (over_at port before) (over_at port after) kept.over
          (subst (λ x. IsRecounted violations.over x (over_at port after) told.over) marked.over (subst (λ x. IsRecounted violations.over was.over x told.over) marks.over over)) o.1 (omega arith) o.0;
      broken = recounted _ (count_of is_broken connections) told.broken violations.broken (is_broken old) (is_broken new) kept.broken
          (subst (λ x. IsRecounted violations.broken x (is_broken new) told.broken) marked.broken (subst (λ x. IsRecounted violations.broken was.broken x told.broken) marks.broken broken)) some (omega arith) b;
    }

-- the counts after one port changed, but not what it keeps of connections
above_alone : (before after : List Table) (conns : List Conn) (connections : List ConnectionView) → ((vc : Channel) (p : ℕ) → held_by_port vc after p ≡ held_by_port vc before p) →
    count_of (shapes_above after) (zip conns connections) ≡ count_of (shapes_above before) (zip conns connections)
above_alone before after [] connections keep = refl
above_alone before after (k ∷ conns) [] keep = refl
above_alone before after (k ∷ conns) (o ∷ connections) keep =
    let first = ap (λ (b : Bool). one_if (not b)) (along_same o.actor.source.rate k.vc before after k.path (keep k.vc)) in
    let rest = above_alone before after conns connections keep in
    omega arith

pub tallied_alone :
    (net : Topology) (before : List Table) (connections : List ConnectionView) (p : ℕ) (old new : Table) (violations told : Violations) (was is : ViolationFlags) →
    IsTallied net before connections violations → length connections ≡ length net.conns → length net.conns < 2 ^ 63 → length before < 2 ^ 63 → slice_get before p ≡ Some old →
    ((vc : Channel) (q : ℕ) → held_by_port vc (slice_set before p new) q ≡ held_by_port vc before q) →
    (was.above ≡ false) × (was.over ≡ is_above old) × (was.broken ≡ false) → (is.above ≡ false) × (is.over ≡ is_above new) × (is.broken ≡ false) →
    IsRecounted violations.above was.above is.above told.above → IsRecounted violations.over was.over is.over told.over → IsRecounted violations.broken was.broken is.broken told.broken →
    IsTallied net (slice_set before p new) connections told
tallied_alone net before connections p old new violations told was is kept many few few_ports at keep marked marks above over broken =
    let same = above_alone before (slice_set before p new) net.conns connections keep in
    let changed = count_changed is_above before p old new at in
    let pairs = count_within (shapes_above before) (zip net.conns connections) in
    let in_pairs = zip_within net.conns connections in
    let sums = count_within is_above before in
    let all = count_within is_broken connections in
    record {
      above = recounted _ (count_of (shapes_above before) (zip net.conns connections)) told.above violations.above false false kept.above
          (subst (λ x. IsRecounted violations.above x false told.above) marked.0 (subst (λ x. IsRecounted violations.above was.above x told.above) marks.0 above)) (omega arith) (omega arith) (omega (arith, same));
      over = recounted _ (count_of is_above before) told.over violations.over (is_above old) (is_above new) kept.over
          (subst (λ x. IsRecounted violations.over x (is_above new) told.over) marked.1 (subst (λ x. IsRecounted violations.over was.over x told.over) marks.1 over)) (counted_one is_above before p old at) (omega arith) changed;
      broken = recounted _ (count_of is_broken connections) told.broken violations.broken false false kept.broken
          (subst (λ x. IsRecounted violations.broken x false told.broken) marked.2 (subst (λ x. IsRecounted violations.broken was.broken x told.broken) marks.2 broken)) (omega arith) (omega arith) refl;
    }

-- nothing is counted where all is safe
pub none_above : (conns : List Conn) (connections : List ConnectionState) (ports : List Table) →
    list_all (λ (pair : Conn × ConnectionState). is_held_along pair.1.actor.source.rate pair.0.vc ports pair.0.path) (zip conns connections) ≡ true →
    count_of (shapes_above ports) (zip conns (map seen connections)) ≡ 0
none_above [] connections ports all = refl
none_above (k ∷ conns) [] ports all = refl
none_above (k ∷ conns) (o ∷ connections) ports all =
    let parts = and_parts _ _ all in
    let first : one_if (shapes_above ports (k, seen o)) ≡ 0 = ap (λ b. one_if (not b)) parts.0 in
    let rest = none_above conns connections ports parts.1 in
    omega arith

pub none_over : (ports : List Table) → list_all (λ (table : Table). nat_le (sum_of table) table.capacity) ports ≡ true → count_of is_above ports ≡ 0
none_over [] all = refl
none_over (t ∷ ports) all =
    let parts = and_parts _ _ all in
    let first : one_if (is_above t) ≡ 0 = ap (λ b. one_if (not b)) parts.0 in
    let rest = none_over ports parts.1 in
    omega arith

pub none_broken : (connections : List ConnectionState) → list_all (λ (connection : ConnectionState). connection.log.index.conform) connections ≡ true → count_of is_broken (map seen connections) ≡ 0
none_broken [] all = refl
none_broken (o ∷ connections) all =
    let parts = and_parts _ _ all in
    let first : one_if (is_broken (seen o)) ≡ 0 = ap (λ b. one_if (not b)) parts.0 in
    let rest = none_broken connections parts.1 in
    omega arith

-- what isn't counted isn't so
pub uncounted : (b : Bool) → one_if b ≤ 0 → false ≡ b
uncounted true some = absurd (omega (some, arith))
uncounted false some = refl

-- a connection, and a port that an event comes to, are counted
pub counted_before :
    (net : Topology) (before after : List Table) (connections : List ConnectionView) (c : ℕ) (port : Option ℕ) (conn : Conn) (old : ConnectionView) (violations : Violations) →
    IsTallied net before connections violations → OwnChannels net.conns →
    slice_get net.conns c ≡ Some conn → slice_get connections c ≡ Some old → Touches port conn.vc before after →
    (one_if (shapes_above before (conn, old)) ≤ violations.above) × (one_if (over_at port before) ≤ violations.over) × (one_if (is_broken old) ≤ violations.broken)
counted_before net before after connections c port conn old violations kept own known at touches =
    let a = above_changed before after net.conns connections c conn old old touches.1 known at (channels_differ net.conns c conn own known) in
    let o = over_rewritten port before after touches.0 in
    (omega (arith, kept.above, a.1), omega (arith, kept.over, o.1), omega (arith, kept.broken, counted_one is_broken connections c old at))
