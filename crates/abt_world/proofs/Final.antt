-- What is read off the connections and ports of a world in the end is what its past gives.
use Rattle.std.proofs.Common.{◌≡◌, ℕ, suc, ◌+◌, ◌-◌, ◌≤◌, ◌<◌, Bool, true, List, [], ◌∷◌, inl, inr, refl, sym, subst, ap, ◌∙◌, arith, length, map}
use Rattle.std.specs.Prelude.{Some, None, Option, option_map, option_and_then, unwrap_or, slice_get, slice_index, nat_le}
use Rattle.std.specs.List.{list_all, zip, enumerate_from}
use Rattle.std.proofs.lemmas.Bool.Decides.{nat_tests}
use Rattle.std.proofs.lemmas.Bool.{cond-true}
use Rattle.std.proofs.lemmas.Option.{slice_get_within, slice_get-map, get_or_from_slice_get}
use Rattle.abt_gcra.specs.declared.verdict.Verdict.TheVariants.{Conforming, TooEarly, NoRate}
use Rattle.abt_facts.specs.declared.fact.Fact.{Fact}
use Rattle.abt_facts.specs.declared.fact.Fact.TheVariants.{Started, Crashed, Stored, Asked, Heard, Emitted, Delivered, Passed, Shut, Turned, Back, Arrived}
use Rattle.abt_facts.specs.Source.{rate_of}
use Rattle.abt_facts.specs.Hop.{held_of}
use Rattle.abt_index.specs.Index.{Index, index_of}
use Rattle.abt_index.specs.Kept.{conforms_if_arrived}
use Rattle.abt_index.proofs.Indexed.{conform_is}
use Rattle.abt_net.specs.declared.conn.Conn.{Conn}
use Rattle.abt_net.specs.Topology.{Topology, IsWithinRules, conn_at}
use Rattle.abt_node.specs.Table.{Table, sum_of, held_at, connection_at}
use Rattle.abt_model.specs.declared.event.Event.{Event}
use Rattle.abt_model.specs.Answers.{is_hop}
use Rattle.abt_model.specs.Past.{facts_of}
use Rattle.abt_model.specs.PortTable.{port_table}
use Rattle.abt_model.specs.Reserved.{reserved_on, capacity_of}
use Rattle.abt_model.specs.Run.{facts_after}
use Rattle.abt_model.specs.Safe.{AllConform}
use Rattle.abt_model.proofs.Sums.{facts_after_lawful}
use Rattle.abt_model.proofs.Tables.{totals_reserved}
use Rattle.abt_model.proofs.EveryPasts.{every_safe}
use Rattle.abt_model.proofs.Worlds.{cases_option}
use Rattle.abt_model.specs.Traces.{rates_after, held_after, held_along, totals_after, capacities_after}
use Rattle.abt_world.specs.declared.connection_state.ConnectionState.{ConnectionState}
use Rattle.abt_world.specs.Seen.{seen}
use Rattle.abt_safety.specs.Holding.{held_by_port, is_held_along}
use Rattle.abt_world.specs.Standing.{StandsFor}
use Rattle.abt_world.specs.ConnectionStates.{ConnectionView, connection_of}
use Rattle.abt_world.specs.Steps.{IsConnAt, port_at}
use Rattle.abt_world.proofs.Arriving.{rate_there}
use Rattle.abt_model.proofs.Served.{conn_within}
use Rattle.abt_world.proofs.Serving.{port_has}
use Rattle.abt_world.proofs.Standings.{some_same, port_count}

-- a list that has at each place what a numbered one gives there
numbered : {A B : Type 0} (ys : List B) (f : ℕ × A → B) (xs : List A) (k : ℕ) → ((i : ℕ) → slice_get ys i ≡ option_map (λ x. f (k + i, x)) (slice_get xs i)) → ys ≡ map f (enumerate_from k xs)
numbered [] f [] k h = refl
numbered [] f (x ∷ xs) k h = absurd (let e = h 0 in cc)
numbered (y ∷ ys) f [] k h = absurd (let e = h 0 in cc)
numbered {B = B} (y ∷ ys) f (x ∷ xs) k h =
    let here : k + 0 ≡ k = omega arith in
    let first : y ≡ f (k, x) = some_same _ _ (h 0 ∙ ap (λ n. Some (f (n, x))) here) in
    let rest : ys ≡ map f (enumerate_from (k + 1) xs) =
    numbered ys f xs (k + 1) (λ i. (let more : k + suc i ≡ k + 1 + i = omega arith in h (suc i) ∙ ap (λ n. option_map (λ z. f (n, z)) (slice_get xs i)) more)) in
    ap (λ (z : B). z ∷ ys) first ∙ ap (λ (l : List B). f (k, x) ∷ l) rest

numbered_from_0 : {A B : Type 0} (ys : List B) (f : ℕ × A → B) (xs : List A) → ((i : ℕ) → slice_get ys i ≡ option_map (λ x. f (i, x)) (slice_get xs i)) → ys ≡ map f (enumerate_from 0 xs)
numbered_from_0 ys f xs h = numbered ys f xs 0 (λ i. (let same : i ≡ 0 + i = omega arith in h i ∙ ap (λ n. option_map (λ x. f (n, x)) (slice_get xs i)) same))

-- all of a list passes if each element does
pub all_pass : {A : Type 0} (test : A → Bool) (xs : List A) → ((i : ℕ) (x : A) → slice_get xs i ≡ Some x → test x ≡ true) → list_all test xs ≡ true
all_pass test [] h = refl
all_pass test (x ∷ xs) h = (let here : test x ≡ true = h 0 x refl in let rest : list_all test xs ≡ true = all_pass test xs (λ i y at. h (suc i) y at) in grind (arith, nat_tests))

all_pairs_pass : {A B : Type 0} (test : A × B → Bool) (xs : List A) (ys : List B) → ((i : ℕ) (x : A) (y : B) → slice_get xs i ≡ Some x → slice_get ys i ≡ Some y → test (x, y) ≡ true) →
    list_all test (zip xs ys) ≡ true
all_pairs_pass test [] ys h = refl
all_pairs_pass test (x ∷ xs) [] h = refl
all_pairs_pass test (x ∷ xs) (y ∷ ys) h =
    let here : test (x, y) ≡ true = h 0 x y refl refl in
    let rest : list_all test (zip xs ys) ≡ true = all_pairs_pass test xs ys (λ i z w at there. h (suc i) z w at there) in
    grind (arith, nat_tests)

-- the connections and the ports that a past gives
pub record AreOfPast (net : Topology) (events : List Event) (connections : List ConnectionState) (ports : List Table) : Type 0 where
  pub rules : IsWithinRules net
  pub looks : ℕ
  pub stands : StandsFor net events (record { net = net; ports = ports; connections = map seen connections; looks = looks })

-- a connection that is there, and what is kept of it
connection_there :
    (net : Topology) (events : List Event) (connections : List ConnectionState) (ports : List Table) (c : ℕ) (conn : Conn) (connection : ConnectionState) → AreOfPast net events connections ports →
    conn_at net c ≡ Some conn → slice_get connections c ≡ Some connection → seen connection ≡ connection_of conn.vc (facts_of c (facts_after net events))
connection_there net events connections ports c conn connection are known at =
    let past = facts_after net events in
    some_same _ _ (sym (slice_get-map seen connections c ∙ ap (option_map seen) at) ∙ are.stands.stands.connections c ∙ ap (option_map (λ (k : Conn). connection_of k.vc (facts_of c past))) known)

conn_is_at : (net : Topology) (events : List Event) (connections : List ConnectionState) (ports : List Table) (c : ℕ) (conn : Conn) → AreOfPast net events connections ports → conn_at net c ≡ Some conn →
    IsConnAt net (facts_after net events) c conn (facts_of c (facts_after net events))
conn_is_at net events connections ports c conn are known = record { rules = are.rules; events = events; rates = are.stands.rates; led = refl; known = known; facts_are = refl }

-- what the port at a hop holds
held_there :
    (net : Topology) (events : List Event) (connections : List ConnectionState) (ports : List Table) (c : ℕ) (conn : Conn) (i p : ℕ) → AreOfPast net events connections ports → conn_at net c ≡ Some conn →
    slice_get conn.path i ≡ Some p → held_by_port conn.vc ports p ≡ held_of (facts_of c (facts_after net events)) (1 + i)
held_there net events connections ports c conn i p are known at =
    let past = facts_after net events in
    let is = conn_is_at net events connections ports c conn are known in
    let low = slice_get_within conn.path i p at in
    let hop : is_hop (length conn.path) (1 + i) ≡ true = grind (arith, nat_tests) in
    let back : (1 + i) - 1 ≡ i = omega arith in
    let is_p : slice_index conn.path i ≡ p = get_or_from_slice_get conn.path i p 0 at in
    let has : port_at conn.path (1 + i) ≡ Some p =
    cond-true _ _ _ hop ∙ ap (λ n. Some (slice_index conn.path n)) back ∙ ap Some is_p in
    let in_net : p < length net.capacities = subst (λ n. n < length net.capacities) is_p ((conn_within net are.rules c conn known).in_net i 0 low) in
    let in_ports : p < length ports = (let count = port_count net past ports are.stands.stands.ports in omega arith) in
    let table = port_table net past p in
    let there : slice_get ports p ≡ Some table = port_has net past ports p are.stands.stands.ports in_ports in
    ap (λ o. unwrap_or (option_and_then (λ t. option_map held_at (connection_at t conn.vc)) o) 0) there
    ∙ ap (λ o. unwrap_or o 0) (rate_there net past c conn (facts_of c past) (1 + i) p ports table is are.stands.stands.ports has in_ports there)

-- the rates that are read off the connections
rate_read : (view : ConnectionView → ℕ) (o : Option ConnectionState) → option_map (λ (connection : ConnectionState). view (seen connection)) o ≡ option_map view (option_map seen o)
rate_read view None = refl
rate_read view (Some connection) = refl

map_of_none : {A B C : Type 0} (f : A → B) (g : B → C) (o : Option A) → option_map g (option_map f o) ≡ option_map (λ x. g (f x)) o
map_of_none f g None = refl
map_of_none f g (Some x) = refl

pub rates_read :
    (net : Topology) (events : List Event) (connections : List ConnectionState) (ports : List Table) → AreOfPast net events connections ports →
    map (λ (connection : ConnectionState). connection.actor.source.rate) connections ≡ rates_after net (facts_after net events)
rates_read net events connections ports are =
    let past = facts_after net events in
    numbered_from_0 (map (λ (connection : ConnectionState). connection.actor.source.rate) connections) (λ (n : ℕ × Conn). rate_of (facts_of n.0 past)) net.conns
    (λ c. slice_get-map (λ (connection : ConnectionState). connection.actor.source.rate) connections c
    ∙ rate_read (λ view. view.actor.source.rate) (slice_get connections c)
    ∙ ap (option_map (λ (view : ConnectionView). view.actor.source.rate)) (sym (slice_get-map seen connections c) ∙ are.stands.stands.connections c)
    ∙ map_of_none (λ (k : Conn). connection_of k.vc (facts_of c past)) (λ (view : ConnectionView). view.actor.source.rate) (conn_at net c))

-- the sums that are read off the ports
pub totals_read :
    (net : Topology) (events : List Event) (connections : List ConnectionState) (ports : List Table) → AreOfPast net events connections ports →
    map sum_of ports ≡ totals_after net (facts_after net events)
totals_read net events connections ports are =
    let past = facts_after net events in
    numbered_from_0 (map sum_of ports) (λ (n : ℕ × ℕ). reserved_on net past n.0) net.capacities
    (λ p. slice_get-map sum_of ports p ∙ ap (option_map sum_of) (are.stands.stands.ports p)
    ∙ map_of_none (λ (_ : ℕ). port_table net past p) sum_of (slice_get net.capacities p)
    ∙ ap (λ (n : ℕ). option_map (λ (_ : ℕ). n) (slice_get net.capacities p)) (totals_reserved net past are.rules (facts_after_lawful net events are.stands.rates).0 p))

pub capacities_read :
    (net : Topology) (events : List Event) (connections : List ConnectionState) (ports : List Table) → AreOfPast net events connections ports →
    map (λ (table : Table). table.capacity) ports ≡ capacities_after net (facts_after net events)
capacities_read net events connections ports are =
    let past = facts_after net events in
    numbered_from_0 (map (λ (table : Table). table.capacity) ports) (λ (n : ℕ × ℕ). capacity_of net past n.0) net.capacities
    (λ p. slice_get-map (λ (table : Table). table.capacity) ports p ∙ ap (option_map (λ (table : Table). table.capacity)) (are.stands.stands.ports p)
    ∙ map_of_none (λ (_ : ℕ). port_table net past p) (λ (table : Table). table.capacity) (slice_get net.capacities p))

-- what is read off the ports along the paths
along_read :
    (net : Topology) (events : List Event) (connections : List ConnectionState) (ports : List Table) (c : ℕ) (conn : Conn) → AreOfPast net events connections ports → conn_at net c ≡ Some conn →
    map (held_by_port conn.vc ports) conn.path ≡ held_along (facts_of c (facts_after net events)) conn.path
along_read net events connections ports c conn are known =
    let past = facts_after net events in
    numbered (map (held_by_port conn.vc ports) conn.path) (λ (n : ℕ × ℕ). held_of (facts_of c past) n.0) conn.path 1
    (λ i. elim (cases_option (slice_get conn.path i)) [
      | inl none ↦ slice_get-map (held_by_port conn.vc ports) conn.path i ∙ ap (option_map (held_by_port conn.vc ports)) none ∙ sym (ap (option_map (λ (_ : ℕ). held_of (facts_of c past) (1 + i))) none)
      | inr some ↦ slice_get-map (held_by_port conn.vc ports) conn.path i ∙ ap (option_map (held_by_port conn.vc ports)) some.1
          ∙ ap Some (held_there net events connections ports c conn i some.0 are known some.1) ∙ sym (ap (option_map (λ (_ : ℕ). held_of (facts_of c past) (1 + i))) some.1)
    ])

pub held_read :
    (net : Topology) (events : List Event) (connections : List ConnectionState) (ports : List Table) → AreOfPast net events connections ports →
    map (λ (conn : Conn). map (held_by_port conn.vc ports) conn.path) net.conns ≡ held_after net (facts_after net events)
held_read net events connections ports are =
    let past = facts_after net events in
    let read = λ (conn : Conn). map (held_by_port conn.vc ports) conn.path in
    let given = λ (n : ℕ × Conn). held_along (facts_of n.0 past) n.1.path in
    numbered_from_0 (map read net.conns) given net.conns
    (λ c. elim (cases_option (conn_at net c)) [
      | inl none ↦ slice_get-map read net.conns c ∙ ap (option_map read) none ∙ sym (ap (option_map (λ (conn : Conn). given (c, conn))) none)
      | inr some ↦ slice_get-map read net.conns c ∙ ap (option_map read) some.1
          ∙ ap Some (along_read net events connections ports c some.0 are some.1) ∙ sym (ap (option_map (λ (conn : Conn). given (c, conn))) some.1)
    ])

-- what is safe passes
pub le_passes : (m n : ℕ) → m ≤ n → nat_le m n ≡ true
le_passes m n le = grind (arith, nat_tests)

conforming_pass : (facts : List Fact) → AllConform facts → list_all conforms_if_arrived facts ≡ true
conforming_pass [] all = refl
conforming_pass (Started now kept ∷ facts) all = conforming_pass facts all
conforming_pass (Crashed ∷ facts) all = conforming_pass facts all
conforming_pass (Stored kept ∷ facts) all = conforming_pass facts all
conforming_pass (Asked seq floor ask mark ∷ facts) all = conforming_pass facts all
conforming_pass (Heard seq granted ∷ facts) all = conforming_pass facts all
conforming_pass (Emitted cell at rate ∷ facts) all = conforming_pass facts all
conforming_pass (Delivered seq ∷ facts) all = conforming_pass facts all
conforming_pass (Passed seq hop ∷ facts) all = conforming_pass facts all
conforming_pass (Shut seq hop ∷ facts) all = conforming_pass facts all
conforming_pass (Turned seq ∷ facts) all = conforming_pass facts all
conforming_pass (Back seq hop ∷ facts) all = conforming_pass facts all
conforming_pass (Arrived cell at rate Conforming ∷ facts) all = conforming_pass facts all.1
conforming_pass (Arrived cell at rate TooEarly ∷ facts) all = absurd (let e = all.0 in cc)
conforming_pass (Arrived cell at rate NoRate ∷ facts) all = absurd (let e = all.0 in cc)

pub rates_pass :
    (net : Topology) (events : List Event) (connections : List ConnectionState) (ports : List Table) → AreOfPast net events connections ports →
    list_all (λ (pair : Conn × ConnectionState). is_held_along pair.1.actor.source.rate pair.0.vc ports pair.0.path) (zip net.conns connections) ≡ true
rates_pass net events connections ports are =
    let past = facts_after net events in
    all_pairs_pass (λ (pair : Conn × ConnectionState). is_held_along pair.1.actor.source.rate pair.0.vc ports pair.0.path) net.conns connections
    (λ c conn connection known at. (
    let rate : connection.actor.source.rate ≡ rate_of (facts_of c past) = ap (λ (view : ConnectionView). view.actor.source.rate) (connection_there net events connections ports c conn connection are known at) in
    all_pass (λ p. nat_le connection.actor.source.rate (held_by_port conn.vc ports p)) conn.path
    (λ i p here. (
    let low = slice_get_within conn.path i p here in
    let held = held_there net events connections ports c conn i p are known here in
    let safe = (every_safe net events are.rules are.stands.rates).rates c conn known (1 + i) (omega arith) (omega arith) in
    le_passes _ _ (subst (λ n. n ≤ held_by_port conn.vc ports p) (sym rate) (subst (λ n. rate_of (facts_of c past) ≤ n) (sym held) safe))))))

pub sums_pass :
    (net : Topology) (events : List Event) (connections : List ConnectionState) (ports : List Table) → AreOfPast net events connections ports →
    list_all (λ (table : Table). nat_le (sum_of table) table.capacity) ports ≡ true
sums_pass net events connections ports are =
    let past = facts_after net events in
    all_pass (λ (table : Table). nat_le (sum_of table) table.capacity) ports
    (λ p table at. elim (cases_option (slice_get net.capacities p)) [
      | inl none ↦ absurd (let e = sym at ∙ are.stands.stands.ports p ∙ ap (option_map (λ (_ : ℕ). port_table net past p)) none in cc)
      | inr some ↦ (
          let table_is : table ≡ port_table net past p = some_same _ _ (sym at ∙ are.stands.stands.ports p ∙ ap (option_map (λ (_ : ℕ). port_table net past p)) some.1) in
          let total = totals_reserved net past are.rules (facts_after_lawful net events are.stands.rates).0 p in
          let safe = (every_safe net events are.rules are.stands.rates).sums p (slice_get_within net.capacities p some.0 some.1) in
          le_passes _ _ (subst (λ (x : Table). sum_of x ≤ x.capacity) (sym table_is) (subst (λ (n : ℕ). n ≤ capacity_of net past p) (sym total) safe)))
    ])

pub cells_pass :
    (net : Topology) (events : List Event) (connections : List ConnectionState) (ports : List Table) → AreOfPast net events connections ports →
    list_all (λ (connection : ConnectionState). connection.log.index.conform) connections ≡ true
cells_pass net events connections ports are =
    let past = facts_after net events in
    all_pass (λ (connection : ConnectionState). connection.log.index.conform) connections
    (λ c connection at. elim (cases_option (conn_at net c)) [
      | inl none ↦ absurd (let e = sym (slice_get-map seen connections c ∙ ap (option_map seen) at) ∙ are.stands.stands.connections c ∙ ap (option_map (λ (k : Conn). connection_of k.vc (facts_of c past))) none in cc)
      | inr some ↦ (
          let index : connection.log.index ≡ index_of (facts_of c past) = ap (λ (view : ConnectionView). view.index) (connection_there net events connections ports c some.0 connection are some.1 at) in
          ap (λ (i : Index). i.conform) index ∙ conform_is (facts_of c past) ∙ conforming_pass (facts_of c past) ((every_safe net events are.rules are.stands.rates).cells c))
    ])
