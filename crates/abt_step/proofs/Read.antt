-- What a world answers of what hops hold, as numbers.
use Rattle.std.proofs.Common.{◌≡◌, ℕ, ◌≤◌, List, true, ap, ◌∙◌, arith, length}
use Rattle.std.specs.Prelude.{Some, None, if◌then◌else◌, option_and_then, unwrap_or}
use Rattle.std.proofs.lemmas.Bool.Decides.{nat_tests}
use Rattle.abt_facts.specs.Hop.{held_of}
use Rattle.abt_net.specs.declared.conn.Conn.{Conn}
use Rattle.abt_net.specs.Topology.{Topology, conn_at}
use Rattle.abt_model.specs.Answers.{is_hop}
use Rattle.abt_model.specs.Past.{Past, facts_of}
use Rattle.abt_world.specs.Readings.{held_in}
use Rattle.abt_step.specs.declared.net_state.NetState.{NetState}

-- what a hop of a path holds
pub hop_read : (net : Topology) (past : Past) (c : ℕ) (conn : Conn) (hop : ℕ) → conn_at net c ≡ Some conn → 1 ≤ hop → hop ≤ length conn.path →
    unwrap_or (held_in net past c hop) 0 ≡ held_of (facts_of c past) hop
hop_read net past c conn hop known low high =
    let is : is_hop (length conn.path) hop ≡ true = grind (arith, nat_tests) in
    ap (λ o. unwrap_or (option_and_then (λ (k : Conn). if is_hop (length k.path) hop then Some (held_of (facts_of c past) hop) else None) o) 0) known
    ∙ ap (λ b. unwrap_or (if b then Some (held_of (facts_of c past) hop) else None) 0) is

-- a state of these lists
abbrev pub state_with : (rates : List ℕ) (held : List (List ℕ)) (totals capacities : List ℕ) → NetState
state_with rates held totals capacities = record { rates = rates; held = held; totals = totals; capacities = capacities }

pub same_state : (r q : List ℕ) (h i : List (List ℕ)) (t u k l : List ℕ) → r ≡ q → h ≡ i → t ≡ u → k ≡ l → state_with r h t k ≡ state_with q i u l
same_state r q h i t u k l rates held totals capacities =
    ap (λ x. state_with x h t k) rates ∙ ap (λ x. state_with q x t k) held ∙ ap (λ x. state_with q i x k) totals
    ∙ ap (λ x. state_with q i u x) capacities
