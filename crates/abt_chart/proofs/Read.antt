-- What a world answers of rates and holdings, as numbers.
use Rattle.std.proofs.Common.{◌≡◌, ℕ, zero, suc, ◌+◌, ◌≤◌, List, true, false, sym, ap, ◌∙◌, arith, length, min}
use Rattle.std.specs.Prelude.{Some, None, ◌==◌, if◌then◌else◌, option_and_then, unwrap_or}
use Rattle.std.proofs.lemmas.Bool.Decides.{nat_tests}
use Rattle.abt_facts.specs.declared.fact.Fact.{Fact}
use Rattle.abt_facts.specs.Hop.{held_of}
use Rattle.abt_net.specs.Paths.{hop_of}
use Rattle.abt_net.specs.declared.conn.Conn.{Conn}
use Rattle.abt_net.specs.Topology.{Topology, conn_at}
use Rattle.abt_model.specs.Answers.{is_hop}
use Rattle.abt_model.specs.Past.{Past, facts_of}
use Rattle.abt_model.specs.Reserved.{held_on}
use Rattle.abt_world.specs.Readings.{held_in}
use Rattle.abt_chart.specs.Frames.{least_held}

-- what a hop of a path holds
pub hop_read : (net : Topology) (past : Past) (c : ℕ) (conn : Conn) (hop : ℕ) → conn_at net c ≡ Some conn → 1 ≤ hop → hop ≤ length conn.path →
    unwrap_or (held_in net past c hop) 0 ≡ held_of (facts_of c past) hop
hop_read net past c conn hop known low high =
    let is : is_hop (length conn.path) hop ≡ true = grind (arith, nat_tests) in
    ap (λ o. unwrap_or (option_and_then (λ (k : Conn). if is_hop (length k.path) hop then Some (held_of (facts_of c past) hop) else None) o) 0) known
    ∙ ap (λ b. unwrap_or (if b then Some (held_of (facts_of c past) hop) else None) 0) is

-- what a connection holds on a port of its path
pub port_read : (net : Topology) (past : Past) (c : ℕ) (conn : Conn) (p hop : ℕ) → conn_at net c ≡ Some conn → hop ≡ hop_of conn.path p →
    hop ≤ length conn.path → (hop_of conn.path p ≡ 0 → ⊥) → unwrap_or (held_in net past c hop) 0 ≡ held_on (facts_of c past) conn.path p
port_read net past c conn p hop known is high some =
    let no : (hop_of conn.path p == 0) ≡ false = grind (arith, nat_tests) in
    let low : 1 ≤ hop = grind arith in
    hop_read net past c conn hop known low high
    ∙ ap (held_of (facts_of c past)) is
    ∙ sym (ap (λ b. if b then 0 else held_of (facts_of c past) (hop_of conn.path p)) no)

pub least_more : (facts : List Fact) (n : ℕ) → 1 ≤ n → least_held facts (n + 1) ≡ min (least_held facts n) (held_of facts (n + 1))
least_more facts zero low = absurd (omega (arith, low))
least_more facts (suc n) low =
    let one : suc n + 1 ≡ suc (suc n) = omega arith in
    ap (least_held facts) one ∙ sym (ap (λ k. min (least_held facts (suc n)) (held_of facts k)) one)
