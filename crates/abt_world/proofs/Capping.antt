-- An event of a port alone.
use Rattle.std.proofs.Common.{◌≡◌, ◌<◌, ◌≤◌, ℕ, List, [], ◌∷◌, ◌++◌, inl, inr, refl, sym, subst, ap, ◌∙◌, arith, length, true, false}
use Rattle.std.specs.Prelude.{Some, option_map, slice_get, slice_set, nat_lt}
use Rattle.std.proofs.lemmas.Bool.{cases_eq, cond-true, cond-false, le-ltb}
use Rattle.std.proofs.lemmas.Bool.Decides.{nat_tests}
use Rattle.std.proofs.lemmas.Option.{slice_get_within}
use Rattle.abt_cell.specs.Channel.{Channel}
use Rattle.abt_net.specs.declared.conn.Conn.{Conn}
use Rattle.abt_net.specs.Topology.{Topology, IsWithinRules, conn_at}
use Rattle.abt_node.specs.Table.{Table, capacity_set, table_after_capacity}
use Rattle.abt_facts.specs.declared.fact.Fact.{Fact}
use Rattle.abt_model.specs.declared.event.Event.{Event}
use Rattle.abt_model.specs.declared.event.Event.TheVariants.{Capacity}
use Rattle.abt_model.specs.declared.outcome.Cause.TheVariants.{Unknown}
use Rattle.abt_model.specs.declared.outcome.Outcome.{Outcome}
use Rattle.abt_model.specs.declared.outcome.Outcome.TheVariants.{NotEnabled}
use Rattle.abt_model.specs.Answers.{capped}
use Rattle.abt_model.specs.Past.{Past}
use Rattle.abt_model.specs.Outcomes.{outcome_of, port_facts_added, after_event}
use Rattle.abt_model.specs.PortTable.{port_table}
use Rattle.abt_model.specs.Run.{facts_after}
use Rattle.abt_model.proofs.Setting.{answer_set, capacities_served}
use Rattle.abt_model.proofs.Sums.{facts_after_lawful}
use Rattle.abt_model.proofs.Tables.{tables_stay}
use Rattle.abt_model.proofs.Worlds.{cases_option, none_some, facts_of-other}
use Rattle.abt_safety.specs.Holding.{held_by_port}
use Rattle.abt_world.specs.ConnectionStates.{connection_of}
use Rattle.abt_world.specs.Standing.{WorldView, IsOfPast, StandsFor}
use Rattle.abt_world.specs.Steps.{ArePorts}
use Rattle.abt_world.proofs.Serving.{port_has, set_here, set_other}
use Rattle.abt_world.proofs.Standings.{port_count, one_more, all_ask, still, some_same}
use Rattle.abt_world.proofs.Touching.{rows_kept}

below_tests : (p n : ℕ) → p < n → nat_lt p n ≡ true
below_tests p n low = grind (arith, nat_tests)

-- a port of the net has the table that a past gives it
table_there : (net : Topology) (past after : Past) (ports : List Table) (p : ℕ) (table : Table) → ArePorts net past ports → slice_get ports p ≡ Some table →
    Some (port_table net after p) ≡ option_map (λ (_ : ℕ). port_table net after p) (slice_get net.capacities p)
table_there net past after ports p table are at = elim (cases_option (slice_get net.capacities p)) [
  | inl none ↦ absurd (let e = sym at ∙ are p ∙ ap (option_map (λ (_ : ℕ). port_table net past p)) none in cc)
  | inr some ↦ sym (ap (option_map (λ (_ : ℕ). port_table net after p)) some.1)
]

-- what ports hold stays, where one gets another capacity
pub held_capped : (ports : List Table) (p u : ℕ) (old : Table) → slice_get ports p ≡ Some old → (vc : Channel) (q : ℕ) →
    held_by_port vc (slice_set ports p (table_after_capacity old u)) q ≡ held_by_port vc ports q
held_capped ports p u old at vc q = rows_kept ports p q old (table_after_capacity old u) vc at refl

-- a port of the net
pub step_capped :
    (net : Topology) (events : List Event) (world : WorldView) (p u looks : ℕ) (outcome : Outcome) (old new : Table) → IsWithinRules net → StandsFor net events world →
    slice_get world.ports p ≡ Some old → outcome ≡ capped (capacity_set old u) → new ≡ table_after_capacity old u →
    (outcome ≡ outcome_of net (facts_after net events) (Capacity p u))
    × StandsFor net (events ++ Capacity p u ∷ []) (record { net = world.net; ports = slice_set world.ports p new; connections = world.connections; looks = looks })
step_capped net events world p u looks outcome old new rules stands at said becomes =
    let past = facts_after net events in
    let after = after_event net past (Capacity p u) in
    let lawful = (facts_after_lawful net events stands.rates).0 in
    let here = slice_get_within world.ports p old at in
    let count = port_count net past world.ports stands.stands.ports in
    let low : p < length net.capacities = omega arith in
    let old_is : old ≡ port_table net past p = some_same _ _ (sym at ∙ port_has net past world.ports p stands.stands.ports here) in
    let enabled : outcome_of net past (Capacity p u) ≡ capped (answer_set net past p u) = cond-true _ _ _ (below_tests p (length net.capacities) low) in
    let served = capacities_served net past rules lawful p u (answer_set net past p u) enabled in
    let told : outcome ≡ outcome_of net past (Capacity p u) = said ∙ ap (λ (t : Table). capped (capacity_set t u)) old_is ∙ ap capped served.0 ∙ sym enabled in
    let new_is : new ≡ port_table net after p = becomes ∙ ap (λ (t : Table). table_after_capacity t u) old_is ∙ served.1 in
    let each : ArePorts net after (slice_set world.ports p new) = λ q. elim (cases_eq p q) [
      | inl same ↦ subst (λ (n : ℕ). slice_get (slice_set world.ports p new) n ≡ option_map (λ (_ : ℕ). port_table net after n) (slice_get net.capacities n)) same
          (set_here world.ports p new here ∙ ap Some new_is ∙ table_there net past after world.ports p old stands.stands.ports at)
      | inr other ↦ set_other world.ports p q new other ∙ stands.stands.ports q
          ∙ ap (λ (t : Table). option_map (λ (_ : ℕ). t) (slice_get net.capacities q)) (sym (tables_stay net past rules lawful (Capacity p u) q tt (λ comes. other comes.0)))
    ] in (
      told,
      record {
        rates = all_ask events (Capacity p u) stands.rates tt;
        stands = subst (λ (w : Past). IsOfPast net w (record { net = world.net; ports = slice_set world.ports p new; connections = world.connections; looks = looks })) (sym (one_more net events (Capacity p u)))
            (record {
              net_is = stands.stands.net_is;
              ports = each;
              connections = λ c. stands.stands.connections c
                  ∙ ap (λ (fs : List Fact). option_map (λ (k : Conn). connection_of k.vc fs) (conn_at net c)) (sym (facts_of-other net past (Capacity p u) c (λ own. none_some c own)));
            });
      },
    )

-- a port that the net doesn't have
pub step_elsewhere :
    (net : Topology) (events : List Event) (world : WorldView) (p u looks : ℕ) → StandsFor net events world → length world.ports ≤ p →
    (NotEnabled Unknown ≡ outcome_of net (facts_after net events) (Capacity p u))
    × StandsFor net (events ++ Capacity p u ∷ []) (record { net = world.net; ports = world.ports; connections = world.connections; looks = looks })
step_elsewhere net events world p u looks stands past_end =
    let past = facts_after net events in
    let count = port_count net past world.ports stands.stands.ports in
    let unknown : outcome_of net past (Capacity p u) ≡ NotEnabled Unknown = cond-false _ _ _ (le-ltb p (length net.capacities) (omega arith)) in (
      sym unknown,
      still net events world (Capacity p u) looks stands tt (ap (λ (o : Outcome). port_facts_added (Capacity p u) o ++ past) unknown),
    )

-- how much it looks up
pub port_tests : (net : Topology) (events : List Event) (world : WorldView) (p : ℕ) → StandsFor net events world → p < length world.ports → nat_lt p (length net.capacities) ≡ true
port_tests net events world p stands here =
    let count = port_count net (facts_after net events) world.ports stands.stands.ports in below_tests p (length net.capacities) (omega arith)

pub no_port_tests : (net : Topology) (events : List Event) (world : WorldView) (p : ℕ) → StandsFor net events world → length world.ports ≤ p → nat_lt p (length net.capacities) ≡ false
no_port_tests net events world p stands past_end =
    let count = port_count net (facts_after net events) world.ports stands.stands.ports in le-ltb p (length net.capacities) (omega arith)
