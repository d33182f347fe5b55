-- Every past is safe.
use Rattle.std.proofs.Common.{◌≡◌, ℕ, inl, inr, [], sym, subst, arith}
use Rattle.abt_net.specs.Topology.{Topology, IsWithinRules, conn_at}
use Rattle.abt_model.specs.Past.{Past, facts_of}
use Rattle.abt_model.specs.Run.{facts_after}
use Rattle.abt_model.specs.Safe.{AllConform, IsSafe}
use Rattle.abt_model.specs.Promises.{EveryPast, NeverDisputes, OneAnswerEach, RatesWait, YesStandsEverywhere, ArrivalsConform, NextIsDue, CellsAreApart, ArrivalsInRange, StoreCovers}
use Rattle.abt_model.proofs.Sums.{AllWithin, facts_after_lawful}
use Rattle.abt_model.proofs.Answered.{yes_everywhere, rates_wait, one_answer_each}
use Rattle.abt_model.proofs.Worlds.{cases_option, IsConnLawful, AllLawful, lawful_at}
use Rattle.abt_model.proofs.Lawful.{route_of}
use Rattle.abt_model.proofs.Drops.{outcome_agrees}
use Rattle.abt_model.proofs.Served.{conn_within, cells_are_apart, arrivals_in_range, arrivals_conform, next_is_due, store_covers}
use Rattle.abt_model.proofs.Arrivals.{all_conform}
use Rattle.abt_model.proofs.Backed.{rate_held}

pub past_safe : (net : Topology) (past : Past) → IsWithinRules net → AllLawful net past → AllWithin net past → IsSafe net past
past_safe net past rules lawful within = record {
  rates = λ c conn known hop low high. rate_held (route_of conn) (facts_of c past) (lawful_at net past lawful c conn known) hop low high;
  sums = λ port known. within port;
  cells = λ c. conforming c;
}
  where
    conforming : (c : ℕ) → AllConform (facts_of c past)
    conforming c = elim (cases_option (conn_at net c)) [
      | inl unknown ↦ (let empty : facts_of c past ≡ [] = subst (λ o. IsConnLawful o (facts_of c past)) unknown (lawful c) in subst AllConform (sym empty) tt)
      | inr known ↦ all_conform (route_of known.0) (facts_of c past) (lawful_at net past lawful c known.0 known.1) (let within = conn_within net rules c known.0 known.1 in omega (arith, within.has_hop))
    ]

pub every_safe : EveryPast IsSafe
every_safe net events rules rates = let both = facts_after_lawful net events rates in past_safe net (facts_after net events) rules both.0 both.1

pub every_never_disputes : EveryPast NeverDisputes
every_never_disputes net events rules rates = outcome_agrees net (facts_after net events) (facts_after_lawful net events rates).0

pub every_one_answer : EveryPast OneAnswerEach
every_one_answer net events rules rates = one_answer_each net (facts_after net events) (facts_after_lawful net events rates).0

pub every_rates_wait : EveryPast RatesWait
every_rates_wait net events rules rates = rates_wait net (facts_after net events) (facts_after_lawful net events rates).0

pub every_yes_stands : EveryPast YesStandsEverywhere
every_yes_stands net events rules rates = yes_everywhere net (facts_after net events) (facts_after_lawful net events rates).0

pub every_arrival_conforms : EveryPast ArrivalsConform
every_arrival_conforms net events rules rates = arrivals_conform net (facts_after net events) rules (facts_after_lawful net events rates).0

pub every_next_is_due : EveryPast NextIsDue
every_next_is_due net events rules rates = next_is_due net (facts_after net events) rules (facts_after_lawful net events rates).0

pub every_cell_apart : EveryPast CellsAreApart
every_cell_apart net events rules rates = cells_are_apart net (facts_after net events) (facts_after_lawful net events rates).0

pub every_arrival_in_range : EveryPast ArrivalsInRange
every_arrival_in_range net events rules rates = arrivals_in_range net (facts_after net events) rules (facts_after_lawful net events rates).0

pub every_store_covers : EveryPast StoreCovers
every_store_covers net events rules rates = store_covers net (facts_after net events) (facts_after_lawful net events rates).0
