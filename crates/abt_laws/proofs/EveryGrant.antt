-- What fits is granted, after every list of events.
use Rattle.std.proofs.Common.{◌≡◌, ℕ, ◌+◌, ◌≤◌, refl, ap, List, [], ◌∷◌, ◌++◌, length, ◌∙◌, sym, subst, arith}
use Rattle.std.specs.Prelude.{true, replicate, Some}
use Rattle.abt_node.specs.declared.reply.Onward.TheVariants.{Pass}
use Rattle.abt_net.specs.declared.conn.Conn.{Conn}
use Rattle.abt_net.specs.Topology.{Topology, IsWithinRules, conn_at}
use Rattle.abt_facts.specs.Source.{last_of}
use Rattle.abt_model.specs.declared.event.Event.{Event}
use Rattle.abt_model.specs.declared.event.Event.TheVariants.{Ask, Turn, Told}
use Rattle.abt_model.specs.declared.outcome.Outcome.{Outcome}
use Rattle.abt_model.specs.declared.outcome.Outcome.TheVariants.{Asked, Requested, Turned}
use Rattle.abt_model.specs.Past.{Past, facts_of}
use Rattle.abt_model.specs.Answers.{next_request}
use Rattle.abt_model.specs.Outcomes.{outcome_of, after_event}
use Rattle.abt_model.specs.Run.{facts_from, outcomes_from, facts_after}
use Rattle.abt_model.specs.Promises.{EveryPast}
use Rattle.abt_model.proofs.Served.{conn_within}
use Rattle.abt_model.proofs.Sums.{AllWithin, facts_after_lawful}
use Rattle.abt_model.proofs.Worlds.{AllLawful}
use Rattle.abt_laws.specs.RoundTrips.{out_over, back_over, round_trip, granted_trip}
use Rattle.abt_laws.specs.Granting.{WhatFitsIsGranted}
use Rattle.abt_laws.proofs.AskingOut.{asks, asked_lies}
use Rattle.abt_laws.proofs.Passing.{HasPassed, passes}
use Rattle.abt_laws.proofs.Returning.{IsRaised, turns, comes_home}

-- one list of events behind another
pub outcomes_append : (net : Topology) (past : Past) (xs ys : List Event) → outcomes_from net past (xs ++ ys) ≡ outcomes_from net past xs ++ outcomes_from net (facts_from net past xs) ys
outcomes_append net past [] ys = refl
outcomes_append net past (x ∷ xs) ys = ap (λ (os : List Outcome). outcome_of net past x ∷ os) (outcomes_append net (after_event net past x) xs ys)

pub facts_append : (net : Topology) (past : Past) (xs ys : List Event) → facts_from net past (xs ++ ys) ≡ facts_from net (facts_from net past xs) ys
facts_append net past [] ys = refl
facts_append net past (x ∷ xs) ys = facts_append net (after_event net past x) xs ys

-- a request that lies at the first hop, and fits at each, makes its round trip
trip : (net : Topology) → IsWithinRules net → (past : Past) (c : ℕ) (conn : Conn) → conn_at net c ≡ Some conn → (s rate : ℕ) → HasPassed net past c conn s rate 0 →
    (outcomes_from net past (round_trip c s (length conn.path)) ≡ granted_trip (length conn.path)) × IsRaised (facts_from net past (round_trip c s (length conn.path))) c conn rate
trip net rules past c conn known s rate sent =
    let k = length conn.path in
    let out = out_over c s k in
    let home : List Event = back_over c s k ++ Told c s true ∷ [] in
    let some : 1 ≤ k = (let within = conn_within net rules c conn known in omega (arith, within.has_hop)) in
    let there = facts_from net past out in
    let through = passes net rules past c conn known s rate sent k (omega arith) in
    let turned = turns net there c conn known s rate some through.1 in
    let back = comes_home net (after_event net there (Turn c s)) c conn known s rate some k (omega arith) turned.1 in (
      outcomes_append net past out (Turn c s ∷ home) ∙ ap (λ (os : List Outcome). os ++ outcomes_from net there (Turn c s ∷ home)) through.0
          ∙ ap (λ (o : Outcome). replicate k (Requested Pass) ++ o ∷ outcomes_from net (after_event net there (Turn c s)) home) turned.0
          ∙ ap (λ (os : List Outcome). replicate k (Requested Pass) ++ Turned ∷ os) back.0,
      subst (λ (v : Past). IsRaised v c conn rate) (sym (facts_append net past out (Turn c s ∷ home))) back.1,
    )

pub grants : (net : Topology) (past : Past) → IsWithinRules net → AllLawful net past → AllWithin net past → WhatFitsIsGranted net past
grants net past rules lawful within c rate conn plan is_rate known can =
    let asked = asks net past c conn known rate plan can in
    let s = last_of (facts_of c past) + 1 in
    let after = after_event net past (Ask c rate plan) in
    let trips = trip net rules after c conn known s rate (asked_lies net rules past lawful within c conn known rate plan is_rate can) in
    record {
      outcomes = ap (λ (o : Outcome). o ∷ outcomes_from net after (round_trip c s (length conn.path))) asked
          ∙ ap (λ (os : List Outcome). Asked (next_request conn.vc (facts_of c past) rate) ∷ os) trips.0;
      shapes = trips.1.shapes;
      holds = trips.1.holds;
    }

pub every_grant : EveryPast WhatFitsIsGranted
every_grant net events rules rates = let both = facts_after_lawful net events rates in grants net (facts_after net events) rules both.0 both.1
