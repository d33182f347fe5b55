-- What an arrival that is enabled meets.
use Rattle.std.proofs.Common.{◌≡◌, ◌≢◌, ap, ℕ, ◌+◌, ◌*◌, ◌≤◌, refl, List, [], ◌∷◌, length, ◌∙◌, sym, subst, arith}
use Rattle.std.specs.Prelude.{◌==◌, not, nat_lt, Some}
use Rattle.std.proofs.lemmas.Bool.{and_from, cond_both, not-false, ltb-true, ltb-false}
use Rattle.abt_rate.specs.Rate.{IsRate, spacing_of}
use Rattle.abt_rate.specs.Extremes.{IsGreatest}
use Rattle.abt_gcra.specs.declared.verdict.Verdict.{Verdict}
use Rattle.abt_gcra.specs.Windows.{Arrival, IsVerdictAt}
use Rattle.abt_gcra.specs.Standing.{IsOwed, TatStandsFor}
use Rattle.abt_gcra.proofs.WindowsLemmas.{tat_first, tat_next, owed_none}
use Rattle.abt_keep.specs.Record.{KeptRecord}
use Rattle.abt_facts.specs.declared.fact.Fact.{Fact}
use Rattle.abt_facts.specs.declared.fact.Fact.TheVariants.{Started, Emitted, Arrived}
use Rattle.abt_model.specs.declared.event.Event.TheVariants.{Arrive}
use Rattle.abt_model.specs.declared.outcome.Outcome.{Outcome}
use Rattle.abt_net.specs.declared.conn.Conn.{Conn}
use Rattle.abt_model.specs.declared.outcome.Outcome.TheVariants.{Arrived as HasArrived}
use Rattle.abt_facts.specs.Source.{stored_of, next_of}
use Rattle.abt_facts.specs.Hop.{held_of}
use Rattle.abt_facts.specs.Cells.{emitted_of, moment_of, last_arrival_of, fence_of, taken_of, verdict_at, is_in_time}
use Rattle.abt_net.specs.Topology.{Topology, IsWithinRules, IsConnWithin, conn_at}
use Rattle.abt_model.specs.Past.{Past, facts_of}
use Rattle.abt_rate.specs.Limits.{emit_max}
use Rattle.abt_model.specs.Answers.{arrive_answer}
use Rattle.abt_model.specs.Promises.{ArrivalsConform, NextIsDue, CellsAreApart, ArrivalsInRange, Covers, StoreCovers}
use Rattle.abt_model.proofs.Answered.{past_cases}
use Rattle.abt_model.proofs.Worlds.{outcome_of-known, AllLawful, lawful_at, all_at}
use Rattle.abt_model.proofs.Spacings.{spacing_bounds}
use Rattle.abt_model.proofs.Lawful.{Route, route_of, MayFollow, IsLawful}
use Rattle.abt_model.proofs.Records.{recorded}
use Rattle.abt_model.proofs.Arrivals.{tat, arrival, timely}
use Rattle.abt_model.proofs.Steps.{in_time_tells}
use Rattle.abt_model.proofs.Emissions.{are_rates}
use Rattle.abt_gcra.proofs.FindingLemmas.{conforms_holds}

-- the law of an arrival that is enabled
pub arrive_tells : (conn : Conn) (fs : List Fact) (n a : ℕ) (v : Verdict) → arrive_answer conn fs n a ≡ HasArrived v → MayFollow (route_of conn) fs (Arrived n a (held_of fs 1) v)
arrive_tells conn fs n a v =
    let P : Outcome → Type 0 = λ o. o ≡ HasArrived v → MayFollow (route_of conn) fs (Arrived n a (held_of fs 1) v) in
    cond_both (not (nat_lt n (emitted_of fs))) _ _ P (λ e h. absurd (cc))
    (λ e. cond_both (nat_lt n (fence_of fs)) _ _ P (λ e2 h. absurd (cc))
    (λ e2. cond_both (not (is_in_time conn.delay conn.tau fs n a)) _ _ P (λ e3 h. absurd (cc))
    (λ e3. cond_both (nat_lt a (last_arrival_of fs)) _ _ P (λ e4 h. absurd (cc))
    (λ e4 h. (
    let both = in_time_tells conn.delay conn.tau fs n a (not-false _ e3) in
    let is : v ≡ verdict_at conn.tau fs a (held_of fs 1) = cc in
    (ltb-true n (emitted_of fs) (not-false _ e), ltb-false n (fence_of fs) e2, both.0, both.1, ltb-false a (last_arrival_of fs) e4, refl, is))))))

-- a connection within the rules has a hop
pub conn_within : (net : Topology) → IsWithinRules net → (c : ℕ) (conn : Conn) → conn_at net c ≡ Some conn → IsConnWithin (length net.capacities) conn
conn_within net rules c conn known = all_at (IsConnWithin (length net.capacities)) net.conns c conn rules.each_conn known

-- no cell was emitted later than the greatest moment
pub moment_within : (l : Route) (fs : List Fact) → IsLawful l fs → (n : ℕ) → moment_of fs n ≤ emit_max
moment_within l [] lawful n = omega arith
moment_within l (Emitted m t r ∷ fs) lawful n =
    cond_both (m == n) t (moment_of fs n) (λ (x : ℕ). x ≤ emit_max) (λ e. lawful.0.5) (λ e. moment_within l fs lawful.1 n)
moment_within l (f ∷ fs) lawful n = moment_within l fs lawful.1 n

pub cells_apart : (l : Route) (fs : List Fact) → IsLawful l fs → 234 * emitted_of fs ≤ next_of fs
cells_apart l [] lawful = omega arith
cells_apart l (Started t kept ∷ fs) lawful =
    let held = recorded l fs lawful.1 in
    let same : kept.spacing ≡ (stored_of fs).spacing = ap (λ (r : KeptRecord). r.spacing) lawful.0.0 in
    omega (arith, cells_apart l fs lawful.1, held.due, held.stored.gap, same, lawful.0.1)
cells_apart l (Emitted m t r ∷ fs) lawful =
    let rated : IsRate r = subst IsRate (sym lawful.0.1) (are_rates l fs lawful.1).now in
    let some = lawful.0.2 in
    let least = spacing_bounds r rated (omega arith) in
    omega (arith, least.0, cells_apart l fs lawful.1, lawful.0.4)
cells_apart l (f ∷ fs) lawful = cells_apart l fs lawful.1

pub cells_are_apart : (net : Topology) (past : Past) → AllLawful net past → CellsAreApart net past
cells_are_apart net past lawful c =
    past_cases net past lawful c (λ (fs : List Fact). 234 * emitted_of fs ≤ next_of fs) (omega arith) (λ conn law. cells_apart (route_of conn) (facts_of c past) law)

-- what is in the store covers the source
pub store_covers : (net : Topology) (past : Past) → AllLawful net past → StoreCovers net past
store_covers net past lawful c =
    past_cases net past lawful c (λ (fs : List Fact). Covers fs (stored_of fs).spacing)
    (record { gap = omega arith; rate = omega arith; waiting = omega arith }) (λ conn law. (recorded (route_of conn) (facts_of c past) law).stored)

-- what an arrival meets
pub arrivals_in_range : (net : Topology) (past : Past) → IsWithinRules net → AllLawful net past → ArrivalsInRange net past
arrivals_in_range net past rules lawful c cell at conn v known arrived =
    let fs = facts_of c past in
    let l = route_of conn in
    let law = lawful_at net past lawful c conn known in
    let may = arrive_tells conn fs cell at v (sym (outcome_of-known net past (Arrive c cell at) c conn refl known) ∙ arrived) in
    let within = conn_within net rules c conn known in
    let some : 1 ≤ length conn.path = omega (arith, within.has_hop) in
    let finds = arrival (route_of conn) fs law some (timely (route_of conn) fs law some) cell at (held_of fs 1) v may in
    let sent = moment_within (route_of conn) fs law cell in
    (may.4, omega (arith, may.3, sent, within.tau, within.delay), λ z. (let positive = finds.4 in omega arith))

pub arrivals_conform : (net : Topology) (past : Past) → IsWithinRules net → AllLawful net past → ArrivalsConform net past
arrivals_conform net past rules lawful c cell at conn v known arrived =
    let fs = facts_of c past in
    let law = lawful_at net past lawful c conn known in
    let may = arrive_tells conn fs cell at v (sym (outcome_of-known net past (Arrive c cell at) c conn refl known) ∙ arrived) in
    let within = conn_within net rules c conn known in
    let some : 1 ≤ length conn.path = omega (arith, within.has_hop) in
    let times = timely (route_of conn) fs law some in
    let finds = arrival (route_of conn) fs law some times cell at (held_of fs 1) v may in
    let nonzero : held_of fs 1 ≢ 0 = λ z. (let positive = finds.4 in omega arith) in
    let windows = conforms_holds conn.tau (record { at = at; spacing = spacing_of (held_of fs 1) } ∷ taken_of fs) (and_from _ _ finds.3 times.kept) in
    (finds.0, subst (IsVerdictAt conn.tau (taken_of fs) at (held_of fs 1)) (sym finds.0) (nonzero, windows))

-- the theoretical arrival time that stands for cells
tat_stands : (cell : Arrival) (cells : List Arrival) → IsGreatest (IsOwed (cell ∷ cells)) (tat (cell ∷ cells))
tat_stands cell [] =
    let is : cell.at + cell.spacing ≡ tat (cell ∷ []) = omega arith in
    subst (IsGreatest (IsOwed (cell ∷ []))) is (tat_first cell)
tat_stands cell (next ∷ cells) = tat_next (tat (next ∷ cells)) cell (next ∷ cells) (tat_stands next cells)

tat_is : (moment : ℕ) (cells : List Arrival) → TatStandsFor (Some moment) cells → moment ≤ tat cells
tat_is moment [] stands = absurd (owed_none moment stands.holds)
tat_is moment (cell ∷ cells) stands = (tat_stands cell cells).greatest moment stands.holds

pub next_is_due : (net : Topology) (past : Past) → IsWithinRules net → AllLawful net past → NextIsDue net past
next_is_due net past rules lawful c n moment conn known last stands =
    let fs = facts_of c past in
    let law = lawful_at net past lawful c conn known in
    let within = conn_within net rules c conn known in
    let some : 1 ≤ length conn.path = omega (arith, within.has_hop) in
    let due = (timely (route_of conn) fs law some).bound n last in
    omega (arith, due, tat_is moment (taken_of fs) stands)
