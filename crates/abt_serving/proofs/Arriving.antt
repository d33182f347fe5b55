-- A cell that has just left may arrive.
use Rattle.std.proofs.Common.{◌≡◌, ℕ, ◌+◌, ◌≤◌, refl, ap, Bool, true, false, List, [], ◌∷◌, ◌++◌, ◌∙◌, subst, arith}
use Rattle.std.specs.Prelude.{◌==◌, not, nat_lt, nat_le, if◌then◌else◌, max}
use Rattle.std.proofs.lemmas.Bool.{cond-true, cond_both, eq-eqb, lt-ltb, le-ltb, le-leb, and_from}
use Rattle.abt_gcra.specs.declared.verdict.Verdict.{Verdict}
use Rattle.abt_net.specs.declared.conn.Conn.{Conn}
use Rattle.abt_net.specs.Topology.{Topology}
use Rattle.abt_facts.specs.declared.fact.Fact.{Fact}
use Rattle.abt_facts.specs.declared.fact.Fact.TheVariants.{Started, Asked, Delivered, Emitted, Arrived}
use Rattle.abt_facts.specs.Requests.{mark_of}
use Rattle.abt_facts.specs.Source.{rate_of, clock_of}
use Rattle.abt_facts.specs.Hop.{held_of}
use Rattle.abt_facts.specs.Cells.{emitted_of, moment_of, after_last_of, last_arrival_of, delivered_mark_of, fence_of, is_in_time, verdict_at}
use Rattle.abt_model.specs.declared.event.Event.TheVariants.{Emit, Arrive}
use Rattle.abt_model.specs.declared.outcome.Cause.TheVariants.{NotSent, Fenced, Delay, ClockBack}
use Rattle.abt_model.specs.declared.outcome.Outcome.TheVariants.{Arrived as HasArrived, NotEnabled}
use Rattle.abt_model.specs.Answers.{arrive_answer}
use Rattle.abt_model.specs.Outcomes.{after_event, facts_added}
use Rattle.abt_model.specs.Past.{Past, facts_of}
use Rattle.abt_model.specs.Promises.{EveryPast}
use Rattle.abt_model.specs.Run.{facts_after}
use Rattle.abt_model.proofs.Emissions.{sent_facts}
use Rattle.abt_model.proofs.Lawful.{Route, route_of, MayFollow, IsLawful}
use Rattle.abt_model.proofs.Sums.{facts_after_lawful}
use Rattle.abt_model.proofs.Worlds.{AllLawful, outcome_of-known, facts_of-own, lawful_at, after_event_lawful}
use Rattle.abt_serving.specs.Arriving.{EmissionsArrive}

-- no mark is above the number of cells
mark_within : (l : Route) (fs : List Fact) → IsLawful l fs → (s : ℕ) → mark_of fs s ≤ emitted_of fs
mark_within l [] lawful s = omega arith
mark_within l (Asked t floor ask mark ∷ fs) lawful s =
    cond_both (t == s) mark (mark_of fs s) (λ (x : ℕ). x ≤ emitted_of fs) (λ e. (let is = lawful.0.3 in omega (arith, is))) (λ e. mark_within l fs lawful.1 s)
mark_within l (Emitted n t r ∷ fs) lawful s = omega (arith, mark_within l fs lawful.1 s)
mark_within l (f ∷ fs) lawful s = mark_within l fs lawful.1 s

delivered_within : (l : Route) (fs : List Fact) → IsLawful l fs → delivered_mark_of fs ≤ emitted_of fs
delivered_within l [] lawful = omega arith
delivered_within l (Delivered s ∷ fs) lawful = omega (arith, mark_within l fs lawful.1 s, delivered_within l fs lawful.1)
delivered_within l (Emitted n t r ∷ fs) lawful = omega (arith, delivered_within l fs lawful.1)
delivered_within l (f ∷ fs) lawful = delivered_within l fs lawful.1

arrived_within : (l : Route) (fs : List Fact) → IsLawful l fs → after_last_of fs ≤ emitted_of fs
arrived_within l [] lawful = omega arith
arrived_within l (Arrived n a r v ∷ fs) lawful = (let sent = lawful.0.0 in omega (arith, sent))
arrived_within l (Emitted n t r ∷ fs) lawful = omega (arith, arrived_within l fs lawful.1)
arrived_within l (f ∷ fs) lawful = arrived_within l fs lawful.1

-- no arrival is later than the source's clock with the delay and the tolerance
arrival_within : (l : Route) (fs : List Fact) → IsLawful l fs → last_arrival_of fs ≤ clock_of fs + l.delay + l.tau
arrival_within l [] lawful = omega arith
arrival_within l (Arrived n a r v ∷ fs) lawful = (let sent = sent_facts l fs lawful.1 n lawful.0.0 in omega (arith, sent.past, lawful.0.3))
arrival_within l (Started t kept ∷ fs) lawful = omega (arith, arrival_within l fs lawful.1)
arrival_within l (Emitted n t r ∷ fs) lawful = omega (arith, arrival_within l fs lawful.1)
arrival_within l (f ∷ fs) lawful = arrival_within l fs lawful.1

arrived_on : (a b d e : Bool) (v : Verdict) → a ≡ true → b ≡ false → d ≡ true → e ≡ false →
    (if not a then NotEnabled NotSent else (if b then NotEnabled Fenced else (if not d then NotEnabled Delay else (if e then NotEnabled ClockBack else HasArrived v)))) ≡ HasArrived v
arrived_on true false true false v one two three four = refl
arrived_on false b d e v one two three four = absurd (cc)
arrived_on true true d e v one two three four = absurd (cc)
arrived_on true false false e v one two three four = absurd (cc)
arrived_on true false true true v one two three four = absurd (cc)

-- behind its emission a cell may arrive
pub arrives : (conn : Conn) (fs : List Fact) → IsLawful (route_of conn) fs → (n now r jitter : ℕ) → MayFollow (route_of conn) fs (Emitted n now r) → jitter ≤ conn.tau →
    (let at = max (now + conn.delay + jitter) (last_arrival_of fs) in let more = Emitted n now r ∷ fs in
    arrive_answer conn more n at ≡ HasArrived (verdict_at conn.tau more at (held_of more 1)))
arrives conn fs lawful n now r jitter may low =
    let l = route_of conn in
    let at = max (now + conn.delay + jitter) (last_arrival_of fs) in
    let more = Emitted n now r ∷ fs in
    let is : n ≡ emitted_of fs = may.0 in
    let there : nat_lt n (emitted_of more) ≡ true = lt-ltb n (emitted_of fs + 1) (omega (arith, is)) in
    let free : nat_lt n (fence_of more) ≡ false = le-ltb n (fence_of fs) (omega (arith, is, delivered_within l fs lawful, arrived_within l fs lawful)) in
    let left : moment_of more n ≡ now = cond-true _ _ _ (eq-eqb n n refl) in
    let latest = arrival_within l fs lawful in
    let clock : clock_of fs ≤ now = may.3 in
    let after : nat_le (moment_of more n + conn.delay) at ≡ true = le-leb (moment_of more n + conn.delay) at (omega (arith, left)) in
    let before : nat_le at (moment_of more n + conn.delay + conn.tau) ≡ true = le-leb at (moment_of more n + conn.delay + conn.tau) (omega (arith, left, latest, clock, low)) in
    let timely : is_in_time conn.delay conn.tau more n at ≡ true = and_from _ _ after before in
    let onward : nat_lt at (last_arrival_of more) ≡ false = le-ltb at (last_arrival_of fs) (omega arith) in
    arrived_on (nat_lt n (emitted_of more)) (nat_lt n (fence_of more)) (is_in_time conn.delay conn.tau more n at) (nat_lt at (last_arrival_of more)) (verdict_at conn.tau more at (held_of more 1)) there free timely onward

pub emission_arrives : (net : Topology) (past : Past) → AllLawful net past → EmissionsArrive net past
emission_arrives net past lawful c now jitter cell next conn known left low =
    let facts = facts_of c past in
    let event = Emit c now in
    let after = after_event net past event in
    let at = max (now + conn.delay + jitter) (last_arrival_of facts) in
    let more = Emitted cell now (rate_of facts) ∷ facts in
    let is : facts_of c after ≡ more = facts_of-own net past event c refl ∙ ap (λ o. facts_added facts event o ++ facts) left in
    let laws = lawful_at net after (after_event_lawful net past lawful event tt) c conn known in
    let both : IsLawful (route_of conn) more = subst (IsLawful (route_of conn)) is laws in (
      _,
      outcome_of-known net after (Arrive c cell at) c conn refl known ∙ ap (λ (l : List Fact). arrive_answer conn l cell at) is
          ∙ arrives conn facts both.1 cell now (rate_of facts) jitter both.0 low,
    )

pub every_emission_arrives : EveryPast EmissionsArrive
every_emission_arrives net events rules rates = emission_arrives net (facts_after net events) (facts_after_lawful net events rates).0
