-- A request that a source asks lies at the first hop of its path.
use Rattle.std.proofs.Common.{◌≡◌, ◌≢◌, ℕ, ◌+◌, ◌≤◌, inl, inr, refl, ap, Bool, true, false, List, ◌∷◌, ◌++◌, ◌∙◌, arith}
use Rattle.std.specs.Prelude.{◌==◌, if◌then◌else◌, min, Some}
use Rattle.std.proofs.lemmas.Bool.{eq-eqb, ne_eqb, cond-true, cond-false, or_left}
use Rattle.abt_rate.specs.Limits.{number_max}
use Rattle.abt_rate.specs.Rate.{IsRate}
use Rattle.abt_keep.specs.Record.{KeptRecord}
use Rattle.abt_keep.specs.declared.plan.StorePlan.{StorePlan}
use Rattle.abt_keep.specs.declared.plan.StorePlan.TheVariants.{Works}
use Rattle.abt_cell.specs.Message.{Terms}
use Rattle.abt_net.specs.declared.conn.Conn.{Conn}
use Rattle.abt_net.specs.Topology.{Topology, IsWithinRules, conn_at}
use Rattle.abt_facts.specs.declared.fact.Fact.{Fact}
use Rattle.abt_facts.specs.declared.fact.Fact.TheVariants.{Asked, Stored}
use Rattle.abt_facts.specs.Requests.{floor_of, ask_of}
use Rattle.abt_facts.specs.Source.{SourceState, Down, Idle, Asking, state_of, rate_of, last_of, writes, written_for}
use Rattle.abt_facts.specs.Sent.{was_shut, request_is_at}
use Rattle.abt_facts.specs.Hop.{newest_of, held_of}
use Rattle.abt_facts.specs.Cells.{emitted_of}
use Rattle.abt_model.specs.declared.event.Event.TheVariants.{Ask}
use Rattle.abt_model.specs.declared.outcome.Outcome.{Outcome}
use Rattle.abt_model.specs.declared.outcome.Outcome.TheVariants.{Asked as HasAsked}
use Rattle.abt_model.specs.Past.{Past, facts_of}
use Rattle.abt_model.specs.Answers.{if_up, next_request, kept_answer}
use Rattle.abt_model.specs.Outcomes.{outcome_of, write_adds, facts_added, after_event}
use Rattle.abt_model.proofs.Chain.{asked_last, newest_asked}
use Rattle.abt_model.proofs.Lawful.{Route, route_of, IsLawful}
use Rattle.abt_model.proofs.Sums.{AllWithin, after_event_within}
use Rattle.abt_model.proofs.Worlds.{facts_of-own, outcome_of-known, AllLawful, lawful_at, after_event_lawful}
use Rattle.abt_laws.specs.Granting.{IsGrantable}
use Rattle.abt_laws.proofs.Passing.{HasPassed, fits_stays}

up_answers : (st : SourceState) (o : Outcome) → st ≢ Down → if_up st o ≡ o
up_answers Down o up = absurd (up refl)
up_answers Idle o up = refl
up_answers (Asking s) o up = refl

kept_goes : (b : Bool) (plan : StorePlan) (request : Terms) → (b ≡ true → plan ≡ Works) → kept_answer b plan request ≡ HasAsked request
kept_goes true plan request works = ap (λ (p : StorePlan). kept_answer true p request) (works refl)
kept_goes false plan request works = refl

-- a source that is up asks, where a number is left and its store works if the ask writes
pub asks : (net : Topology) (past : Past) (c : ℕ) (conn : Conn) → conn_at net c ≡ Some conn → (rate : ℕ) (plan : StorePlan) → IsGrantable net past c conn rate plan →
    outcome_of net past (Ask c rate plan) ≡ HasAsked (next_request conn.vc (facts_of c past) rate)
asks net past c conn known rate plan can =
    let fs = facts_of c past in
    let left = can.number in
    let some_left : last_of fs ≢ number_max = λ e. omega arith in
    outcome_of-known net past (Ask c rate plan) c conn refl known ∙ up_answers (state_of fs) _ can.up ∙ cond-false _ _ _ (ne_eqb (last_of fs) number_max some_left)
    ∙ kept_goes (writes fs rate) plan (next_request conn.vc fs rate) can.store

-- what an ask writes is nothing to the hops
over_write : {A : Type 0} → (g : List Fact → A) (b : Bool) (kept : KeptRecord) (fs : List Fact) → ((w : KeptRecord) → g (Stored w ∷ fs) ≡ g fs) → g (write_adds b kept ++ fs) ≡ g fs
over_write g true kept fs same = same kept
over_write g false kept fs same = refl

newest_low : (k : Route) (fs : List Fact) → IsLawful k fs → (j : ℕ) → newest_of fs j ≤ last_of fs
newest_low k fs lawful j = elim (newest_asked k fs lawful j) [
  | inl z ↦ omega arith
  | inr a ↦ (let number = (asked_last k fs lawful).1 (newest_of fs j) a in number.1)
]

-- a new request leaves what each hop holds
pub asked_holds : (k : Route) (fs : List Fact) → IsLawful k fs → (floor ask mark : ℕ) (b : Bool) (kept : KeptRecord) (i : ℕ) →
    held_of (Asked (last_of fs + 1) floor ask mark ∷ (write_adds b kept ++ fs)) i ≡ held_of fs i
asked_holds k fs lawful floor ask mark b kept i =
    let m = newest_of fs i in
    let low = newest_low k fs lawful i in
    let differ : (last_of fs + 1 == m) ≡ false = ne_eqb _ _ (λ e. omega arith) in
    let more : List Fact = Asked (last_of fs + 1) floor ask mark ∷ fs in
    let f : floor_of more m ≡ floor_of fs m = cond-false _ _ _ differ in
    let a : ask_of more m ≡ ask_of fs m = cond-false _ _ _ differ in
    over_write (λ (l : List Fact). held_of (Asked (last_of fs + 1) floor ask mark ∷ l) i) b kept fs (λ w. refl)
    ∙ ap (λ (x : ℕ). if m == 0 then 0 else (if was_shut fs m i then x else ask_of more m)) f
    ∙ ap (λ (y : ℕ). if m == 0 then 0 else (if was_shut fs m i then floor_of fs m else y)) a

-- the request lies at the first hop then, and fits wherever it fitted
pub asked_lies : (net : Topology) → IsWithinRules net → (past : Past) → AllLawful net past → AllWithin net past → (c : ℕ) (conn : Conn) → conn_at net c ≡ Some conn → (rate : ℕ) (plan : StorePlan) → IsRate rate →
    IsGrantable net past c conn rate plan → HasPassed net (after_event net past (Ask c rate plan)) c conn (last_of (facts_of c past) + 1) rate 0
asked_lies net rules past lawful within c conn known rate plan is_rate can =
    let fs = facts_of c past in
    let s = last_of fs + 1 in
    let e = Ask c rate plan in
    let rest = write_adds (writes fs rate) (written_for fs rate) ++ fs in
    let new : List Fact = Asked s (min (rate_of fs) rate) rate (emitted_of fs) ∷ rest in
    let is : facts_of c (after_event net past e) ≡ new = facts_of-own net past e c refl ∙ ap (λ (o : Outcome). facts_added fs e o ++ fs) (asks net past c conn known rate plan can) in
    let law = lawful_at net past lawful c conn known in
    let held : (j : ℕ) → held_of (facts_of c (after_event net past e)) j ≡ held_of fs j = λ j. ap (λ (l : List Fact). held_of l j) is
    ∙ asked_holds (route_of conn) fs law (min (rate_of fs) rate) rate (emitted_of fs) (writes fs rate) (written_for fs rate) j in
    record {
      lawful = after_event_lawful net past lawful e is_rate;
      within = after_event_within net past lawful within e;
      waits = ap state_of is;
      asks = ap (λ (l : List Fact). ask_of l s) is ∙ cond-true _ _ _ (eq-eqb s s refl);
      lies = ap (λ (l : List Fact). request_is_at l s 1) is ∙ or_left _ _ (eq-eqb s s refl);
      newer = λ j above.
          let same : newest_of (facts_of c (after_event net past e)) j ≡ newest_of fs j = ap (λ (l : List Fact). newest_of l j) is
          ∙ over_write (λ (l : List Fact). newest_of l j) (writes fs rate) (written_for fs rate) fs (λ w. refl) in
          let low = newest_low (route_of conn) fs law j in
          omega arith;
      fits = λ j above high. fits_stays net rules past c conn known rate j (omega arith) high e refl (held j) (can.fits j (omega arith) high);
    }
