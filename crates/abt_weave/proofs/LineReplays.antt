-- The facts of an access line are those that its source's projection and the first port's make.
use Rattle.std.proofs.Common.{◌≡◌, ℕ, zero, suc, ◌+◌, ◌<◌, inl, inr, refl, ap, Bool, true, false, List, [], ◌∷◌, ◌++◌, length, ◌∙◌, sym, subst, Option, None, Some, arith}
use Rattle.std.specs.Prelude.{◌==◌, ◌&&◌, if◌then◌else◌, slice_get, slice_index}
use Rattle.std.proofs.lemmas.Bool.{false≢true, cond-true}
use Rattle.abt_cell.specs.Message.{Terms}
use Rattle.abt_gcra.specs.declared.verdict.Verdict.TheVariants.{Conforming}
use Rattle.abt_keep.specs.Record.{KeptRecord}
use Rattle.abt_keep.specs.declared.plan.StorePlan.TheVariants.{FailsAfter}
use Rattle.abt_node.specs.declared.reply.Onward.{Onward}
use Rattle.abt_node.specs.declared.reply.Onward.TheVariants.{Pass, Refuse, Drop}
use Rattle.abt_node.specs.declared.reply.Back.{Back}
use Rattle.abt_node.specs.declared.reply.Back.TheVariants.{Pass as PassBack, Drop as DropBack}
use Rattle.abt_source.specs.declared.fault.AskFault.TheVariants.{Keep}
use Rattle.abt_net.specs.declared.conn.Conn.{Conn}
use Rattle.abt_net.specs.Topology.{Topology, IsWithinRules, conn_at}
use Rattle.abt_facts.specs.declared.fact.Fact.{Fact}
use Rattle.abt_facts.specs.declared.fact.Fact.TheVariants.{Started as FactStarted, Stored, Asked as FactAsked, Emitted as FactEmitted, Delivered, Arrived as FactArrived}
use Rattle.abt_facts.specs.Source.{writes, written_for}
use Rattle.abt_facts.specs.Cells.{emitted_of}
use Rattle.abt_model.specs.declared.event.Event.{Event}
use Rattle.abt_model.specs.declared.event.Event.TheVariants.{Start, Ask, Crash, Emit, Arrive, Request, Turn, Answer, Told, Capacity}
use Rattle.abt_model.specs.declared.outcome.Heard.TheVariants.{Raised}
use Rattle.abt_model.specs.declared.outcome.Outcome.{Outcome}
use Rattle.abt_model.specs.declared.outcome.Outcome.TheVariants.{Started, Asked, AskRefused, Crashed, Emitted, Arrived, Requested, Turned, Answered, Told as HasTold, NotEnabled}
use Rattle.abt_model.specs.Outcomes.{conn_of, outcome_of, facts_added, after_event, request_adds, answer_adds, write_adds}
use Rattle.abt_model.specs.Past.{facts_of}
use Rattle.abt_model.proofs.Worlds.{conn_cases, cases_option, facts_of-own, facts_of-other}
use Rattle.abt_journal.specs.declared.input.PortInput.{PortInput}
use Rattle.abt_journal.specs.declared.input.PortInput.TheVariants.{Request as RequestIn, Arrive as ArriveIn}
use Rattle.abt_model.specs.declared.entry.SourceEntry.{SourceEntry}
use Rattle.abt_model.specs.declared.entry.SourceEntry.TheVariants.{Did, Sent, Arrived as ArrivedAt}
use Rattle.abt_weave.specs.Projections.{Step, Visit, is_enabled, entry_of, place_at_first, past_of, visit, step_at, steps_on, entry_made, entries_on}
use Rattle.abt_weave.proofs.Candidates.{cond_some, and_both}
use Rattle.abt_weave.proofs.Growth.{entries_other, entries_none}
use Rattle.abt_weave.proofs.LineFacts.{line, line-append, rate_of-line, stored_of-line, emitted_of-line, writes-line, written_for-line}
use Rattle.abt_weave.proofs.Places.{Names, named_low, named_now, step_made, entries_made}
use Rattle.abt_weave.proofs.PortEvents.{visit_is, some_same}
use Rattle.abt_weave.proofs.OwnEvents.{IsDone, made_own}
use Rattle.abt_weave.proofs.Replays.{request_said, arrival_said}
use Rattle.abt_weave.specs.Candidates.{is_own_of}
use Rattle.abt_weave.proofs.Prefixes.{get_last}

-- what a step at the first port adds to the facts of the line
abbrev pub delivered_in : PortInput → List Fact
delivered_in (RequestIn request) = Delivered request.seq ∷ []
delivered_in other = []

abbrev pub delivered_by : Option Step → List Fact
delivered_by None = []
delivered_by (Some step) = delivered_in step.input

abbrev pub arrived_in : ℕ → PortInput → List Fact
arrived_in cell (ArriveIn vc at) = FactArrived cell at 0 Conforming ∷ []
arrived_in cell other = []

abbrev pub arrived_by : (cell : ℕ) → Option Step → List Fact
arrived_by cell None = []
arrived_by cell (Some step) = arrived_in cell step.input

-- the facts of the line after entries of its source, where the first port had these steps
abbrev pub lined : List Step → List Fact → List SourceEntry → List Fact
lined steps facts [] = facts
lined steps facts (Did event outcome ∷ entries) = lined steps (facts_added facts event outcome ++ facts) entries
lined steps facts (Sent place ∷ entries) = lined steps (delivered_by (slice_get steps place) ++ facts) entries
lined steps facts (ArrivedAt cell place ∷ entries) = lined steps (arrived_by cell (slice_get steps place) ++ facts) entries

lined-append : (steps : List Step) (facts : List Fact) (xs ys : List SourceEntry) → lined steps facts (xs ++ ys) ≡ lined steps (lined steps facts xs) ys
lined-append steps facts [] ys = refl
lined-append steps facts (Did event outcome ∷ xs) ys = lined-append steps (facts_added facts event outcome ++ facts) xs ys
lined-append steps facts (Sent place ∷ xs) ys = lined-append steps (delivered_by (slice_get steps place) ++ facts) xs ys
lined-append steps facts (ArrivedAt cell place ∷ xs) ys = lined-append steps (arrived_by cell (slice_get steps place) ++ facts) xs ys

-- the entry of an event, if it is one
abbrev as_list : Option SourceEntry → List SourceEntry
as_list None = []
as_list (Some entry) = entry ∷ []

-- the steps that the entries name are there
abbrev AreThere : List Step → List SourceEntry → Type 0
AreThere steps entries = (i n : ℕ) (x : SourceEntry) → slice_get entries i ≡ Some x → Names x n → n < length steps

kept_at : (steps later : List Step) (i : ℕ) → i < length steps → slice_get (steps ++ later) i ≡ slice_get steps i
kept_at [] later i low = absurd (omega (arith, low))
kept_at (step ∷ steps) later zero low = refl
kept_at (step ∷ steps) later (suc i) low = kept_at steps later i (omega (arith, low))

-- steps that come later change nothing of what the entries before them make
lined_later : (steps later : List Step) → (facts : List Fact) (entries : List SourceEntry) → AreThere steps entries → lined (steps ++ later) facts entries ≡ lined steps facts entries
lined_later steps later facts [] there = refl
lined_later steps later facts (Did event outcome ∷ entries) there = lined_later steps later (facts_added facts event outcome ++ facts) entries (λ i n x at names. there (suc i) n x at names)
lined_later steps later facts (Sent place ∷ entries) there =
    let same : slice_get (steps ++ later) place ≡ slice_get steps place = kept_at steps later place (there 0 place (Sent place) refl refl) in
    ap (λ (o : Option Step). lined (steps ++ later) (delivered_by o ++ facts) entries) same
    ∙ lined_later steps later (delivered_by (slice_get steps place) ++ facts) entries (λ i n x at names. there (suc i) n x at names)
lined_later steps later facts (ArrivedAt cell place ∷ entries) there =
    let same : slice_get (steps ++ later) place ≡ slice_get steps place = kept_at steps later place (there 0 place (ArrivedAt cell place) refl refl) in
    ap (λ (o : Option Step). lined (steps ++ later) (arrived_by cell o ++ facts) entries) same
    ∙ lined_later steps later (arrived_by cell (slice_get steps place) ++ facts) entries (λ i n x at names. there (suc i) n x at names)

-- what an event adds is the same of the facts of the line
line_written : (b : Bool) (kept : KeptRecord) → line (write_adds b kept) ≡ write_adds b kept
line_written true kept = refl
line_written false kept = refl

abbrev asked_adds : List Fact → (rate : ℕ) → Terms → List Fact
asked_adds facts rate request = FactAsked request.seq request.floor request.ask (emitted_of facts) ∷ write_adds (writes facts rate) (written_for facts rate)

line_asked : (facts : List Fact) (rate : ℕ) (request : Terms) → line (asked_adds facts rate request) ≡ asked_adds (line facts) rate request
line_asked facts rate request =
    ap (λ (l : List Fact). FactAsked request.seq request.floor request.ask (emitted_of facts) ∷ l) (line_written (writes facts rate) (written_for facts rate))
    ∙ ap (λ (n : ℕ). FactAsked request.seq request.floor request.ask n ∷ write_adds (writes facts rate) (written_for facts rate)) (sym (emitted_of-line facts))
    ∙ ap (λ (b : Bool). FactAsked request.seq request.floor request.ask (emitted_of (line facts)) ∷ write_adds b (written_for facts rate)) (sym (writes-line facts rate))
    ∙ ap (λ (r : KeptRecord). FactAsked request.seq request.floor request.ask (emitted_of (line facts)) ∷ write_adds (writes (line facts) rate) r) (sym (written_for-line facts rate))

line_delivered : (b : Bool) (seq : ℕ) → line (if b then Delivered seq ∷ [] else []) ≡ (if b then Delivered seq ∷ [] else [])
line_delivered true seq = refl
line_delivered false seq = refl

line_requested : (hop seq : ℕ) (onward : Onward) → line (request_adds hop seq onward) ≡ (if hop == 1 then Delivered seq ∷ [] else [])
line_requested hop seq Pass = line_delivered (hop == 1) seq
line_requested hop seq (Refuse answer) = line_delivered (hop == 1) seq
line_requested hop seq (Drop cause) = line_delivered (hop == 1) seq

line_answered : (hop seq : ℕ) (granted : Bool) (back : Back) → line (answer_adds hop seq granted back) ≡ []
line_answered hop seq true PassBack = refl
line_answered hop seq false PassBack = refl
line_answered hop seq true (DropBack cause) = refl
line_answered hop seq false (DropBack cause) = refl

not_first : (b : Bool) (x : SourceEntry) (seq : ℕ) → (if b then Some x else None) ≡ None → (if b then Delivered seq ∷ [] else []) ≡ []
not_first true x seq none = absurd (cc)
not_first false x seq none = refl

-- what leaves no entry adds nothing to the line
line_none : (facts : List Fact) (place : ℕ) (event : Event) (outcome : Outcome) → entry_of place event outcome ≡ None → line (facts_added facts event outcome) ≡ []
line_none facts place (Arrive c cell at) (Arrived verdict) none = absurd (cc)
line_none facts place (Arrive c cell at) other none = refl
line_none facts place (Request c hop seq) (Requested onward) none = line_requested hop seq onward ∙ not_first (hop == 1) (Sent place) seq none
line_none facts place (Request c hop seq) other none = refl
line_none facts place (Turn c seq) Turned none = refl
line_none facts place (Turn c seq) other none = refl
line_none facts place (Answer c hop seq granted) (Answered back) none = line_answered hop seq granted back
line_none facts place (Answer c hop seq granted) other none = refl
line_none facts place (Told c seq granted) (NotEnabled cause) none = refl
line_none facts place (Told c seq granted) (HasTold heard) none = absurd (cc)
line_none facts place (Told c seq granted) other none = refl
line_none facts place (Capacity p u) outcome none = refl
line_none facts place other outcome none = absurd (cc)

-- what a source did adds the same to the line
line_did : (facts : List Fact) (place : ℕ) (event : Event) (outcome : Outcome) (done : Event) (told : Outcome) → entry_of place event outcome ≡ Some (Did done told) → line (facts_added facts event outcome) ≡ facts_added (line facts) done told
line_did facts place event outcome done told made = did_is (made_own place event outcome done told made)
  where
    each : (d : ℕ) (event : Event) (outcome : Outcome) → is_own_of d event ≡ true → line (facts_added facts event outcome) ≡ facts_added (line facts) event outcome
    each d (Start c now) Started own = ap (λ (r : KeptRecord). FactStarted now r ∷ []) (sym (stored_of-line facts))
    each d (Ask c rate plan) (Asked request) own = line_asked facts rate request
    each d (Ask c rate FailsAfter) (AskRefused Keep) own = ap (λ (r : KeptRecord). Stored r ∷ []) (sym (written_for-line facts rate))
    each d (Crash c) Crashed own = refl
    each d (Emit c now) (Emitted cell next) own = ap (λ (n : ℕ). FactEmitted cell now n ∷ []) (sym (rate_of-line facts))
    each d (Told c seq granted) (HasTold Raised) own = refl
    each d (Arrive c cell at) outcome own = absurd (false≢true own)
    each d (Request c hop seq) outcome own = absurd (false≢true own)
    each d (Turn c seq) outcome own = absurd (false≢true own)
    each d (Answer c hop seq granted) outcome own = absurd (false≢true own)
    each d event outcome own = refl

    did_is : IsDone event outcome done told → line (facts_added facts event outcome) ≡ facts_added (line facts) done told
    did_is its = each its.c event outcome its.own ∙ ap (λ e. facts_added (line facts) e outcome) (sym its.event_is) ∙ ap (facts_added (line facts) done) (sym its.outcome_is)

stepped : (net : Topology) (earlier : List Event) (event : Event) (v : Visit) (p : ℕ) → visit net (past_of net earlier) event ≡ Some v → v.port ≡ p →
    slice_get (steps_on net p (event ∷ earlier)) (length (steps_on net p earlier)) ≡ Some (record { place = length (steps_on net p earlier); input = v.input; reply = v.reply })
stepped net earlier event v p is here = subst (λ q. slice_get (steps_on net q (event ∷ earlier)) (length (steps_on net q earlier)) ≡ Some (record { place = length (steps_on net q earlier); input = v.input; reply = v.reply })) here
    (ap (λ l. slice_get l (length (steps_on net v.port earlier))) (step_made net earlier event v is) ∙ get_last (steps_on net v.port earlier) _)

-- what an event that leaves an entry adds to the line
line_entry : (net : Topology) → IsWithinRules net → (earlier : List Event) (c : ℕ) (conn : Conn) (event : Event) (x : SourceEntry) → conn_at net c ≡ Some conn → conn_of event ≡ Some c → entry_made net earlier event ≡ Some x →
    line (facts_added (facts_of c (past_of net earlier)) event (outcome_of net (past_of net earlier) event)) ++ line (facts_of c (past_of net earlier))
    ≡ lined (steps_on net (slice_index conn.path 0) (event ∷ earlier)) (line (facts_of c (past_of net earlier))) (x ∷ [])
line_entry net rules earlier c conn event (Did done told) known whose made =
    ap (λ (l : List Fact). l ++ line (facts_of c (past_of net earlier))) (line_did (facts_of c (past_of net earlier)) (place_at_first net earlier event) event (outcome_of net (past_of net earlier) event) done told made)
line_entry net rules earlier c conn (Request d hop seq) (Sent place) known whose made =
    let event = Request d hop seq in
    let facts = facts_of c (past_of net earlier) in
    let p = slice_index conn.path 0 in
    let named = named_now net rules earlier c conn event (Sent place) place known whose made refl in
    let v = named.1.v in
    let said = request_said net (past_of net earlier) d hop seq v named.1.visits in
    let parts = visit_is net (past_of net earlier) event v d refl named.1.visits in
    let input = some_same parts.input in
    let both = cond_some (is_enabled (outcome_of net (past_of net earlier) event) && hop == 1) (Some (Sent (place_at_first net earlier event))) (Sent place) made in
    let one = (and_both (is_enabled (outcome_of net (past_of net earlier) event)) (hop == 1) both.0).1 in
    let at = stepped net earlier event v p named.1.visits named.1.first in
    ap (λ o. line (facts_added facts event o) ++ line facts) said.1
    ∙ ap (λ (l : List Fact). l ++ line facts) (line_requested hop seq said.0 ∙ cond-true _ _ _ one)
    ∙ ap (λ i. delivered_in i ++ line facts) input
    ∙ ap (λ (o : Option Step). delivered_by o ++ line facts) (sym at)
    ∙ ap (λ n. delivered_by (slice_get (steps_on net p (event ∷ earlier)) n) ++ line facts) (sym named.0)
line_entry net rules earlier c conn (Arrive d cell a) (ArrivedAt other place) known whose made =
    let event = Arrive d cell a in
    let facts = facts_of c (past_of net earlier) in
    let p = slice_index conn.path 0 in
    let named = named_now net rules earlier c conn event (ArrivedAt other place) place known whose made refl in
    let v = named.1.v in
    let said = arrival_said net (past_of net earlier) d cell a v named.1.visits in
    let parts = visit_is net (past_of net earlier) event v d refl named.1.visits in
    let input = some_same parts.input in
    let both = cond_some (is_enabled (outcome_of net (past_of net earlier) event)) (Some (ArrivedAt cell (place_at_first net earlier event))) (ArrivedAt other place) made in
    let cells : cell ≡ other = (let e = some_same both.1 in cc) in
    let at = stepped net earlier event v p named.1.visits named.1.first in
    let moment : arrived_in cell v.input ≡ FactArrived cell a 0 Conforming ∷ [] = ap (arrived_in cell) (sym input) in
    ap (λ o. line (facts_added facts event o) ++ line facts) said.1
    ∙ ap (λ (l : List Fact). l ++ line facts) (sym moment)
    ∙ ap (λ (o : Option Step). arrived_by cell o ++ line facts) (sym at)
    ∙ ap (λ n. arrived_by cell (slice_get (steps_on net p (event ∷ earlier)) n) ++ line facts) (sym named.0)
    ∙ ap (λ k. arrived_by k (slice_get (steps_on net p (event ∷ earlier)) place) ++ line facts) cells
line_entry net rules earlier c conn (Arrive d cell a) (Sent place) known whose made =
    let both = cond_some (is_enabled (outcome_of net (past_of net earlier) (Arrive d cell a))) (Some (ArrivedAt cell (place_at_first net earlier (Arrive d cell a)))) (Sent place) made in let e = some_same both.1 in absurd (cc)
line_entry net rules earlier c conn (Request d hop seq) (ArrivedAt cell place) known whose made =
    let both = cond_some (is_enabled (outcome_of net (past_of net earlier) (Request d hop seq)) && hop == 1) (Some (Sent (place_at_first net earlier (Request d hop seq)))) (ArrivedAt cell place) made in let e = some_same both.1 in absurd (cc)
line_entry net rules earlier c conn (Told d seq granted) (Sent place) known whose made =
    let o = outcome_of net (past_of net earlier) (Told d seq granted) in let both = cond_some (is_enabled o) (Some (Did (Told d seq granted) o)) (Sent place) made in let e = some_same both.1 in absurd (cc)
line_entry net rules earlier c conn (Told d seq granted) (ArrivedAt cell place) known whose made =
    let o = outcome_of net (past_of net earlier) (Told d seq granted) in let both = cond_some (is_enabled o) (Some (Did (Told d seq granted) o)) (ArrivedAt cell place) made in let e = some_same both.1 in absurd (cc)
line_entry net rules earlier c conn other (Sent place) known whose made = absurd (cc)
line_entry net rules earlier c conn other (ArrivedAt cell place) known whose made = absurd (cc)

-- the facts of a line are those that the two projections make
pub line_replayed : (net : Topology) → IsWithinRules net → (c : ℕ) (conn : Conn) → conn_at net c ≡ Some conn → (earlier : List Event) →
    line (facts_of c (past_of net earlier)) ≡ lined (steps_on net (slice_index conn.path 0) earlier) [] (entries_on net c earlier)
line_replayed net rules c conn known [] = refl
line_replayed net rules c conn known (event ∷ earlier) =
    let past = past_of net earlier in
    let facts = facts_of c past in
    let p = slice_index conn.path 0 in
    let steps = steps_on net p earlier in
    let later = step_at p (length steps) (visit net past event) in
    let entries = entries_on net c earlier in
    let there : AreThere steps entries = λ i n x at names. named_low net rules c conn known earlier i n x at names in
    let before : line facts ≡ lined (steps ++ later) [] entries = line_replayed net rules c conn known earlier ∙ sym (lined_later steps later [] entries there) in
    elim (conn_cases event c) [
      | inr differ ↦ ap line (facts_of-other net past event c differ) ∙ before ∙ ap (lined (steps ++ later) []) (sym (entries_other net earlier event c differ))
      | inl same ↦ (
          let outcome = outcome_of net past event in
          let now : line (facts_of c (after_event net past event)) ≡ line (facts_added facts event outcome) ++ line facts =
          ap line (facts_of-own net past event c same) ∙ line-append (facts_added facts event outcome) facts in
          elim (cases_option (entry_made net earlier event)) [
            | inl none ↦ now ∙ ap (λ (l : List Fact). l ++ line facts) (line_none facts (place_at_first net earlier event) event outcome none) ∙ before
                ∙ ap (lined (steps ++ later) []) (sym (entries_none net earlier event c none))
            | inr some ↦ now ∙ line_entry net rules earlier c conn event some.0 known same some.1
                ∙ ap (λ (l : List Fact). lined (steps ++ later) l (some.0 ∷ [])) before
                ∙ sym (lined-append (steps ++ later) [] entries (some.0 ∷ []))
                ∙ ap (lined (steps ++ later) []) (sym (entries_made net earlier event c some.0 some.1 same))
          ])
    ]
