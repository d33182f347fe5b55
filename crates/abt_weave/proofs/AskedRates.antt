-- The facts of a connection have the requests that its source's projection has.
use Rattle.std.proofs.Common.{◌≡◌, ◌≢◌, ℕ, inl, inr, refl, ap, Bool, true, false, List, [], ◌∷◌, ◌++◌, ◌∙◌, sym, Option, None, Some, reverse}
use Rattle.std.specs.Prelude.{◌==◌, ◌&&◌, if◌then◌else◌}
use Rattle.std.proofs.lemmas.Bool.{cond-false, cond-true, eq-eqb, ne_eqb}
use Rattle.std.proofs.lemmas.List.{reverse-append, append-nil}
use Rattle.abt_net.specs.Topology.{Topology}
use Rattle.abt_keep.specs.declared.plan.StorePlan.TheVariants.{FailsAfter}
use Rattle.abt_node.specs.declared.reply.Onward.{Onward}
use Rattle.abt_node.specs.declared.reply.Onward.TheVariants.{Pass, Refuse, Drop}
use Rattle.abt_node.specs.declared.reply.Back.{Back}
use Rattle.abt_node.specs.declared.reply.Back.TheVariants.{Pass as PassBack, Drop as DropBack}
use Rattle.abt_source.specs.declared.fault.AskFault.TheVariants.{Keep}
use Rattle.abt_facts.specs.declared.fact.Fact.{Fact}
use Rattle.abt_facts.specs.declared.fact.Fact.TheVariants.{Delivered}
use Rattle.abt_facts.specs.Requests.{floor_of, ask_of}
use Rattle.abt_facts.specs.Source.{writes, written_for}
use Rattle.abt_keep.specs.Record.{KeptRecord}
use Rattle.abt_model.specs.declared.event.Event.{Event}
use Rattle.abt_model.specs.declared.event.Event.TheVariants.{Start, Ask, Crash, Emit, Arrive, Request, Turn, Answer, Told}
use Rattle.abt_model.specs.declared.outcome.Heard.TheVariants.{Raised}
use Rattle.abt_model.specs.declared.outcome.Outcome.{Outcome}
use Rattle.abt_model.specs.declared.outcome.Outcome.TheVariants.{Started, Asked, AskRefused, Crashed, Emitted, Arrived, Requested, Turned, Answered, Told as HasTold}
use Rattle.abt_model.specs.Outcomes.{conn_of, outcome_of, facts_added, after_event, request_adds, answer_adds, write_adds}
use Rattle.abt_model.specs.Past.{facts_of}
use Rattle.abt_model.proofs.Worlds.{conn_cases, facts_of-own, facts_of-other}
use Rattle.abt_model.specs.declared.entry.SourceEntry.{SourceEntry}
use Rattle.abt_model.specs.declared.entry.SourceEntry.TheVariants.{Sent}
use Rattle.abt_weave.specs.Projections.{is_enabled, past_of, entry_of, entry_made, place_at_first, entry_at, entries_on}
use Rattle.abt_weave.specs.Asked.{floor_in, ask_in}

-- the entry of an event, if it is one
abbrev as_list : Option SourceEntry → List SourceEntry
as_list None = []
as_list (Some entry) = entry ∷ []

reversed : (own : Option ℕ) (c : ℕ) (entries : List SourceEntry) → own ≡ Some c → (o : Option SourceEntry) → reverse (entries ++ entry_at own c o) ≡ as_list o ++ reverse entries
reversed own c entries same None = ap (λ (l : List SourceEntry). reverse l) (append-nil entries)
reversed own c entries same (Some x) =
    ap (λ (d : Option ℕ). reverse (entries ++ entry_at d c (Some x))) same
    ∙ ap (λ (l : List SourceEntry). reverse (entries ++ l)) (cond-true _ _ _ (eq-eqb c c refl)) ∙ reverse-append entries (x ∷ [])

pub other_same : (own : Option ℕ) (c : ℕ) (entries : List SourceEntry) → own ≢ Some c → (o : Option SourceEntry) → entries ++ entry_at own c o ≡ entries
other_same own c entries differ None = append-nil entries
other_same None c entries differ (Some x) = append-nil entries
other_same (Some d) c entries differ (Some x) = ap (λ (l : List SourceEntry). entries ++ l) (cond-false _ _ _ (ne_eqb d c (λ same. differ (ap Some same)))) ∙ append-nil entries

-- where facts and entries say the same floors, they do so after what an event adds
floor_sent : (b : Bool) (place : ℕ) (entries : List SourceEntry) (s : ℕ) → floor_in entries s ≡ floor_in (as_list (if b then Some (Sent place) else None) ++ entries) s
floor_sent true place entries s = refl
floor_sent false place entries s = refl

floor_delivered : (b : Bool) (seq : ℕ) (facts : List Fact) (s : ℕ) → floor_of ((if b then Delivered seq ∷ [] else []) ++ facts) s ≡ floor_of facts s
floor_delivered true seq facts s = refl
floor_delivered false seq facts s = refl

floor_requested : (facts : List Fact) (hop seq : ℕ) (onward : Onward) (s : ℕ) → floor_of (request_adds hop seq onward ++ facts) s ≡ floor_of facts s
floor_requested facts hop seq Pass s = floor_delivered (hop == 1) seq facts s
floor_requested facts hop seq (Refuse answer) s = floor_delivered (hop == 1) seq facts s
floor_requested facts hop seq (Drop cause) s = floor_delivered (hop == 1) seq facts s

floor_written : (b : Bool) (kept : KeptRecord) (facts : List Fact) (s : ℕ) → floor_of (write_adds b kept ++ facts) s ≡ floor_of facts s
floor_written true kept facts s = refl
floor_written false kept facts s = refl

floor_answered : (facts : List Fact) (hop seq : ℕ) (granted : Bool) (back : Back) (s : ℕ) → floor_of (answer_adds hop seq granted back ++ facts) s ≡ floor_of facts s
floor_answered facts hop seq true PassBack s = refl
floor_answered facts hop seq false PassBack s = refl
floor_answered facts hop seq true (DropBack cause) s = refl
floor_answered facts hop seq false (DropBack cause) s = refl

floor_alike : (facts : List Fact) (entries : List SourceEntry) (place s : ℕ) → floor_of facts s ≡ floor_in entries s → (event : Event) (outcome : Outcome) →
    floor_of (facts_added facts event outcome ++ facts) s ≡ floor_in (as_list (entry_of place event outcome) ++ entries) s
floor_alike facts entries place s h (Start c now) Started = h
floor_alike facts entries place s h (Ask c rate plan) (Asked request) = ap (λ n. if request.seq == s then request.floor else n) (floor_written (writes facts rate) (written_for facts rate) facts s ∙ h)
floor_alike facts entries place s h (Ask c rate FailsAfter) (AskRefused Keep) = h
floor_alike facts entries place s h (Crash c) Crashed = h
floor_alike facts entries place s h (Emit c now) (Emitted cell next) = h
floor_alike facts entries place s h (Arrive c cell at) (Arrived verdict) = h
floor_alike facts entries place s h (Request c hop seq) (Requested onward) = floor_requested facts hop seq onward s ∙ h ∙ floor_sent (hop == 1) place entries s
floor_alike facts entries place s h (Request c hop seq) other = h ∙ floor_sent (is_enabled other && hop == 1) place entries s
floor_alike facts entries place s h (Turn c seq) Turned = h
floor_alike facts entries place s h (Answer c hop seq granted) (Answered back) = floor_answered facts hop seq granted back s ∙ h
floor_alike facts entries place s h (Told c seq granted) (HasTold Raised) = h
floor_alike facts entries place s h event outcome = h

-- the floor of a number by the facts of a connection is that by its source's projection
pub floor_told : (net : Topology) (c s : ℕ) (earlier : List Event) → floor_of (facts_of c (past_of net earlier)) s ≡ floor_in (reverse (entries_on net c earlier)) s
floor_told net c s [] = refl
floor_told net c s (event ∷ earlier) = elim (conn_cases event c) [
  | inl same ↦ (
      ap (λ (l : List Fact). floor_of l s) (facts_of-own net (past_of net earlier) event c same)
      ∙ floor_alike (facts_of c (past_of net earlier)) (reverse (entries_on net c earlier)) (place_at_first net earlier event) s (floor_told net c s earlier) event (outcome_of net (past_of net earlier) event)
      ∙ ap (λ (l : List SourceEntry). floor_in l s) (sym (reversed (conn_of event) c (entries_on net c earlier) same (entry_made net earlier event))))
  | inr differ ↦
      ap (λ (l : List Fact). floor_of l s) (facts_of-other net (past_of net earlier) event c differ)
      ∙ floor_told net c s earlier
      ∙ ap (λ (l : List SourceEntry). floor_in (reverse l) s) (sym (other_same (conn_of event) c (entries_on net c earlier) differ (entry_made net earlier event)))
]

-- where facts and entries say the same asked rates, they do so after what an event adds
ask_sent : (b : Bool) (place : ℕ) (entries : List SourceEntry) (s : ℕ) → ask_in entries s ≡ ask_in (as_list (if b then Some (Sent place) else None) ++ entries) s
ask_sent true place entries s = refl
ask_sent false place entries s = refl

ask_delivered : (b : Bool) (seq : ℕ) (facts : List Fact) (s : ℕ) → ask_of ((if b then Delivered seq ∷ [] else []) ++ facts) s ≡ ask_of facts s
ask_delivered true seq facts s = refl
ask_delivered false seq facts s = refl

ask_requested : (facts : List Fact) (hop seq : ℕ) (onward : Onward) (s : ℕ) → ask_of (request_adds hop seq onward ++ facts) s ≡ ask_of facts s
ask_requested facts hop seq Pass s = ask_delivered (hop == 1) seq facts s
ask_requested facts hop seq (Refuse answer) s = ask_delivered (hop == 1) seq facts s
ask_requested facts hop seq (Drop cause) s = ask_delivered (hop == 1) seq facts s

ask_written : (b : Bool) (kept : KeptRecord) (facts : List Fact) (s : ℕ) → ask_of (write_adds b kept ++ facts) s ≡ ask_of facts s
ask_written true kept facts s = refl
ask_written false kept facts s = refl

ask_answered : (facts : List Fact) (hop seq : ℕ) (granted : Bool) (back : Back) (s : ℕ) → ask_of (answer_adds hop seq granted back ++ facts) s ≡ ask_of facts s
ask_answered facts hop seq true PassBack s = refl
ask_answered facts hop seq false PassBack s = refl
ask_answered facts hop seq true (DropBack cause) s = refl
ask_answered facts hop seq false (DropBack cause) s = refl

ask_alike : (facts : List Fact) (entries : List SourceEntry) (place s : ℕ) → ask_of facts s ≡ ask_in entries s → (event : Event) (outcome : Outcome) →
    ask_of (facts_added facts event outcome ++ facts) s ≡ ask_in (as_list (entry_of place event outcome) ++ entries) s
ask_alike facts entries place s h (Start c now) Started = h
ask_alike facts entries place s h (Ask c rate plan) (Asked request) = ap (λ n. if request.seq == s then request.ask else n) (ask_written (writes facts rate) (written_for facts rate) facts s ∙ h)
ask_alike facts entries place s h (Ask c rate FailsAfter) (AskRefused Keep) = h
ask_alike facts entries place s h (Crash c) Crashed = h
ask_alike facts entries place s h (Emit c now) (Emitted cell next) = h
ask_alike facts entries place s h (Arrive c cell at) (Arrived verdict) = h
ask_alike facts entries place s h (Request c hop seq) (Requested onward) = ask_requested facts hop seq onward s ∙ h ∙ ask_sent (hop == 1) place entries s
ask_alike facts entries place s h (Request c hop seq) other = h ∙ ask_sent (is_enabled other && hop == 1) place entries s
ask_alike facts entries place s h (Turn c seq) Turned = h
ask_alike facts entries place s h (Answer c hop seq granted) (Answered back) = ask_answered facts hop seq granted back s ∙ h
ask_alike facts entries place s h (Told c seq granted) (HasTold Raised) = h
ask_alike facts entries place s h event outcome = h

-- the ask of a number by the facts of a connection is that by its source's projection
pub ask_told : (net : Topology) (c s : ℕ) (earlier : List Event) → ask_of (facts_of c (past_of net earlier)) s ≡ ask_in (reverse (entries_on net c earlier)) s
ask_told net c s [] = refl
ask_told net c s (event ∷ earlier) = elim (conn_cases event c) [
  | inl same ↦ (
      ap (λ (l : List Fact). ask_of l s) (facts_of-own net (past_of net earlier) event c same)
      ∙ ask_alike (facts_of c (past_of net earlier)) (reverse (entries_on net c earlier)) (place_at_first net earlier event) s (ask_told net c s earlier) event (outcome_of net (past_of net earlier) event)
      ∙ ap (λ (l : List SourceEntry). ask_in l s) (sym (reversed (conn_of event) c (entries_on net c earlier) same (entry_made net earlier event))))
  | inr differ ↦
      ap (λ (l : List Fact). ask_of l s) (facts_of-other net (past_of net earlier) event c differ)
      ∙ ask_told net c s earlier
      ∙ ap (λ (l : List SourceEntry). ask_in (reverse l) s) (sym (other_same (conn_of event) c (entries_on net c earlier) differ (entry_made net earlier event)))
]
