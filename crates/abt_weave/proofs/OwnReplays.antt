-- A source after events is the one that did what its projection says.
use Rattle.std.proofs.Common.{◌≡◌, ℕ, inl, inr, refl, ap, Bool, true, false, List, [], ◌∷◌, ◌++◌, ◌∙◌, sym, Option, None, Some}
use Rattle.std.specs.Prelude.{◌+◌, ◌==◌, ◌&&◌, if◌then◌else◌}
use Rattle.std.proofs.lemmas.Bool.{cond-true, eq-eqb}
use Rattle.abt_cell.specs.Message.{Terms}
use Rattle.abt_net.specs.Topology.{Topology}
use Rattle.abt_keep.specs.Record.{KeptRecord}
use Rattle.abt_keep.specs.declared.plan.StorePlan.TheVariants.{FailsAfter}
use Rattle.abt_node.specs.declared.reply.Onward.{Onward}
use Rattle.abt_node.specs.declared.reply.Onward.TheVariants.{Pass, Refuse, Drop}
use Rattle.abt_node.specs.declared.reply.Back.{Back}
use Rattle.abt_node.specs.declared.reply.Back.TheVariants.{Pass as PassBack, Drop as DropBack}
use Rattle.abt_source.specs.declared.fault.AskFault.TheVariants.{Keep}
use Rattle.abt_facts.specs.declared.fact.Fact.{Fact}
use Rattle.abt_facts.specs.declared.fact.Fact.TheVariants.{Started as FactStarted, Stored, Asked as FactAsked, Emitted as FactEmitted, Delivered}
use Rattle.abt_facts.specs.Source.{writes, written_for}
use Rattle.abt_facts.specs.Cells.{emitted_of}
use Rattle.abt_model.specs.declared.event.Event.{Event}
use Rattle.abt_model.specs.declared.event.Event.TheVariants.{Start, Ask, Crash, Emit, Arrive, Request, Turn, Answer, Told}
use Rattle.abt_model.specs.declared.outcome.Heard.TheVariants.{Raised}
use Rattle.abt_model.specs.declared.outcome.Outcome.{Outcome}
use Rattle.abt_model.specs.declared.outcome.Outcome.TheVariants.{Started, Asked, AskRefused, Crashed, Emitted, Arrived, Requested, Turned, Answered, Told as HasTold}
use Rattle.abt_model.specs.Outcomes.{conn_of, outcome_of, facts_added, after_event, request_adds, answer_adds, write_adds}
use Rattle.abt_model.specs.Past.{facts_of}
use Rattle.abt_model.proofs.Worlds.{conn_cases, facts_of-own, facts_of-other}
use Rattle.abt_model.specs.declared.entry.SourceEntry.{SourceEntry}
use Rattle.abt_model.specs.declared.entry.SourceEntry.TheVariants.{Did, Sent, Arrived as ArrivedAt}
use Rattle.abt_weave.specs.Projections.{is_enabled, past_of, entry_of, entry_made, place_at_first, entry_at, entries_on}
use Rattle.abt_weave.proofs.AskedRates.{other_same}
use Rattle.abt_weave.specs.Leaving.{facts_done}
use Rattle.abt_weave.proofs.OwnFacts.{own, own-append, stored_of-own, rate_of-own, emitted_of-own, writes-own, written_for-own}

-- the entry of an event, if it is one
abbrev as_list : Option SourceEntry → List SourceEntry
as_list None = []
as_list (Some entry) = entry ∷ []

pub done-append : (facts : List Fact) (xs ys : List SourceEntry) → facts_done facts (xs ++ ys) ≡ facts_done (facts_done facts xs) ys
done-append facts [] ys = refl
done-append facts (Did event outcome ∷ xs) ys = done-append (facts_added facts event outcome ++ facts) xs ys
done-append facts (Sent place ∷ xs) ys = done-append facts xs ys
done-append facts (ArrivedAt cell place ∷ xs) ys = done-append facts xs ys

own_delivered : (b : Bool) (seq : ℕ) → own (if b then Delivered seq ∷ [] else []) ≡ []
own_delivered true seq = refl
own_delivered false seq = refl

own_requested : (hop seq : ℕ) (onward : Onward) → own (request_adds hop seq onward) ≡ []
own_requested hop seq Pass = own_delivered (hop == 1) seq
own_requested hop seq (Refuse answer) = own_delivered (hop == 1) seq
own_requested hop seq (Drop cause) = own_delivered (hop == 1) seq

own_answered : (hop seq : ℕ) (granted : Bool) (back : Back) → own (answer_adds hop seq granted back) ≡ []
own_answered hop seq true PassBack = refl
own_answered hop seq false PassBack = refl
own_answered hop seq true (DropBack cause) = refl
own_answered hop seq false (DropBack cause) = refl

sent_adds : (b : Bool) (place : ℕ) (facts : List Fact) → facts_done facts (as_list (if b then Some (Sent place) else None)) ≡ facts
sent_adds true place facts = refl
sent_adds false place facts = refl

arrived_adds : (b : Bool) (cell place : ℕ) (facts : List Fact) → facts_done facts (as_list (if b then Some (ArrivedAt cell place) else None)) ≡ facts
arrived_adds true cell place facts = refl
arrived_adds false cell place facts = refl

own_written : (b : Bool) (kept : KeptRecord) → own (write_adds b kept) ≡ write_adds b kept
own_written true kept = refl
own_written false kept = refl

-- what a request adds
abbrev asked_adds : List Fact → (rate : ℕ) → Terms → List Fact
asked_adds facts rate request = FactAsked request.seq request.floor request.ask (emitted_of facts) ∷ write_adds (writes facts rate) (written_for facts rate)

added_same : (facts : List Fact) (rate : ℕ) (request : Terms) → asked_adds facts rate request ≡ asked_adds (own facts) rate request
added_same facts rate request =
    ap (λ (n : ℕ). FactAsked request.seq request.floor request.ask n ∷ write_adds (writes facts rate) (written_for facts rate)) (sym (emitted_of-own facts))
    ∙ ap (λ (b : Bool). FactAsked request.seq request.floor request.ask (emitted_of (own facts)) ∷ write_adds b (written_for facts rate)) (sym (writes-own facts rate))
    ∙ ap (λ (r : KeptRecord). FactAsked request.seq request.floor request.ask (emitted_of (own facts)) ∷ write_adds (writes (own facts) rate) r) (sym (written_for-own facts rate))

own_asked : (facts : List Fact) (rate : ℕ) (request : Terms) → own (asked_adds facts rate request) ≡ asked_adds (own facts) rate request
own_asked facts rate request =
    ap (λ (l : List Fact). FactAsked request.seq request.floor request.ask (emitted_of facts) ∷ l) (own_written (writes facts rate) (written_for facts rate)) ∙ added_same facts rate request

-- what is the source's own of what an event adds is what its entry makes of what is its own
own_alike : (facts : List Fact) (place : ℕ) (event : Event) (outcome : Outcome) →
    own (facts_added facts event outcome) ++ own facts ≡ facts_done (own facts) (as_list (entry_of place event outcome))
own_alike facts place (Start c now) Started = ap (λ (r : KeptRecord). FactStarted now r ∷ own facts) (sym (stored_of-own facts))
own_alike facts place (Ask c rate plan) (Asked request) = ap (λ (l : List Fact). l ++ own facts) (own_asked facts rate request)
own_alike facts place (Ask c rate FailsAfter) (AskRefused Keep) = ap (λ (r : KeptRecord). Stored r ∷ own facts) (sym (written_for-own facts rate))
own_alike facts place (Crash c) Crashed = refl
own_alike facts place (Emit c now) (Emitted cell next) = ap (λ (n : ℕ). FactEmitted cell now n ∷ own facts) (sym (rate_of-own facts))
own_alike facts place (Arrive c cell at) (Arrived verdict) = refl
own_alike facts place (Arrive c cell at) other = sym (arrived_adds (is_enabled other) cell place (own facts))
own_alike facts place (Request c hop seq) (Requested onward) = ap (λ (l : List Fact). l ++ own facts) (own_requested hop seq onward) ∙ sym (sent_adds (hop == 1) place (own facts))
own_alike facts place (Request c hop seq) other = sym (sent_adds (is_enabled other && hop == 1) place (own facts))
own_alike facts place (Turn c seq) Turned = refl
own_alike facts place (Answer c hop seq granted) (Answered back) = ap (λ (l : List Fact). l ++ own facts) (own_answered hop seq granted back)
own_alike facts place (Told c seq granted) (HasTold Raised) = refl
own_alike facts place event outcome = refl

-- an entry of the source's own stands in its projection
made_own : (own : Option ℕ) (c : ℕ) (o : Option SourceEntry) → own ≡ Some c → entry_at own c o ≡ as_list o
made_own own c None same = refl
made_own own c (Some x) same = ap (λ (d : Option ℕ). entry_at d c (Some x)) same ∙ cond-true _ _ _ (eq-eqb c c refl)

pub own_replayed : (net : Topology) (c : ℕ) (earlier : List Event) → own (facts_of c (past_of net earlier)) ≡ facts_done [] (entries_on net c earlier)
own_replayed net c [] = refl
own_replayed net c (event ∷ earlier) = elim (conn_cases event c) [
  | inl same ↦ (
      let past = past_of net earlier in
      let outcome = outcome_of net past event in
      let made = entry_made net earlier event in
      let facts : facts_of c (after_event net past event) ≡ facts_added (facts_of c past) event outcome ++ facts_of c past =
      facts_of-own net past event c same in
      ap own facts
      ∙ own-append (facts_added (facts_of c past) event outcome) (facts_of c past)
      ∙ own_alike (facts_of c past) (place_at_first net earlier event) event outcome
      ∙ ap (λ (fs : List Fact). facts_done fs (as_list made)) (own_replayed net c earlier)
      ∙ sym (done-append [] (entries_on net c earlier) (as_list made))
      ∙ ap (λ (l : List SourceEntry). facts_done [] (entries_on net c earlier ++ l)) (sym (made_own (conn_of event) c made same)))
  | inr differ ↦
      ap own (facts_of-other net (past_of net earlier) event c differ)
      ∙ own_replayed net c earlier
      ∙ ap (facts_done []) (sym (other_same (conn_of event) c (entries_on net c earlier) differ (entry_made net earlier event)))
]
