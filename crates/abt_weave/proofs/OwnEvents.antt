-- What a source does, and is told.
use Rattle.std.proofs.Common.{◌≡◌, ◌≢◌, ℕ, inl, inr, refl, ap, Bool, true, false, List, [], ◌++◌, length, ◌∙◌, sym, subst, Option, None, Some}
use Rattle.std.specs.Prelude.{◌==◌, ◌&&◌, ◌||◌, ◌-◌, not, if◌then◌else◌, slice_get, slice_index, option_map}
use Rattle.std.proofs.lemmas.Bool.{cond-true, eq-eqb, eqb-true, false≢true}
use Rattle.abt_cell.specs.Channel.{Channel}
use Rattle.abt_cell.specs.Message.{Terms}
use Rattle.abt_source.specs.SourceFacts.{request_of}
use Rattle.abt_net.specs.declared.conn.Conn.{Conn}
use Rattle.abt_net.specs.Topology.{Topology, conn_at}
use Rattle.abt_facts.specs.declared.fact.Fact.{Fact}
use Rattle.abt_model.specs.declared.event.Event.{Event}
use Rattle.abt_model.specs.declared.target.SourceEvent.{SourceEvent}
use Rattle.abt_model.specs.declared.target.HopEvent.{HopEvent}
use Rattle.abt_model.specs.declared.target.HopEvent.TheVariants as hop
use Rattle.abt_model.specs.declared.target.Target.{Target}
use Rattle.abt_model.specs.declared.target.Target.TheVariants.{Source, Hop, End, Port}
use Rattle.abt_model.specs.declared.outcome.Outcome.{Outcome}
use Rattle.abt_model.specs.Outcomes.{conn_of, outcome_of}
use Rattle.abt_journal.specs.declared.input.PortInput.{PortInput}
use Rattle.abt_journal.specs.declared.input.PortReply.{PortReply}
use Rattle.abt_model.specs.declared.entry.SourceEntry.{SourceEntry}
use Rattle.abt_model.specs.declared.entry.SourceEntry.TheVariants.{Did, Sent}
use Rattle.abt_model.specs.Past.{Past, facts_of}
use Rattle.abt_model.specs.Targets.{target_of, event_at, event_at_source, conn_in}
use Rattle.abt_model.proofs.Targets.{event_there}
use Rattle.abt_model.specs.PortTable.{hop_visited}
use Rattle.abt_weave.specs.Projections.{Visit, reply_of, is_enabled, is_told_by, input_in, input_of, visit_by, visit_of, visit, entry_by, entry_in, entry_of, place_at_first, past_of, entry_made}
use Rattle.abt_weave.specs.Stuck.{RunJournals, source_journal, next_entry, Fits, AreTurns}
use Rattle.abt_weave.proofs.Turns.{outcome_turns, entries_turns}
use Rattle.abt_weave.specs.Candidates.{is_at_source, is_own_of, is_told_in, is_told}
use Rattle.abt_weave.specs.Progress.{IsSourceSettled}

-- an event of a connection that brings nothing to a port comes to none
unvisited_at : (event : Event) → ((conn : Conn) (facts : List Fact) → input_of conn.vc facts event ≡ None) → (r : Option PortReply) (facts : List Fact) (o : Option Conn) → visit_by event r facts o ≡ None
unvisited_at event none r facts None = refl
unvisited_at event none None facts (Some conn) = refl
unvisited_at event none (Some reply) facts (Some conn) =
    ap (option_map (λ (input : PortInput). let v : Visit = record { port = slice_index conn.path (hop_visited event - 1); input = input; reply = reply } in v)) (none conn facts)

pub unvisited_by : (net : Topology) (past : Past) (event : Event) (c : ℕ) → conn_of event ≡ Some c → ((conn : Conn) (facts : List Fact) → input_of conn.vc facts event ≡ None) → visit net past event ≡ None
unvisited_by net past event c whose none =
    ap (visit_of net past event (reply_of (outcome_of net past event))) whose
    ∙ unvisited_at event none (reply_of (outcome_of net past event)) (facts_of c past) (conn_at net c)

pub own_input : (c : ℕ) (t : Target) → is_at_source c t ≡ true → (vc : Channel) (request : ℕ → Terms) → input_in vc request t ≡ None
own_input c (Source d x) h vc request = refl
own_input c other h vc request = absurd (false≢true h)

own_number : (c : ℕ) (t : Target) → is_at_source c t ≡ true → conn_in t ≡ Some c
own_number c (Source d x) h = ap Some (eqb-true d c h)
own_number c other h = absurd (false≢true h)

pub own_conn : (c : ℕ) (event : Event) → is_own_of c event ≡ true → conn_of event ≡ Some c
own_conn c event h = own_number c (target_of event) h

-- it comes to no port
pub own_visit : (net : Topology) (past : Past) (c : ℕ) (event : Event) → is_own_of c event ≡ true → visit net past event ≡ None
own_visit net past c event own = unvisited_by net past event c (own_conn c event own) (λ conn facts. own_input c (target_of event) own conn.vc (request_of conn.vc facts))

pub some_is : (e d : ℕ) → Some e ≡ Some d → e ≡ d
some_is e d same = cc

-- a source's own event is of no other connection
own_is : (c d : ℕ) (event : Event) → is_own_of c event ≡ true → conn_of event ≡ Some d → d ≡ c
own_is c d event own whose = some_is d c (sym whose ∙ own_conn c event own)

pub own_here : (c d : ℕ) (event : Event) → is_own_of c event ≡ true → conn_of event ≡ Some d → is_own_of d event ≡ true
own_here c d event own whose = subst (λ n. is_own_of n event ≡ true) (sym (own_is c d event own whose)) own

stands : (told on : Bool) → told && not on ≡ false → not told || on ≡ true
stands true true h = refl
stands true false h = sym h
stands false on h = refl

made_there : (place c : ℕ) (t : Target) (outcome : Outcome) → is_at_source c t ≡ true → is_told_in t && not (is_enabled outcome) ≡ false → entry_in place t outcome ≡ Some (Did (event_at t) outcome)
made_there place c (Source d x) outcome own h = cond-true _ _ _ (stands (is_told_by x) (is_enabled outcome) h)
made_there place c other outcome own h = absurd (false≢true own)

-- what it is to its source
pub own_made : (place c : ℕ) (event : Event) (outcome : Outcome) → is_own_of c event ≡ true → is_told event && not (is_enabled outcome) ≡ false → entry_of place event outcome ≡ Some (Did event outcome)
own_made place c event outcome own h = made_there place c (target_of event) outcome own h ∙ ap (λ e. Some (Did e outcome)) (event_there event)

-- An entry that says what a source did is of an event of its own.
pub record IsDone (event : Event) (outcome : Outcome) (done : Event) (told : Outcome) : Type 0 where
  pub event_is : done ≡ event
  pub outcome_is : told ≡ outcome
  pub c : ℕ
  pub own : is_own_of c event ≡ true
  pub enabled : is_told event && not (is_enabled outcome) ≡ false

-- the same by where it happens
abbrev IsDoneAt : Target → Outcome → Event → Outcome → Type 0
IsDoneAt t outcome done told = (done ≡ event_at t) × (told ≡ outcome) × ((c : ℕ) × (is_at_source c t ≡ true)) × (is_told_in t && not (is_enabled outcome) ≡ false)

done_source : (d : ℕ) (x : SourceEvent) (outcome : Outcome) (done : Event) (told : Outcome) (answer on : Bool) → (if not answer || on then Some (Did (event_at_source d x) outcome) else None) ≡ Some (Did done told) →
    (done ≡ event_at_source d x) × (told ≡ outcome) × (answer && not on ≡ false)
done_source d x outcome done told true true h = (cc, cc, refl)
done_source d x outcome done told true false h = absurd (cc)
done_source d x outcome done told false on h = (cc, cc, refl)

sent_not_done : (place : ℕ) (b : Bool) (done : Event) (told : Outcome) → (if b then Some (Sent place) else None) ≡ Some (Did done told) → ⊥
sent_not_done place true done told h = cc
sent_not_done place false done told h = cc

beside_not_done : (place : ℕ) (x : HopEvent) (on : Bool) (done : Event) (told : Outcome) → entry_by place x on ≡ Some (Did done told) → ⊥
beside_not_done place (hop.Arrive cell at) true done told h = cc
beside_not_done place (hop.Arrive cell at) false done told h = cc
beside_not_done place (hop.Request j s) on done told h = sent_not_done place (on && j == 1) done told h
beside_not_done place (hop.Answer j s granted) on done told h = cc

done_there : (place : ℕ) (t : Target) (outcome : Outcome) (done : Event) (told : Outcome) → entry_in place t outcome ≡ Some (Did done told) → IsDoneAt t outcome done told
done_there place (Source d x) outcome done told h = (let its = done_source d x outcome done told (is_told_by x) (is_enabled outcome) h in (its.0, its.1, (d, eq-eqb d d refl), its.2))
done_there place (Hop d x) outcome done told h = absurd (beside_not_done place x (is_enabled outcome) done told h)
done_there place (End d s) outcome done told h = absurd (cc)
done_there place (Port p u) outcome done told h = absurd (cc)

pub made_own : (place : ℕ) (event : Event) (outcome : Outcome) (done : Event) (told : Outcome) → entry_of place event outcome ≡ Some (Did done told) → IsDone event outcome done told
made_own place event outcome done told h =
    let its = done_there place (target_of event) outcome done told h in
    record { event_is = its.0 ∙ event_there event; outcome_is = its.1; c = its.2.0; own = its.2.1; enabled = its.3 }

-- Turns change nothing of it
pub own_turns : (net : Topology) (earlier turns : List Event) → AreTurns net earlier turns → (c : ℕ) (event : Event) → is_own_of c event ≡ true →
    outcome_of net (past_of net (turns ++ earlier)) event ≡ outcome_of net (past_of net earlier) event
own_turns net earlier turns all c event own = elim (outcome_turns net earlier turns all event) [
  | inl same ↦ same
  | inr after ↦ absurd (false≢true (ap (is_own_of c) (sym after.own.its.is) ∙ own))
]

pub next_turns : (net : Topology) (journals : RunJournals) (earlier turns : List Event) → AreTurns net earlier turns → (c : ℕ) → next_entry net journals (turns ++ earlier) c ≡ next_entry net journals earlier c
next_turns net journals earlier turns all c = ap (λ (l : List SourceEntry). slice_get (source_journal journals c) (length l)) (entries_turns net earlier turns all c)

pub own_fits : (net : Topology) (journals : RunJournals) (earlier : List Event) (c : ℕ) (event : Event) (told : Outcome) → is_own_of c event ≡ true →
    outcome_of net (past_of net earlier) event ≡ told → is_told event && not (is_enabled (outcome_of net (past_of net earlier) event)) ≡ false →
    next_entry net journals earlier c ≡ Some (Did event told) → Fits net journals earlier event
own_fits net journals earlier c event told own answers enabled next =
    let made : entry_made net earlier event ≡ Some (Did event (outcome_of net (past_of net earlier) event)) = own_made (place_at_first net earlier event) c event (outcome_of net (past_of net earlier) event) own enabled in
    let nowhere = own_visit net (past_of net earlier) c event own in
    record {
      falls = inr (λ none. let clash = sym none ∙ made in cc);
      step = λ v is. (let clash = sym nowhere ∙ is in absurd (cc));
      entry = λ d x whose is.
          (let same : Some (Did event (outcome_of net (past_of net earlier) event)) ≡ Some x = sym made ∙ is in
          ap (next_entry net journals earlier) (own_is c d event own whose) ∙ next ∙ ap (λ o. Some (Did event o)) (sym answers) ∙ same);
    }

-- where the next entry of a source is nothing that it does
pub settled_none : (net : Topology) (journals : RunJournals) (earlier : List Event) (c : ℕ) →
    ((event : Event) (told : Outcome) → next_entry net journals earlier c ≡ Some (Did event told) → is_own_of c event ≡ true → ⊥) → IsSourceSettled net journals earlier c false
settled_none net journals earlier c none = record {
  stuck = λ turns event done outcome all here made fits.
      (let own = made_own (place_at_first net (turns ++ earlier) event) event (outcome_of net (past_of net (turns ++ earlier)) event) done outcome made in
      none done outcome (sym (next_turns net journals earlier turns all c) ∙ fits.entry c (Did done outcome) here made)
      (subst (λ d. is_own_of c d ≡ true) (sym own.event_is) (own_here own.c c event own.own here)));
  marks = λ m.
      (let own = made_own (place_at_first net (m.turns ++ earlier) m.event) m.event (outcome_of net (past_of net (m.turns ++ earlier)) m.event) m.event m.outcome m.does in
      none m.event m.told (sym (next_turns net journals earlier m.turns m.turned c) ∙ m.next) (own_here own.c c m.event own.own m.here));
}

-- where it is an answer that can't be told
pub settled_absent : (net : Topology) (journals : RunJournals) (earlier : List Event) (c : ℕ) (event : Event) (told : Outcome) → next_entry net journals earlier c ≡ Some (Did event told) →
    is_told event ≡ true → is_enabled (outcome_of net (past_of net earlier) event) ≡ false → IsSourceSettled net journals earlier c false
settled_absent net journals earlier c event told next tells off =
    let never : (turns : List Event) (other : Event) (y : Outcome) → AreTurns net earlier turns → other ≡ event → entry_made net (turns ++ earlier) other ≡ Some (Did other y) → ⊥
    = λ turns other y all same made.
    (let own = made_own (place_at_first net (turns ++ earlier) other) other (outcome_of net (past_of net (turns ++ earlier)) other) other y made in
    let answers = own_turns net earlier turns all own.c other own.own in
    let silent : is_enabled (outcome_of net (past_of net (turns ++ earlier)) other) ≡ false = ap is_enabled answers ∙ ap (λ e. is_enabled (outcome_of net (past_of net earlier) e)) same ∙ off in
    let yes : is_told other ≡ true = ap is_told same ∙ tells in
    false≢true (sym own.enabled ∙ ap (λ b. b && not (is_enabled (outcome_of net (past_of net (turns ++ earlier)) other))) yes ∙ ap not silent)) in
    record {
      stuck = λ turns other done outcome all here made fits.
          (let own = made_own (place_at_first net (turns ++ earlier) other) other (outcome_of net (past_of net (turns ++ earlier)) other) done outcome made in
          let at : Some (Did event told) ≡ Some (Did done outcome) = sym next ∙ sym (next_turns net journals earlier turns all c) ∙ fits.entry c (Did done outcome) here made in
          let same : done ≡ event = cc in
          never turns other outcome all (sym own.event_is ∙ same) (made ∙ ap (λ d. Some (Did d outcome)) own.event_is));
      marks = λ m.
          (let at : Some (Did event told) ≡ Some (Did m.event m.told) = sym next ∙ sym (next_turns net journals earlier m.turns m.turned c) ∙ m.next in
          let same : m.event ≡ event = cc in
          never m.turns m.event m.outcome m.turned same m.does);
    }

-- where it has another outcome
pub settled_differs : (net : Topology) (journals : RunJournals) (earlier : List Event) (c : ℕ) (event : Event) (told : Outcome) → next_entry net journals earlier c ≡ Some (Did event told) →
    is_own_of c event ≡ true → outcome_of net (past_of net earlier) event ≢ told → is_told event && not (is_enabled (outcome_of net (past_of net earlier) event)) ≡ false → IsSourceSettled net journals earlier c true
settled_differs net journals earlier c event told next own differ enabled = record {
  stuck = λ turns other done outcome all here made fits.
      (let its = made_own (place_at_first net (turns ++ earlier) other) other (outcome_of net (past_of net (turns ++ earlier)) other) done outcome made in
      let at : Some (Did event told) ≡ Some (Did done outcome) = sym next ∙ sym (next_turns net journals earlier turns all c) ∙ fits.entry c (Did done outcome) here made in
      let same : other ≡ event = (let first : done ≡ event = cc in sym its.event_is ∙ first) in
      let answers : told ≡ outcome = cc in
      differ (ap (outcome_of net (past_of net earlier)) (sym same) ∙ sym (own_turns net earlier turns all its.c other its.own) ∙ sym its.outcome_is ∙ sym answers));
  marks = record {
    turns = [];
    turned = tt;
    event = event;
    here = own_conn c event own;
    outcome = outcome_of net (past_of net earlier) event;
    does = own_made (place_at_first net earlier event) c event (outcome_of net (past_of net earlier) event) own enabled;
    told = told;
    next = next;
  };
}
