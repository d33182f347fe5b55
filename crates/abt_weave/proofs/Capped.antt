-- What a look at a port's next entry shows, where that is a capacity.
use Rattle.std.proofs.Common.{◌≡◌, ◌≢◌, ℕ, ◌+◌, ◌<◌, inl, inr, refl, ap, true, false, List, [], ◌∷◌, ◌++◌, length, reverse, ◌∙◌, sym, subst, None, Some, arith}
use Rattle.std.specs.Prelude.{nat_lt, slice_index}
use Rattle.std.proofs.Math.ListN.{set, length-set}
use Rattle.std.proofs.lemmas.Bool.{false≢true, cond_both}
use Rattle.abt_cell.specs.Channel.{Channel}
use Rattle.abt_facts.specs.declared.fact.Fact.{Fact}
use Rattle.abt_net.specs.Topology.{Topology}
use Rattle.abt_model.specs.declared.event.Event.{Event}
use Rattle.abt_model.specs.declared.event.Event.TheVariants.{Arrive, Request, Answer, Capacity}
use Rattle.abt_model.specs.declared.outcome.Cause.TheVariants.{Unknown}
use Rattle.abt_model.specs.declared.outcome.Outcome.{Outcome}
use Rattle.abt_model.specs.declared.outcome.Outcome.TheVariants.{NotEnabled}
use Rattle.abt_model.specs.Answers.{capped}
use Rattle.abt_model.specs.Past.{Past, facts_of}
use Rattle.abt_model.specs.Outcomes.{outcome_of}
use Rattle.abt_model.specs.Run.{facts_after}
use Rattle.abt_journal.specs.declared.input.PortInput.{PortInput}
use Rattle.abt_journal.specs.declared.input.PortInput.TheVariants.{Request as RequestIn, Answer as AnswerIn, Arrive as ArriveIn, Capacity as CapacityIn}
use Rattle.abt_journal.specs.declared.input.PortReply.{PortReply}
use Rattle.abt_journal.specs.declared.input.PortReply.TheVariants.{Capped as CappedOut}
use Rattle.abt_model.specs.declared.entry.SourceEntry.{SourceEntry}
use Rattle.abt_world.specs.Standing.{WorldView, StandsFor}
use Rattle.abt_weave.specs.Projections.{Step, Visit, reply_of, is_enabled, input_of, past_of, visit, steps_on, entries_on}
use Rattle.abt_weave.specs.Stuck.{RunJournals, next_step, step_next, Fits, AreTurns, ArePlaced}
use Rattle.abt_weave.proofs.Placing.{fits_placed}
use Rattle.abt_weave.proofs.Turns.{outcome_turns, steps_turns}
use Rattle.abt_weave.specs.Progress.{total, IsPlacing, IsPortSettled}
use Rattle.abt_weave.specs.Shown.{AreShown}
use Rattle.abt_weave.proofs.Pasts.{past-is, pushed}
use Rattle.abt_weave.proofs.Growth.{ArePlaces, entries_none, steps_other, steps_one, places_same, places_set}
use Rattle.abt_weave.proofs.SourceLooks.{sum-set_up}
use Rattle.abt_weave.proofs.Alone.{answer_told, reply_capped, capacity_visit}
use Rattle.abt_weave.proofs.PortEvents.{some_same, visit_cases, IsNoCapacity, reply_enabled}
use Rattle.abt_weave.proofs.PortLooks.{steps_next}

-- what a connection brings by its facts is no capacity
facts_none : (vc : Channel) (facts : List Fact) (event : Event) (input : PortInput) → input_of vc facts event ≡ Some input → IsNoCapacity input
facts_none vc facts (Request d hop seq) input h u e = (let clash : Some (RequestIn _) ≡ Some (CapacityIn u) = h ∙ ap (λ (i : PortInput). Some i) e in cc)
facts_none vc facts (Answer d hop seq granted) input h u e = (let clash : Some (AnswerIn _) ≡ Some (CapacityIn u) = h ∙ ap (λ (i : PortInput). Some i) e in cc)
facts_none vc facts (Arrive d cell at) input h u e = (let clash : Some (ArriveIn vc at) ≡ Some (CapacityIn u) = h ∙ ap (λ (i : PortInput). Some i) e in cc)
facts_none vc facts other input h u e = absurd (cc)

-- a step by its parts
step_is : (step : Step) (place u : ℕ) → step.place ≡ place → step.input ≡ CapacityIn u → step ≡ (record { place = place; input = CapacityIn u; reply = step.reply })
step_is step place u at input =
    ap (λ n. (let s : Step = record { place = n; input = step.input; reply = step.reply } in s)) at
    ∙ ap (λ i. (let s : Step = record { place = place; input = i; reply = step.reply } in s)) input

-- a capacity that happens has a reply
enabled_reply : (net : Topology) (past : Past) (p u : ℕ) → is_enabled (outcome_of net past (Capacity p u)) ≡ true → (reply : PortReply) × (reply_of (outcome_of net past (Capacity p u)) ≡ Some reply)
enabled_reply net past p u =
    cond_both (nat_lt p (length net.capacities)) (capped (answer_told net past p u)) (NotEnabled Unknown)
    (λ (o : Outcome). is_enabled o ≡ true → (reply : PortReply) × (reply_of o ≡ Some reply))
    (λ low h. (CappedOut (answer_told net past p u), reply_capped (answer_told net past p u)))
    (λ high h. absurd (false≢true h))

-- an entry that doesn't name its own place
pub misplaced : (net : Topology) (js : RunJournals) (earlier : List Event) (p : ℕ) (step : Step) → next_step net js earlier p ≡ Some step → step.place ≢ length (steps_on net p earlier) → IsPortSettled net js earlier p false
misplaced net js earlier p step next differ = record {
  stuck = λ turns event v all is here fits.
      (let same : step ≡ step_next net (turns ++ earlier) v = some_same (sym next ∙ sym (steps_next net js earlier turns all p) ∙ ap (next_step net js (turns ++ earlier)) (sym here) ∙ fits.step v is) in
      differ (ap (λ (s : Step). s.place) same ∙ ap (λ q. length (steps_on net q (turns ++ earlier))) here ∙ ap (λ (l : List Step). length l) (steps_turns net earlier turns all p)));
  marks = λ m.
      (let same : step ≡ m.step = some_same (sym next ∙ sym (steps_next net js earlier m.turns m.turned p) ∙ m.next) in
      differ (ap (λ (s : Step). s.place) same ∙ m.place ∙ ap (λ (l : List Step). length l) (steps_turns net earlier m.turns m.turned p)));
}

-- Turns change nothing of a capacity
capacity_turns : (net : Topology) (earlier turns : List Event) → AreTurns net earlier turns → (p u : ℕ) →
    outcome_of net (past_of net (turns ++ earlier)) (Capacity p u) ≡ outcome_of net (past_of net earlier) (Capacity p u)
capacity_turns net earlier turns all p u = elim (outcome_turns net earlier turns all (Capacity p u)) [
  | inl same ↦ same
  | inr after ↦ (let clash = after.own.its.is in absurd (cc))
]

-- the visit that brings this capacity is that of its event
pub capacity_only : (net : Topology) (earlier turns : List Event) → AreTurns net earlier turns → (p u : ℕ) (event : Event) (v : Visit) → visit net (past_of net (turns ++ earlier)) event ≡ Some v → v.port ≡ p → v.input ≡ CapacityIn u →
    reply_of (outcome_of net (past_of net earlier) (Capacity p u)) ≡ Some v.reply
capacity_only net earlier turns all p u event v is here input = elim (visit_cases net (past_of net (turns ++ earlier)) event v is) [
  | inl parts ↦ absurd (facts_none parts.conn.vc (facts_of parts.c (past_of net (turns ++ earlier))) event v.input parts.input u input)
  | inr alone ↦ (
      let brought : CapacityIn alone.capacity ≡ CapacityIn u = sym alone.input ∙ input in
      let capacities : alone.capacity ≡ u = cc in
      ap reply_of (sym (capacity_turns net earlier turns all p u))
      ∙ ap (λ e. reply_of (outcome_of net (past_of net (turns ++ earlier)) e)) (sym (alone.event_is ∙ ap (λ q. Capacity q alone.capacity) here ∙ ap (Capacity p) capacities))
      ∙ alone.reply)
]

-- a capacity that would be the next entry has the reply that this says
capacity_fits : (net : Topology) (js : RunJournals) (earlier turns : List Event) → AreTurns net earlier turns → (p u : ℕ) (step : Step) → next_step net js earlier p ≡ Some step → step.input ≡ CapacityIn u → (event : Event) (v : Visit) →
    visit net (past_of net (turns ++ earlier)) event ≡ Some v → v.port ≡ p → Fits net js (turns ++ earlier) event → reply_of (outcome_of net (past_of net earlier) (Capacity p u)) ≡ Some step.reply
capacity_fits net js earlier turns all p u step next input event v is here fits =
    let same : step ≡ step_next net (turns ++ earlier) v = some_same (sym next ∙ sym (steps_next net js earlier turns all p) ∙ ap (next_step net js (turns ++ earlier)) (sym here) ∙ fits.step v is) in
    capacity_only net earlier turns all p u event v is here (sym (ap (λ (s : Step). s.input) same) ∙ input) ∙ ap (λ (s : Step). Some s.reply) (sym same)

-- a port that isn't in the net is given none
pub capacity_absent : (net : Topology) (js : RunJournals) (earlier : List Event) (p u : ℕ) (step : Step) → next_step net js earlier p ≡ Some step → step.input ≡ CapacityIn u →
    is_enabled (outcome_of net (past_of net earlier) (Capacity p u)) ≡ false → IsPortSettled net js earlier p false
capacity_absent net js earlier p u step next input off = record {
  stuck = λ turns event v all is here fits.
      false≢true (sym off ∙ reply_enabled (outcome_of net (past_of net earlier) (Capacity p u)) step.reply (capacity_fits net js earlier turns all p u step next input event v is here fits));
  marks = λ m.
      (let same : step ≡ m.step = some_same (sym next ∙ sym (steps_next net js earlier m.turns m.turned p) ∙ m.next) in
      false≢true (sym off ∙ reply_enabled (outcome_of net (past_of net earlier) (Capacity p u)) m.visits.reply
      (capacity_only net earlier m.turns m.turned p u m.event m.visits m.comes m.here (sym m.input ∙ ap (λ (s : Step). s.input) (sym same) ∙ input))));
}

-- one that is answered otherwise than the entry says
pub capacity_differs : (net : Topology) (js : RunJournals) (earlier : List Event) (p u : ℕ) (step : Step) → next_step net js earlier p ≡ Some step → step.place ≡ length (steps_on net p earlier) → step.input ≡ CapacityIn u →
    is_enabled (outcome_of net (past_of net earlier) (Capacity p u)) ≡ true → reply_of (outcome_of net (past_of net earlier) (Capacity p u)) ≢ Some step.reply → IsPortSettled net js earlier p true
capacity_differs net js earlier p u step next place input on differ =
    let past = past_of net earlier in
    let reply = enabled_reply net past p u on in
    record {
      stuck = λ turns event v all is here fits. differ (capacity_fits net js earlier turns all p u step next input event v is here fits);
      marks = record {
        turns = [];
        turned = tt;
        event = Capacity p u;
        visits = record { port = p; input = CapacityIn u; reply = reply.0 };
        comes = capacity_visit net past p u reply.0 reply.1;
        here = refl;
        step = step;
        next = next;
        place = place;
        input = input;
        beside = λ c x whose made. absurd (cc);
      };
    }

-- one that is answered as the entry says
pub capacity_placed : (net : Topology) (js : RunJournals) (events : List Event) (world new : WorldView) (sp pp : List ℕ) (p u : ℕ) (step : Step) →
    IsPlacing net js events world sp pp → p < length pp → next_step net js (reverse events) p ≡ Some step → step.place ≡ length (steps_on net p (reverse events)) → step.input ≡ CapacityIn u →
    reply_of (outcome_of net (facts_after net events) (Capacity p u)) ≡ Some step.reply → StandsFor net (events ++ Capacity p u ∷ []) new →
    IsPlacing net js (events ++ Capacity p u ∷ []) new sp (set pp p (slice_index pp p + 1)) × (total sp + total pp < total sp + total (set pp p (slice_index pp p + 1)))
capacity_placed net js events world new sp pp p u step progress low next place input replies stands =
    let earlier = reverse events in
    let event = Capacity p u in
    let answers : reply_of (outcome_of net (past_of net earlier) event) ≡ Some step.reply = subst (λ w. reply_of (outcome_of net w event) ≡ Some step.reply) (past-is net events) replies in
    let is = capacity_visit net (past_of net earlier) p u step.reply answers in
    let v : Visit = record { port = p; input = CapacityIn u; reply = step.reply } in
    let now = sym (pushed events event) in
    let made : step ≡ step_next net earlier v = step_is step (length (steps_on net p earlier)) u place input in
    let fits : Fits net js earlier event = record {
      falls = inl (λ none. (let clash = sym none ∙ is in cc));
      step = λ w also. (let here : v ≡ w = some_same (sym is ∙ also) in subst (λ (x : Visit). next_step net js earlier x.port ≡ Some (step_next net earlier x)) here (next ∙ ap (λ (s : Step). Some s) made));
      entry = λ c x whose also. absurd (cc);
    } in (
      record {
        stands = stands;
        placed = subst (ArePlaced net js) now (fits_placed net js earlier event progress.placed fits);
        shown = subst (AreShown net js) now (inl fits, progress.shown);
        source_count = progress.source_count;
        port_count = length-set pp p (slice_index pp p + 1) ∙ progress.port_count;
        source_places = subst (λ l. ArePlaces sp (λ d. length (entries_on net d l))) now
            (places_same sp (λ d. length (entries_on net d earlier)) (λ d. length (entries_on net d (event ∷ earlier))) (λ d. ap (λ (l : List SourceEntry). length l) (entries_none net earlier event d refl)) progress.source_places);
        port_places = subst (λ l. ArePlaces (set pp p (slice_index pp p + 1)) (λ q. length (steps_on net q l))) now
            (places_set pp p (λ q. length (steps_on net q earlier)) (λ q. length (steps_on net q (event ∷ earlier))) low
            (steps_one net earlier event p v is refl)
            (λ q differ. ap (λ (l : List Step). length l) (steps_other net earlier event q v is differ))
            progress.port_places);
      },
      (let b = sum-set_up pp p (slice_index pp p) low refl in omega (arith, b)),
    )

-- a board whose values are equal to these
pub capacity_progress : (net : Topology) (js : RunJournals) (events more : List Event) (world new : WorldView) (sp pp : List ℕ) (p kp at u : ℕ) (step : Step) →
    IsPlacing net js events world sp pp → p < length pp → next_step net js (reverse events) p ≡ Some step → step.place ≡ length (steps_on net p (reverse events)) → step.input ≡ CapacityIn u →
    reply_of (outcome_of net (facts_after net events) (Capacity p u)) ≡ Some step.reply → StandsFor net (events ++ Capacity p u ∷ []) new → more ≡ events ++ Capacity p u ∷ [] → kp ≡ p → at ≡ slice_index pp p →
    IsPlacing net js more new sp (set pp kp (at + 1)) × (total sp + total pp < total sp + total (set pp kp (at + 1)))
capacity_progress net js events more world new sp pp p kp at u step progress low next place input replies stands is port_is at_is =
    subst (λ l. IsPlacing net js l new sp (set pp kp (at + 1)) × (total sp + total pp < total sp + total (set pp kp (at + 1)))) (sym is)
    (subst (λ n. IsPlacing net js (events ++ Capacity p u ∷ []) new sp (set pp n (at + 1)) × (total sp + total pp < total sp + total (set pp n (at + 1)))) (sym port_is)
    (subst (λ n. IsPlacing net js (events ++ Capacity p u ∷ []) new sp (set pp p (n + 1)) × (total sp + total pp < total sp + total (set pp p (n + 1)))) (sym at_is)
    (capacity_placed net js events world new sp pp p u step progress low next place input replies stands)))
