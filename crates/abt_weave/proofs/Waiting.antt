-- Who isn't touched by an event waits on after it.
use Rattle.std.proofs.Common.{◌≡◌, ◌≢◌, ℕ, ◌<◌, ◌≤◌, inl, inr, refl, ap, true, false, List, [], ◌∷◌, ◌++◌, length, ◌∙◌, sym, subst, None, Some, arith}
use Rattle.std.specs.Prelude.{nat_lt, slice_index}
use Rattle.std.proofs.lemmas.Bool.{cases_Bool}
use Rattle.std.proofs.lemmas.List.{append_assoc}
use Rattle.abt_net.specs.Topology.{Topology, IsWithinRules}
use Rattle.abt_model.specs.declared.event.Event.{Event}
use Rattle.abt_model.specs.declared.event.Event.TheVariants.{Capacity}
use Rattle.abt_model.specs.Outcomes.{conn_of, outcome_of}
use Rattle.abt_model.specs.PortTable.{hop_visited}
use Rattle.abt_model.proofs.Worlds.{conn_cases}
use Rattle.abt_journal.specs.declared.input.PortInput.{PortInput}
use Rattle.abt_journal.specs.declared.input.PortInput.TheVariants.{Request as RequestIn, Answer as AnswerIn, Arrive as ArriveIn, Capacity as CapacityIn}
use Rattle.abt_model.specs.declared.entry.SourceEntry.{SourceEntry}
use Rattle.abt_model.specs.declared.entry.SourceEntry.TheVariants.{Did}
use Rattle.abt_weave.specs.declared.actor.Actor.{Actor}
use Rattle.abt_weave.specs.declared.actor.Actor.TheVariants.{Source, Port}
use Rattle.abt_weave.specs.Projections.{Visit, past_of, visit, steps_on, entry_made}
use Rattle.abt_weave.specs.Stuck.{RunJournals, next_step, next_entry, IsTurn, AreTurns, PortMismatches, SourceMismatches}
use Rattle.abt_weave.specs.Progress.{IsActorSettled}
use Rattle.abt_weave.specs.Waking.{AreNear, IsAbout, IsPassed, Touches}
use Rattle.abt_weave.proofs.Alike.{AreRuns}
use Rattle.abt_weave.proofs.Comings.{comes_stop}
use Rattle.abt_weave.proofs.FarOff.{far_back, source_far}
use Rattle.abt_weave.proofs.Numbers.{below_if, below_else}
use Rattle.abt_weave.proofs.PortEvents.{IsNoCapacity, visit_cases, has_reply, reply_enabled, some_same}
use Rattle.abt_weave.proofs.PortLooks.{first_hop, steps_next, would_mismatch}
use Rattle.abt_weave.proofs.Unmoved.{steps_still, source_unmarked, port_unmarked, source_back, capacity_back, visit_back}

-- a port to which an event comes is touched
comes_touched : (net : Topology) → IsWithinRules net → (js : RunJournals) (earlier later : List Event) (event : Event) (p : ℕ) (v : Visit) → visit net (past_of net earlier) event ≡ Some v → v.port ≡ p → Touches net js later event (Port p)
comes_touched net rules js earlier later event p v is here = elim (visit_cases net (past_of net earlier) event v is) [
  | inl parts ↦ (
      let past = past_of net earlier in
      let on = reply_enabled (outcome_of net past event) v.reply parts.reply in
      let reply = has_reply net past event parts.c parts.conn v.input parts.whose parts.known (first_hop net rules parts.c parts.conn parts.known) parts.input on in
      inr (record { c = parts.c; whose = parts.whose; conn = parts.conn; known = parts.known; hop = hop_visited event; within = reply.within; port = parts.port ∙ here; why = inl refl }))
  | inr alone ↦ inl (alone.capacity, alone.event_is ∙ ap (λ q. Capacity q alone.capacity) here)
]

-- what comes to a port after an event that doesn't touch it came before that
visit_on : (net : Topology) (js : RunJournals) (earlier : List Event) (last : Event) → AreRuns net (last ∷ earlier) earlier → (p : ℕ) → (Touches net js (last ∷ earlier) last (Port p) → ⊥) → steps_on net p (last ∷ earlier) ≡ steps_on net p earlier →
    (m : PortMismatches net js (last ∷ earlier) p) → IsNoCapacity m.step.input → PortMismatches net js earlier p
visit_on net js earlier last runs p never steps m none =
    let later = last ∷ earlier in
    let step = m.step in
    let event = m.event in
    let next : next_step net js later p ≡ Some step = sym (steps_next net js later m.turns m.turned p) ∙ m.next in
    let comes = (would_mismatch net js runs.rules later p step next none m).comes in
    let c = comes.c in
    let stop = comes_stop net js later p step.place step.input event comes in
    let about : IsAbout net js later p stop.conn.vc = record { step = step; next = next; channel = stop.channel } in
    let passed : conn_of last ≡ Some c → AreNear (hop_visited event) (hop_visited last) → IsPassed net js later last p =
    λ own near. record { c = c; whose = own; conn = stop.conn; known = stop.known; hop = hop_visited event; within = stop.within; port = stop.port; why = inr (near, about) } in
    elim (conn_cases last c) [
      | inl own ↦ far_back net js earlier last p steps m c comes.whose (record { runs = runs; own = own; far = λ near. never (inr (passed own near)) })
      | inr differ ↦ visit_back net js earlier last runs p steps m none (λ d whose own. differ (own ∙ sym whose ∙ comes.whose))
    ]

port_by : (net : Topology) (js : RunJournals) (earlier : List Event) (last : Event) → AreRuns net (last ∷ earlier) earlier → (p : ℕ) → (Touches net js (last ∷ earlier) last (Port p) → ⊥) → steps_on net p (last ∷ earlier) ≡ steps_on net p earlier →
    (m : PortMismatches net js (last ∷ earlier) p) (input : PortInput) → m.step.input ≡ input → PortMismatches net js earlier p
port_by net js earlier last runs p never steps m (CapacityIn u) is = capacity_back net js earlier last runs p u steps m is
port_by net js earlier last runs p never steps m (RequestIn r) is = visit_on net js earlier last runs p never steps m (λ u e. (let clash = sym is ∙ e in cc))
port_by net js earlier last runs p never steps m (AnswerIn a) is = visit_on net js earlier last runs p never steps m (λ u e. (let clash = sym is ∙ e in cc))
port_by net js earlier last runs p never steps m (ArriveIn vc at) is = visit_on net js earlier last runs p never steps m (λ u e. (let clash = sym is ∙ e in cc))

port_on : (net : Topology) (js : RunJournals) (earlier : List Event) (last : Event) → AreRuns net (last ∷ earlier) earlier → (p : ℕ) → (Touches net js (last ∷ earlier) last (Port p) → ⊥) → PortMismatches net js (last ∷ earlier) p → PortMismatches net js earlier p
port_on net js earlier last runs p never m =
    let steps = steps_still net earlier last p (λ v is here. never (comes_touched net runs.rules js earlier (last ∷ earlier) last p v is here)) in
    port_by net js earlier last runs p never steps m m.step.input refl

-- what a source does after an event that doesn't touch it, it did before that
source_on : (net : Topology) (js : RunJournals) (earlier : List Event) (last : Event) → AreRuns net (last ∷ earlier) earlier → (c : ℕ) → c < length net.conns → (Touches net js (last ∷ earlier) last (Source c) → ⊥) → SourceMismatches net js (last ∷ earlier) c →
    SourceMismatches net js earlier c
source_on net js earlier last runs c low never m = elim (conn_cases last c) [
  | inr differ ↦ source_back net js earlier last runs c differ m
  | inl own ↦ (elim (cases_Bool (nat_lt 1 (hop_visited last))) [
    | inl less ↦ source_far net js earlier last runs c low own (let high = below_if 1 (hop_visited last) less in omega (arith, high)) m
    | inr more ↦ absurd (never (own, below_else 1 (hop_visited last) more))
  ])
]

pub waits_on : (net : Topology) (js : RunJournals) (earlier : List Event) (last : Event) → AreRuns net (last ∷ earlier) earlier → (actor : Actor) → ((c : ℕ) → actor ≡ Source c → c < length net.conns) → (Touches net js (last ∷ earlier) last actor → ⊥) →
    IsActorSettled net js earlier actor false → IsActorSettled net js (last ∷ earlier) actor false
waits_on net js earlier last runs (Source d) low never settled = source_unmarked net js (last ∷ earlier) d (λ m. settled.marks (source_on net js earlier last runs d (low d refl) never m))
waits_on net js earlier last runs (Port p) low never settled = port_unmarked net js (last ∷ earlier) p (λ m. settled.marks (port_on net js earlier last runs p never m))

-- Whoever waits does so after a Turn: what can happen after Turns is looked for in any case.
turn_first : (net : Topology) (earlier turns : List Event) (turn : Event) → IsTurn net earlier turn → AreTurns net (turn ∷ earlier) turns → AreTurns net earlier (turns ++ turn ∷ [])
turn_first net earlier [] turn is all = (is, tt)
turn_first net earlier (other ∷ turns) turn is all = (subst (λ l. IsTurn net l other) (sym (append_assoc turns (turn ∷ []) earlier)) all.0, turn_first net earlier turns turn is all.1)

port_turned : (net : Topology) (js : RunJournals) (earlier : List Event) (turn : Event) → IsTurn net earlier turn → (p : ℕ) → PortMismatches net js (turn ∷ earlier) p → PortMismatches net js earlier p
port_turned net js earlier turn is p m =
    let same : m.turns ++ turn ∷ earlier ≡ (m.turns ++ turn ∷ []) ++ earlier = sym (append_assoc m.turns (turn ∷ []) earlier) in
    record {
      turns = m.turns ++ turn ∷ [];
      turned = turn_first net earlier m.turns turn is m.turned;
      event = m.event;
      visits = m.visits;
      comes = subst (λ l. visit net (past_of net l) m.event ≡ Some m.visits) same m.comes;
      here = m.here;
      step = m.step;
      next = subst (λ l. next_step net js l p ≡ Some m.step) same m.next;
      place = subst (λ l. m.step.place ≡ length (steps_on net p l)) same m.place;
      input = m.input;
      beside = subst (λ l. (c : ℕ) (x : SourceEntry) → conn_of m.event ≡ Some c → entry_made net l m.event ≡ Some x → next_entry net js l c ≡ Some x) same m.beside;
    }

source_turned : (net : Topology) (js : RunJournals) (earlier : List Event) (turn : Event) → IsTurn net earlier turn → (c : ℕ) → SourceMismatches net js (turn ∷ earlier) c → SourceMismatches net js earlier c
source_turned net js earlier turn is c m =
    let same : m.turns ++ turn ∷ earlier ≡ (m.turns ++ turn ∷ []) ++ earlier = sym (append_assoc m.turns (turn ∷ []) earlier) in
    record {
      turns = m.turns ++ turn ∷ [];
      turned = turn_first net earlier m.turns turn is m.turned;
      event = m.event;
      here = m.here;
      outcome = m.outcome;
      does = subst (λ l. entry_made net l m.event ≡ Some (Did m.event m.outcome)) same m.does;
      told = m.told;
      next = subst (λ l. next_entry net js l c ≡ Some (Did m.event m.told)) same m.next;
    }

pub turned_on : (net : Topology) (js : RunJournals) (earlier : List Event) (turn : Event) → IsTurn net earlier turn → (actor : Actor) → IsActorSettled net js earlier actor false → IsActorSettled net js (turn ∷ earlier) actor false
turned_on net js earlier turn is (Source d) settled = source_unmarked net js (turn ∷ earlier) d (λ m. settled.marks (source_turned net js earlier turn is d m))
turned_on net js earlier turn is (Port p) settled = port_unmarked net js (turn ∷ earlier) p (λ m. settled.marks (port_turned net js earlier turn is p m))
