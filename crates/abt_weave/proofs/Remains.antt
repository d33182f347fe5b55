-- An entry that mismatches goes on to, whatever is placed.
use Rattle.std.proofs.Common.{◌≡◌, ◌≢◌, ℕ, ◌-◌, ◌<◌, inl, inr, refl, ap, Bool, true, false, List, [], ◌∷◌, ◌++◌, length, reverse, ◌∙◌, sym, subst, Option, None, Some}
use Rattle.std.specs.Prelude.{◌==◌, ◌&&◌, not, if◌then◌else◌, slice_get, slice_index, option_map, All}
use Rattle.std.proofs.lemmas.Bool.{false≢true, cases_Bool, eqb-true}
use Rattle.std.proofs.lemmas.Option.{slice_get_within}
use Rattle.abt_cell.specs.Channel.{Channel}
use Rattle.abt_net.specs.declared.conn.Conn.{Conn}
use Rattle.abt_net.specs.Topology.{Topology, IsWithinRules, conn_at}
use Rattle.abt_net.specs.Paths.{hop_of}
use Rattle.abt_net.proofs.RuleLemmas.{one_place}
use Rattle.abt_model.specs.declared.event.Event.{Event}
use Rattle.abt_model.specs.declared.event.Event.TheVariants.{Arrive, Request, Turn, Capacity}
use Rattle.abt_model.specs.declared.outcome.Outcome.{Outcome}
use Rattle.abt_model.specs.Events.{AsksRate}
use Rattle.abt_model.specs.Outcomes.{conn_of, outcome_of}
use Rattle.abt_model.specs.PortTable.{hop_visited}
use Rattle.abt_model.specs.Past.{facts_of}
use Rattle.abt_model.proofs.Worlds.{cases_option, conn_cases}
use Rattle.abt_journal.specs.declared.input.PortInput.{PortInput}
use Rattle.abt_journal.specs.declared.input.PortInput.TheVariants.{Request as RequestIn, Answer as AnswerIn, Arrive as ArriveIn, Capacity as CapacityIn}
use Rattle.abt_journal.specs.declared.input.PortReply.{PortReply}
use Rattle.abt_model.specs.declared.entry.SourceEntry.{SourceEntry}
use Rattle.abt_model.specs.declared.entry.SourceEntry.TheVariants.{Did, Sent}
use Rattle.abt_weave.specs.declared.actor.Actor.{Actor}
use Rattle.abt_weave.specs.declared.actor.Actor.TheVariants.{Source, Port}
use Rattle.abt_weave.specs.Projections.{Step, Visit, is_enabled, reply_of, place_at_first, past_of, visit, step_at, steps_on, entry_made, entry_at, entries_on}
use Rattle.abt_weave.specs.Stuck.{RunJournals, port_journal, source_journal, next_step, step_next, next_entry, Fits, IsTurn, AreTurns, IsBeginning, PortMismatches, SourceMismatches}
use Rattle.abt_weave.proofs.Turns.{outcome_turns, own_same, steps_turns, entries_turns}
use Rattle.abt_weave.specs.Progress.{IsSourceSettled, IsPortSettled, IsActorSettled}
use Rattle.abt_weave.specs.Candidates.{is_own_of, is_told, event_by}
use Rattle.abt_weave.specs.Comes.{entry_beside, Comes}
use Rattle.abt_weave.specs.Shown.{IsShown}
use Rattle.abt_weave.specs.Stops.{IsStop}
use Rattle.abt_weave.proofs.Again.{own_again}
use Rattle.abt_weave.proofs.AllBelow.{conn_there, visit_entry, silent, alone_if}
use Rattle.abt_weave.proofs.Alone.{capacity_visit}
use Rattle.abt_weave.proofs.Candidates.{cond_some, only}
use Rattle.abt_weave.proofs.Capped.{capacity_only, capacity_differs}
use Rattle.abt_weave.proofs.Comings.{comes_stop}
use Rattle.abt_weave.proofs.Ends.{own_or_visit}
use Rattle.abt_weave.proofs.Growth.{entries_other, entries_none}
use Rattle.abt_weave.proofs.AgainAt.{turns_ask, again_at, ArrivesAlone}
use Rattle.abt_weave.proofs.MismatchAgain.{mismatch_again, MismatchesAs}
use Rattle.abt_weave.proofs.OwnEvents.{own_here, made_own, own_made, own_fits, settled_differs, next_turns}
use Rattle.abt_weave.proofs.Places.{Names}
use Rattle.abt_weave.proofs.PortEvents.{IsVisit, IsNoCapacity, visit_cases, visit_is, made_beside, some_same, reply_enabled}
use Rattle.abt_weave.proofs.PortLooks.{steps_next, would_mismatch, port_differs, turn_differs}
use Rattle.abt_weave.proofs.Replays.{no_visit}
use Rattle.abt_weave.proofs.SentBelow.{IsBelow}
use Rattle.abt_weave.proofs.Stopping.{at_own_hop}
use Rattle.abt_weave.proofs.Unmoved.{steps_still}

-- An event that was placed behind earlier ones.
pub record IsLast (net : Topology) (js : RunJournals) (earlier : List Event) (last : Event) : Type 0 where
  pub rules : IsWithinRules net
  pub rates : All AsksRate (last ∷ earlier)
  pub before : All AsksRate earlier
  pub shown : IsShown net js earlier last

-- events with Turns behind them are below those with one event more
below_last : (net : Topology) (earlier turns : List Event) (last : Event) → AreTurns net earlier turns → IsBelow net (turns ++ earlier) (last ∷ earlier)
below_last net earlier turns last all = record {
  ports = λ p low. (
    step_at p (length (steps_on net p earlier)) (visit net (past_of net earlier) last),
    ap (λ l. l ++ step_at p (length (steps_on net p earlier)) (visit net (past_of net earlier) last)) (sym (steps_turns net earlier turns all p)),
  );
  conns = λ c low. (
    entry_at (conn_of last) c (entry_made net earlier last),
    ap (λ l. l ++ entry_at (conn_of last) c (entry_made net earlier last)) (sym (entries_turns net earlier turns all c)),
  );
}

-- a Turn comes to no port and is in no journal
turn_nowhere : (net : Topology) (earlier : List Event) (event : Event) → IsTurn net earlier event → visit net (past_of net earlier) event ≡ None
turn_nowhere net earlier event turn =
    ap (visit net (past_of net earlier)) turn.is ∙ no_visit net (past_of net earlier) (Turn turn.conn turn.seq) turn.conn refl (λ vc facts. refl)

turn_silent : (net : Topology) (earlier : List Event) (event : Event) → IsTurn net earlier event → entry_made net earlier event ≡ None
turn_silent net earlier event turn = ap (entry_made net earlier) turn.is

-- nothing that is placed comes to a port whose next entry mismatches
elsewhere : (net : Topology) (js : RunJournals) (earlier : List Event) (last : Event) → IsLast net js earlier last → (p : ℕ) (b : Bool) → IsPortSettled net js earlier p b → (v : Visit) → visit net (past_of net earlier) last ≡ Some v → v.port ≢ p
elsewhere net js earlier last it p b settled v is here = elim it.shown [
  | inl fits ↦ settled.stuck [] last v tt is here fits
  | inr needed ↦ (let clash = sym (turn_nowhere net earlier last needed.turn) ∙ is in cc)
]

-- an entry that is made beside a step is of the first hop
beside_first : (place : ℕ) (event : Event) (x : SourceEntry) → entry_beside place event ≡ Some x → hop_visited event ≡ 1
beside_first place (Request c hop seq) x h = eqb-true hop 1 (cond_some (hop == 1) (Some (Sent place)) x h).0
beside_first place (Arrive c cell at) x h = refl
beside_first place other x h = absurd (cc)

made_first : (net : Topology) (earlier : List Event) (event : Event) (v : Visit) (x : SourceEntry) (c : ℕ) (conn : Conn) → conn_of event ≡ Some c → conn_at net c ≡ Some conn → visit net (past_of net earlier) event ≡ Some v →
    entry_made net earlier event ≡ Some x → v.port ≡ slice_index conn.path 0
made_first net earlier event v x c conn whose known is made =
    let past = past_of net earlier in
    let parts = visit_is net past event v c whose is in
    let place = length (steps_on net v.port earlier) in
    let beside = made_beside net earlier event v.port place parts.c parts.conn (outcome_of net past event) v.input (facts_of parts.c past) parts.whose parts.known parts.port refl parts.input
    (reply_enabled (outcome_of net past event) v.reply parts.reply) in
    let one = beside_first place event x (sym beside ∙ made) in
    let same : conn ≡ parts.conn = some_same (sym known ∙ ap (conn_at net) (some_same (sym whose ∙ parts.whose)) ∙ parts.known) in
    sym parts.port ∙ ap (λ n. slice_index parts.conn.path (n - 1)) one ∙ ap (λ (k : Conn). slice_index k.path 0) (sym same)

-- what comes to a port and isn't placed keeps the entry beside it from being placed by another event
untouched : (net : Topology) (js : RunJournals) (earlier : List Event) (last : Event) → IsLast net js earlier last → (p : ℕ) (b : Bool) → IsPortSettled net js earlier p b → (m : PortMismatches net js earlier p) → (c : ℕ) (x : SourceEntry) →
    conn_of m.event ≡ Some c → entry_made net (m.turns ++ earlier) m.event ≡ Some x → entries_on net c (last ∷ earlier) ≡ entries_on net c earlier
untouched net js earlier last it p b settled m c x whose made = elim (conn_cases last c) [
  | inr differ ↦ entries_other net earlier last c differ
  | inl own ↦ (elim (cases_option (entry_made net earlier last)) [
    | inl none ↦ entries_none net earlier last c none
    | inr some ↦ absurd (elim it.shown [
      | inr needed ↦ (let clash = sym (turn_silent net earlier last needed.turn) ∙ some.1 in cc)
      | inl fits ↦ (
          let after = m.turns ++ earlier in
          let same : some.0 ≡ x = some_same (sym (fits.entry c some.0 own some.1) ∙ sym (next_turns net js earlier m.turns m.turned c) ∙ m.beside c x whose made) in
          let parts = visit_is net (past_of net after) m.event m.visits c whose m.comes in
          let known : conn_at net c ≡ Some parts.conn = ap (conn_at net) (some_same (sym whose ∙ parts.whose)) ∙ parts.known in
          let first = made_first net after m.event m.visits x c parts.conn whose known m.comes made in
          let names = visit_entry net it.rules after m.event m.visits x m.comes made in
          elim (cases_option (visit net (past_of net earlier) last)) [
            | inl nowhere ↦ (
                let did = own_or_visit net it.rules earlier last some.0 nowhere some.1 in
                subst (λ y. Names y (length (steps_on net m.visits.port after))) (sym same ∙ did.1) names)
            | inr there ↦ elsewhere net js earlier last it p b settled there.0 there.1
                (made_first net earlier last there.0 some.0 c parts.conn own known there.1 some.1 ∙ sym first ∙ m.here)
          ])
    ])
  ])
]

alone_last : (net : Topology) (js : RunJournals) (earlier : List Event) (last : Event) → IsLast net js earlier last → (p : ℕ) (b : Bool) → IsPortSettled net js earlier p b → (m : PortMismatches net js earlier p) → ArrivesAlone net (m.turns ++ earlier) (last ∷ earlier) m.event
alone_last net js earlier last it p b settled m =
    let after = m.turns ++ earlier in
    elim (cases_option (entry_made net after m.event)) [
      | inl none ↦ silent net after (last ∷ earlier) m.event m.visits m.comes none
      | inr some ↦ (elim (visit_cases net (past_of net after) m.event m.visits m.comes) [
        | inl parts ↦ alone_if net after (last ∷ earlier) m.event parts.c parts.whose
            (entries_turns net earlier m.turns m.turned parts.c ∙ sym (untouched net js earlier last it p b settled m parts.c some.0 parts.whose some.1))
        | inr alone ↦ subst (ArrivesAlone net after (last ∷ earlier)) (sym alone.event_is) tt
      ])
    ]

port_on : (net : Topology) (js : RunJournals) (earlier : List Event) (last : Event) → IsLast net js earlier last → (p : ℕ) (b : Bool) → IsPortSettled net js earlier p b → (m : PortMismatches net js earlier p) →
    MismatchesAs net js (last ∷ earlier) p m.step m.visits.reply
port_on net js earlier last it p b settled m =
    let before = m.turns ++ earlier in
    let later = last ∷ earlier in
    let still : steps_on net p later ≡ steps_on net p earlier = steps_still net earlier last p (elsewhere net js earlier last it p b settled) in
    let level : steps_on net p before ≡ steps_on net p later = steps_turns net earlier m.turns m.turned p ∙ sym still in
    let at = again_at net later before (record { rules = it.rules; rates = it.rates }) (turns_ask net earlier m.turns m.turned it.before) (below_last net earlier m.turns last m.turned) m.event m.visits m.comes
    (subst (λ q. steps_on net q before ≡ steps_on net q later) (sym m.here) level) (alone_last net js earlier last it p b settled m) in
    mismatch_again net js earlier later p m at (sym still) (λ c x whose made. sym (untouched net js earlier last it p b settled m c x whose made))

-- what mismatches has another reply than the entry, as it doesn't fit
other_reply : (net : Topology) (js : RunJournals) (earlier : List Event) (p : ℕ) (b : Bool) → IsPortSettled net js earlier p b → (m : PortMismatches net js earlier p) → m.visits.reply ≢ m.step.reply
other_reply net js earlier p b settled m same =
    let after = m.turns ++ earlier in
    let made : m.step ≡ step_next net after m.visits = step_parts m.step (length (steps_on net m.visits.port after)) m.visits.input m.visits.reply (m.place ∙ ap (λ q. length (steps_on net q after)) (sym m.here)) m.input (sym same) in
    settled.stuck m.turns m.event m.visits m.turned m.comes m.here (record {
      falls = inl (λ none. (let clash = sym none ∙ m.comes in cc));
      step = λ w is.
          (let visits : m.visits ≡ w = some_same (sym m.comes ∙ is) in
          subst (λ (u : Visit). next_step net js after u.port ≡ Some (step_next net after u)) visits (ap (next_step net js after) m.here ∙ m.next ∙ ap (λ (s : Step). Some s) made));
      entry = m.beside;
    })
  where
    step_parts : (step : Step) (place : ℕ) (input : PortInput) (reply : PortReply) → step.place ≡ place → step.input ≡ input → step.reply ≡ reply → step ≡ (record { place = place; input = input; reply = reply })
    step_parts step place input reply at brings replies =
        ap (λ n. (let s : Step = record { place = n; input = step.input; reply = step.reply } in s)) at
        ∙ ap (λ i. (let s : Step = record { place = place; input = i; reply = step.reply } in s)) brings
        ∙ ap (λ r. (let s : Step = record { place = place; input = input; reply = r } in s)) replies

-- a port stands once on a path, and a channel is of one connection
pub stop_same : (net : Topology) → IsWithinRules net → (input : PortInput) (p c hop d at : ℕ) → IsStop net input p c hop → IsStop net input p d at → (c ≡ d) × (hop ≡ at)
stop_same net rules input p c hop d at one other =
    let channels : Some one.conn.vc ≡ Some other.conn.vc = sym one.channel ∙ other.channel in
    let conns : c ≡ d = one_place net rules c d one.conn.vc (ap (option_channel) one.known) (ap (option_channel) other.known ∙ sym channels) in
    let same : one.conn ≡ other.conn = some_same (sym one.known ∙ ap (conn_at net) conns ∙ other.known) in
    let here = at_own_hop net rules c hop p one.conn one.known one.within (sym one.port) in
    let there = at_own_hop net rules d at p other.conn other.known other.within (sym other.port) in
    (conns, sym here ∙ ap (λ (k : Conn). hop_of k.path p) same ∙ there)
  where
    option_channel : Option Conn → Option Channel
    option_channel o = option_map (λ (conn : Conn). conn.vc) o

-- so one event can be a port's next entry
pub comes_one : (net : Topology) → IsWithinRules net → (js : RunJournals) (earlier : List Event) (p place : ℕ) (input : PortInput) (one other : Event) → Comes net js earlier p place input one → Comes net js earlier p place input other → one ≡ other
comes_one net rules js earlier p place input one other here there =
    let stops = stop_same net rules input p here.c (hop_visited one) there.c (hop_visited other) (comes_stop net js earlier p place input one here) (comes_stop net js earlier p place input other there) in
    let a = only place here.c here.conn.vc input (reverse (entries_on net here.c earlier)) (next_entry net js earlier here.c) one here.whose here.brings here.beside in
    let b = only place there.c there.conn.vc input (reverse (entries_on net there.c earlier)) (next_entry net js earlier there.c) other there.whose there.brings there.beside in
    some_same (
    sym a.is
    ∙ ap (λ h. event_by here.c h place input (reverse (entries_on net here.c earlier)) (next_entry net js earlier here.c)) stops.1
    ∙ ap (λ c. event_by c (hop_visited other) place input (reverse (entries_on net c earlier)) (next_entry net js earlier c)) stops.0
    ∙ b.is
    )

-- a port is settled where its next entry mismatches with another reply
visit_marked : (net : Topology) (js : RunJournals) → IsWithinRules net → (earlier : List Event) (p : ℕ) → (m : PortMismatches net js earlier p) → m.visits.reply ≢ m.step.reply → IsNoCapacity m.step.input → IsPortSettled net js earlier p true
visit_marked net js rules earlier p m differ none =
    let step = m.step in
    let event = m.event in
    let past = past_of net earlier in
    let next : next_step net js earlier p ≡ Some step = sym (steps_next net js earlier m.turns m.turned p) ∙ m.next in
    let would = would_mismatch net js rules earlier p step next none m in
    let one : (other : Event) → Comes net js earlier p step.place step.input other → other ≡ event = λ other comes. comes_one net rules js earlier p step.place step.input other event comes would.comes in
    let replied : (o : Outcome) → reply_of o ≡ Some m.visits.reply → reply_of o ≢ Some step.reply = λ o is also. differ (some_same (sym is ∙ also)) in
    let at_once : reply_of (outcome_of net past event) ≡ Some m.visits.reply → IsPortSettled net js earlier p true
    = λ replies. port_differs net js rules earlier p step event next one would.comes (reply_enabled (outcome_of net past event) m.visits.reply replies) (replied (outcome_of net past event) replies) in
    elim (outcome_turns net earlier m.turns m.turned event) [
      | inl same ↦ at_once (ap reply_of (sym same) ∙ would.replies)
      | inr own ↦ (
          let turn = Turn own.own.conn own.own.seq in
          let after = outcome_of net (past_of net (turn ∷ earlier)) event in
          let replies : reply_of after ≡ Some m.visits.reply = ap reply_of (sym own.same) ∙ would.replies in
          elim (cases_Bool (is_enabled (outcome_of net past event))) [
            | inl on ↦ at_once (ap reply_of (sym (own_same net earlier event own.own on)) ∙ replies)
            | inr off ↦ turn_differs net js rules earlier p step event turn next one would.comes off
                (record { c = own.own.conn; seq = own.own.seq; yes_of = record { conn = own.own.its.conn; known = own.own.its.known; is = own.own.its.is }; turn_is = refl }) own.own.happens (replied after replies)
          ])
    ]

capacity_marked : (net : Topology) (js : RunJournals) (earlier : List Event) (p u : ℕ) → (m : PortMismatches net js earlier p) → m.visits.reply ≢ m.step.reply → m.step.input ≡ CapacityIn u → IsPortSettled net js earlier p true
capacity_marked net js earlier p u m differ input =
    let outcome = outcome_of net (past_of net earlier) (Capacity p u) in
    let next : next_step net js earlier p ≡ Some m.step = sym (steps_next net js earlier m.turns m.turned p) ∙ m.next in
    let replies : reply_of outcome ≡ Some m.visits.reply = capacity_only net earlier m.turns m.turned p u m.event m.visits m.comes m.here (sym m.input ∙ input) in
    capacity_differs net js earlier p u m.step next (m.place ∙ ap (λ (l : List Step). length l) (steps_turns net earlier m.turns m.turned p)) input (reply_enabled outcome m.visits.reply replies)
    (λ also. differ (some_same (sym replies ∙ also)))

port_marked : (net : Topology) (js : RunJournals) → IsWithinRules net → (earlier : List Event) (p : ℕ) → (m : PortMismatches net js earlier p) → m.visits.reply ≢ m.step.reply → IsPortSettled net js earlier p true
port_marked net js rules earlier p m differ =
    by_input m.step.input refl
  where
    by_input : (input : PortInput) → m.step.input ≡ input → IsPortSettled net js earlier p true
    by_input (CapacityIn u) is = capacity_marked net js earlier p u m differ is
    by_input (RequestIn r) is = visit_marked net js rules earlier p m differ (λ u e. (let clash = sym is ∙ e in cc))
    by_input (AnswerIn a) is = visit_marked net js rules earlier p m differ (λ u e. (let clash = sym is ∙ e in cc))
    by_input (ArriveIn vc at) is = visit_marked net js rules earlier p m differ (λ u e. (let clash = sym is ∙ e in cc))

port_remains : (net : Topology) (js : RunJournals) (earlier : List Event) (last : Event) → IsLast net js earlier last → (p : ℕ) → IsPortSettled net js earlier p true → IsPortSettled net js (last ∷ earlier) p true
port_remains net js earlier last it p settled =
    let m = settled.marks in
    let on = port_on net js earlier last it p true settled m in
    port_marked net js it.rules (last ∷ earlier) p on.mismatch (λ same. other_reply net js earlier p true settled m (sym on.reply_is ∙ same ∙ ap (λ (s : Step). s.reply) on.step_is))

-- nothing that is placed is a source's next entry that mismatches
source_still : (net : Topology) (js : RunJournals) (earlier : List Event) (last : Event) → IsLast net js earlier last → (c : ℕ) → IsSourceSettled net js earlier c true → (m : SourceMismatches net js earlier c) → entries_on net c (last ∷ earlier) ≡ entries_on net c earlier
source_still net js earlier last it c settled m = elim (conn_cases last c) [
  | inr differ ↦ entries_other net earlier last c differ
  | inl own ↦ (elim (cases_option (entry_made net earlier last)) [
    | inl none ↦ entries_none net earlier last c none
    | inr some ↦ absurd (elim it.shown [
      | inr needed ↦ (let clash = sym (turn_silent net earlier last needed.turn) ∙ some.1 in cc)
      | inl fits ↦ (
          let same : some.0 ≡ Did m.event m.told = some_same (sym (fits.entry c some.0 own some.1) ∙ sym (next_turns net js earlier m.turns m.turned c) ∙ m.next) in
          settled.stuck [] last m.event m.told tt own (some.1 ∙ ap (λ (y : SourceEntry). Some y) same) fits)
    ])
  ])
]

source_remains : (net : Topology) (js : RunJournals) (earlier : List Event) (last : Event) → IsLast net js earlier last → (c : ℕ) → c < length net.conns → IsSourceSettled net js earlier c true → IsSourceSettled net js (last ∷ earlier) c true
source_remains net js earlier last it c low settled =
    let m = settled.marks in
    let before = m.turns ++ earlier in
    let later = last ∷ earlier in
    let event = m.event in
    let conn = conn_there net c low in
    let its = made_own (place_at_first net before event) event (outcome_of net (past_of net before) event) event m.outcome m.does in
    let mine = own_here its.c c event its.own m.here in
    let still = source_still net js earlier last it c settled m in
    let level : entries_on net c before ≡ entries_on net c later = entries_turns net earlier m.turns m.turned c ∙ sym still in
    let again = own_again net it.rules before later (below_last net earlier m.turns last m.turned) c conn.0 event m.here conn.1 mine its.enabled level in
    let next : next_entry net js later c ≡ Some (Did event m.told) = ap (λ (l : List SourceEntry). slice_get (source_journal js c) (length l)) (sym level) ∙ m.next in
    let enabled : is_told event && not (is_enabled (outcome_of net (past_of net later) event)) ≡ false = ap (λ o. is_told event && not (is_enabled o)) (sym again) ∙ its.enabled in
    settled_differs net js later c event m.told next mine
    (λ same. (let told : outcome_of net (past_of net before) event ≡ m.told = again ∙ same in
    settled.stuck m.turns event event m.outcome m.turned m.here m.does (own_fits net js before c event m.told mine told its.enabled m.next)))
    enabled

-- an actor whose next entry mismatches
pub remains : (net : Topology) (js : RunJournals) (earlier : List Event) (last : Event) → IsLast net js earlier last → (actor : Actor) → IsActorSettled net js earlier actor true →
    ((c : ℕ) → actor ≡ Source c → c < length net.conns) → IsActorSettled net js (last ∷ earlier) actor true
remains net js earlier last it (Source c) settled low = source_remains net js earlier last it c (low c refl) settled
remains net js earlier last it (Port p) settled low = port_remains net js earlier last it p settled
