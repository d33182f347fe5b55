-- What a look at a port's next entry shows.
use Rattle.std.proofs.Common.{◌≡◌, ◌≢◌, ℕ, ◌-◌, ◌<◌, ◌≤◌, inl, inr, refl, ap, Bool, true, false, List, [], ◌∷◌, ◌++◌, length, reverse, ◌∙◌, sym, subst, Option, None, Some, Vec, arith}
use Rattle.std.specs.Prelude.{slice_get, slice_index, get_or, map, option_map}
use Rattle.std.specs.Global.{Global}
use Rattle.std.proofs.lemmas.List.{length-map}
use Rattle.std.specs.Prelude.{not, if◌then◌else◌}
use Rattle.std.proofs.lemmas.Bool.{false≢true}
use Rattle.std.proofs.lemmas.Bool.Decides.{nat_tests}
use Rattle.std.proofs.lemmas.Option.{slice_get_within, slice_get_read, slice_get_past, get_or_from_slice_get, slice_get-map}
use Rattle.abt_net.specs.declared.conn.Conn.{Conn}
use Rattle.abt_net.specs.Topology.{Topology, IsConnWithin, IsWithinRules, conn_at}
use Rattle.abt_model.specs.declared.event.Event.{Event}
use Rattle.abt_model.specs.declared.event.Event.TheVariants.{Turn, Answer}
use Rattle.abt_facts.specs.Sent.{request_is_through}
use Rattle.abt_model.specs.declared.outcome.Cause.TheVariants.{NotSent}
use Rattle.abt_model.specs.declared.outcome.Outcome.TheVariants.{Turned, NotEnabled}
use Rattle.abt_model.specs.Past.{Past, facts_of}
use Rattle.abt_model.specs.Answers.{is_hop}
use Rattle.abt_model.specs.Outcomes.{outcome_at, outcome_of}
use Rattle.abt_model.specs.Run.{facts_after}
use Rattle.abt_model.proofs.Worlds.{all_at}
use Rattle.abt_model.specs.PortTable.{hop_visited}
use Rattle.abt_journal.specs.declared.entry.Entry.{Entry}
use Rattle.abt_journal.specs.declared.input.PortInput.{PortInput}
use Rattle.abt_journal.specs.declared.input.PortReply.{PortReply}
use Rattle.abt_model.specs.declared.entry.SourceEntry.{SourceEntry}
use Rattle.abt_model.specs.declared.journal.SourceJournal.{SourceJournal}
use Rattle.abt_world.specs.Standing.{WorldView}
use Rattle.abt_weave.specs.Projections.{Step, step_of, Visit, reply_of, is_enabled, past_of, visit, steps_on, entries_on}
use Rattle.abt_weave.specs.Stuck.{RunJournals, steps_in, port_journal, next_step, step_next, next_entry, Fits, IsTurn, AreTurns, PortMismatches}
use Rattle.abt_weave.proofs.Turns.{HasOwnTurn, outcome_turns, own_same, own_enabled, steps_turns, entries_turns}
use Rattle.abt_weave.specs.Comes.{input_told, Comes, IsYes, IsTurnOf, IsComing, IsExpected}
use Rattle.abt_weave.specs.Candidates.{is_beside}
use Rattle.abt_weave.proofs.Comings.{IsBeside}
use Rattle.abt_weave.proofs.PortPlaces.{beside_some}
use Rattle.abt_weave.specs.declared.progress.Progress.{Progress}
use Rattle.abt_weave.specs.declared.look.Look.{Look}
use Rattle.abt_weave.specs.declared.look.Look.TheVariants.{Placed, Waits, Mismatches}
use Rattle.abt_weave.specs.Progress.{count, IsAfterLook, journaled, IsPlacing, IsPortSettled}
use Rattle.abt_weave.proofs.Pasts.{past-is, pushed}
use Rattle.abt_weave.proofs.OwnEvents.{next_turns}
use Rattle.abt_weave.proofs.SourceLooks.{place_read}
use Rattle.abt_weave.proofs.PortEvents.{some_same, told_same, IsNoCapacity, visit_by_input, brings_none, visit_made, reply_enabled, has_reply, made_beside, visit_comes}

-- each path has a hop
pub first_hop : (net : Topology) → IsWithinRules net → (c : ℕ) (conn : Conn) → conn_at net c ≡ Some conn → is_hop (length conn.path) 1 ≡ true
first_hop net rules c conn known =
    let within = all_at (IsConnWithin (length net.capacities)) net.conns c conn rules.each_conn known in
    let low = within.has_hop in grind (arith, nat_tests)

-- the next step of a port after Turns
pub steps_next : (net : Topology) (js : RunJournals) (earlier turns : List Event) → AreTurns net earlier turns → (p : ℕ) → next_step net js (turns ++ earlier) p ≡ next_step net js earlier p
steps_next net js earlier turns all p = ap (λ (l : List Step). slice_get (port_journal js p) (length l)) (steps_turns net earlier turns all p)

-- what comes after Turns comes before them, and the other way round
pub comes_before : (net : Topology) (js : RunJournals) (earlier turns : List Event) → AreTurns net earlier turns → (p place : ℕ) (input : PortInput) (event : Event) → Comes net js (turns ++ earlier) p place input event → Comes net js earlier p place input event
comes_before net js earlier turns all p place input event comes = record {
  c = comes.c;
  whose = comes.whose;
  conn = comes.conn;
  known = comes.known;
  within = comes.within;
  port = comes.port;
  brings = ap (λ (l : List SourceEntry). input_told comes.conn.vc (reverse l) event) (sym (entries_turns net earlier turns all comes.c)) ∙ comes.brings;
  at = comes.at ∙ ap (λ (l : List Step). length l) (steps_turns net earlier turns all p);
  beside = λ x e. sym (next_turns net js earlier turns all comes.c) ∙ comes.beside x e;
}

pub comes_after : (net : Topology) (js : RunJournals) (earlier turns : List Event) → AreTurns net earlier turns → (p place : ℕ) (input : PortInput) (event : Event) → Comes net js earlier p place input event → Comes net js (turns ++ earlier) p place input event
comes_after net js earlier turns all p place input event comes = record {
  c = comes.c;
  whose = comes.whose;
  conn = comes.conn;
  known = comes.known;
  within = comes.within;
  port = comes.port;
  brings = ap (λ (l : List SourceEntry). input_told comes.conn.vc (reverse l) event) (entries_turns net earlier turns all comes.c) ∙ comes.brings;
  at = comes.at ∙ sym (ap (λ (l : List Step). length l) (steps_turns net earlier turns all p));
  beside = λ x e. next_turns net js earlier turns all comes.c ∙ comes.beside x e;
}

-- what comes is no capacity
comes_none : (net : Topology) (js : RunJournals) (earlier : List Event) (p place : ℕ) (input : PortInput) (event : Event) → Comes net js earlier p place input event → IsNoCapacity input
comes_none net js earlier p place input event comes = brings_none comes.conn.vc (reverse (entries_on net comes.c earlier)) event input comes.brings

-- An event that would be the next step, by what it replies.
pub record Would (net : Topology) (js : RunJournals) (earlier turns : List Event) (p : ℕ) (step : Step) (event : Event) (reply : PortReply) : Type 0 where
  pub turned : AreTurns net earlier turns
  pub comes : Comes net js earlier p step.place step.input event
  pub replies : reply_of (outcome_of net (past_of net (turns ++ earlier)) event) ≡ Some reply

would_fit : (net : Topology) (js : RunJournals) → IsWithinRules net → (earlier turns : List Event) (p : ℕ) (step : Step) (event : Event) (v : Visit) → next_step net js earlier p ≡ Some step → IsNoCapacity step.input → AreTurns net earlier turns →
    visit net (past_of net (turns ++ earlier)) event ≡ Some v → v.port ≡ p → Fits net js (turns ++ earlier) event → Would net js earlier turns p step event v.reply × (v.reply ≡ step.reply)
would_fit net js rules earlier turns p step event v next none all is here fits =
    let after = turns ++ earlier in
    let at : next_step net js after p ≡ Some (record { place = length (steps_on net p after); input = v.input; reply = v.reply }) =
    subst (λ q. next_step net js after q ≡ Some (record { place = length (steps_on net q after); input = v.input; reply = v.reply })) here (fits.step v is) in
    let same : step ≡ (record { place = length (steps_on net p after); input = v.input; reply = v.reply }) = some_same (sym next ∙ sym (steps_next net js earlier turns all p) ∙ at) in
    let place : step.place ≡ length (steps_on net p after) = ap (λ (s : Step). s.place) same in
    let input : step.input ≡ v.input = ap (λ (s : Step). s.input) same in (
      record {
        turned = all;
        comes = comes_before net js earlier turns all p step.place step.input event
            (visit_comes net js after event v p step.place step.input (first_hop net rules) none is here place input (λ c x whose e. fits.entry c x whose e));
        replies = (visit_by_input net (past_of net after) event v (λ u e. none u (input ∙ e)) is).reply;
      },
      sym (ap (λ (s : Step). s.reply) same),
    )

pub would_mismatch : (net : Topology) (js : RunJournals) → IsWithinRules net → (earlier : List Event) (p : ℕ) (step : Step) → next_step net js earlier p ≡ Some step → IsNoCapacity step.input → (m : PortMismatches net js earlier p) →
    Would net js earlier m.turns p step m.event m.visits.reply
would_mismatch net js rules earlier p step next none m =
    let after = m.turns ++ earlier in
    let same : step ≡ m.step = some_same (sym next ∙ sym (steps_next net js earlier m.turns m.turned p) ∙ m.next) in
    let input : step.input ≡ m.visits.input = ap (λ (s : Step). s.input) same ∙ m.input in
    record {
      turned = m.turned;
      comes = comes_before net js earlier m.turns m.turned p step.place step.input m.event
          (visit_comes net js after m.event m.visits p step.place step.input (first_hop net rules) none m.comes m.here (ap (λ (s : Step). s.place) same ∙ m.place) input m.beside);
      replies = (visit_by_input net (past_of net after) m.event m.visits (λ u e. none u (input ∙ e)) m.comes).reply;
    }

-- no event at all would be the next step, which is no capacity
pub port_waits : (net : Topology) (js : RunJournals) → IsWithinRules net → (earlier : List Event) (p : ℕ) (step : Step) → next_step net js earlier p ≡ Some step → IsNoCapacity step.input →
    ((turns : List Event) (event : Event) (reply : PortReply) → Would net js earlier turns p step event reply → ⊥) → IsPortSettled net js earlier p false
port_waits net js rules earlier p step next none never = record {
  stuck = λ turns event v all is here fits. never turns event v.reply (would_fit net js rules earlier turns p step event v next none all is here fits).0;
  marks = λ m. never m.turns m.event m.visits.reply (would_mismatch net js rules earlier p step next none m);
}

pub port_done : (net : Topology) (js : RunJournals) (earlier : List Event) (p : ℕ) → next_step net js earlier p ≡ None → IsPortSettled net js earlier p false
port_done net js earlier p none = record {
  stuck = λ turns event v all is here fits.
      (let clash : None ≡ Some (step_next net (turns ++ earlier) v) = sym none ∙ sym (steps_next net js earlier turns all p) ∙ ap (next_step net js (turns ++ earlier)) (sym here) ∙ fits.step v is in cc);
  marks = λ m. (let clash : None ≡ Some m.step = sym none ∙ sym (steps_next net js earlier m.turns m.turned p) ∙ m.next in cc);
}

-- the event of a Would is the one that comes
abbrev pub IsOne : Topology → RunJournals → List Event → ℕ → Step → Event → Type 0
IsOne net js earlier p step event = (other : Event) → Comes net js earlier p step.place step.input other → other ≡ event

-- it can't come at once, and it isn't a yes at the last hop
pub port_absent : (net : Topology) (js : RunJournals) → IsWithinRules net → (earlier : List Event) (p : ℕ) (step : Step) (event : Event) → next_step net js earlier p ≡ Some step → IsNoCapacity step.input → IsOne net js earlier p step event →
    is_enabled (outcome_of net (past_of net earlier) event) ≡ false → ((c seq : ℕ) → IsYes net event c seq → outcome_of net (past_of net earlier) (Turn c seq) ≡ Turned → ⊥) → IsPortSettled net js earlier p false
port_absent net js rules earlier p step event next none one off no_turn =
    port_waits net js rules earlier p step next none (λ turns other reply would.
    (let same = one other would.comes in
    let after = past_of net (turns ++ earlier) in
    let replies : reply_of (outcome_of net after event) ≡ Some reply = subst (λ e. reply_of (outcome_of net after e) ≡ Some reply) same would.replies in
    let on = reply_enabled (outcome_of net after event) reply replies in
    elim (outcome_turns net earlier turns would.turned event) [
      | inl alike ↦ false≢true (sym off ∙ ap is_enabled (sym alike) ∙ on)
      | inr own ↦ no_turn own.own.conn own.own.seq (record { conn = own.own.its.conn; known = own.own.its.known; is = own.own.its.is }) own.own.happens
    ]))

-- an event that comes and answers something else than the next step says
pub mismatch_at : (net : Topology) (js : RunJournals) → IsWithinRules net → (earlier turns : List Event) (p : ℕ) (step : Step) (event : Event) → next_step net js earlier p ≡ Some step → AreTurns net earlier turns →
    Comes net js earlier p step.place step.input event → is_enabled (outcome_of net (past_of net (turns ++ earlier)) event) ≡ true → PortMismatches net js earlier p
mismatch_at net js rules earlier turns p step event next all before on =
    let after = turns ++ earlier in
    let past = past_of net after in
    let comes = comes_after net js earlier turns all p step.place step.input event before in
    let brings = told_same net after comes.conn.vc comes.c event ∙ comes.brings in
    let found = has_reply net past event comes.c comes.conn step.input comes.whose comes.known (first_hop net rules comes.c comes.conn comes.known) brings on in
    record {
      turns = turns;
      turned = all;
      event = event;
      visits = record { port = slice_index comes.conn.path (hop_visited event - 1); input = step.input; reply = found.reply };
      comes = visit_made net past event comes.c comes.conn step.input found.reply comes.whose comes.known brings found.is;
      here = comes.port;
      step = step;
      next = steps_next net js earlier turns all p ∙ next;
      place = comes.at;
      input = refl;
      beside = λ d x whose e.
          ap (next_entry net js after) (some_same (sym whose ∙ comes.whose))
          ∙ comes.beside x (sym (made_beside net after event p step.place comes.c comes.conn (outcome_of net past event) step.input (facts_of comes.c past) comes.whose comes.known comes.port comes.at brings on) ∙ e);
    }

pub port_differs : (net : Topology) (js : RunJournals) → IsWithinRules net → (earlier : List Event) (p : ℕ) (step : Step) (event : Event) → next_step net js earlier p ≡ Some step → IsOne net js earlier p step event →
    Comes net js earlier p step.place step.input event → is_enabled (outcome_of net (past_of net earlier) event) ≡ true → reply_of (outcome_of net (past_of net earlier) event) ≢ Some step.reply → IsPortSettled net js earlier p true
port_differs net js rules earlier p step event next one comes on differ = record {
  stuck = λ turns other v all is here fits.
      (let would = would_fit net js rules earlier turns p step other v next (comes_none net js earlier p step.place step.input event comes) all is here fits in
      let same = one other would.0.comes in
      let after = past_of net (turns ++ earlier) in
      let replies : reply_of (outcome_of net after event) ≡ Some step.reply = subst (λ e. reply_of (outcome_of net after e) ≡ Some v.reply) same would.0.replies ∙ ap (λ r. Some r) would.1 in
      elim (outcome_turns net earlier turns all event) [
        | inl alike ↦ differ (ap reply_of (sym alike) ∙ replies)
        | inr own ↦ differ (ap reply_of (sym (own.same ∙ own_same net earlier event own.own on)) ∙ replies)
      ]);
  marks = mismatch_at net js rules earlier [] p step event next tt comes on;
}

-- the Turn of a yes is one
pub same_turn : (net : Topology) (event turn : Event) (c seq : ℕ) → IsTurnOf net event turn → IsYes net event c seq → Turn c seq ≡ turn
same_turn net event turn c seq its also =
    let both : Answer its.c (length its.yes_of.conn.path) its.seq true ≡ Answer c (length also.conn.path) seq true = sym its.yes_of.is ∙ also.is in
    let conns : its.c ≡ c = cc in
    let seqs : its.seq ≡ seq = cc in
    ap (λ n. Turn n seq) (sym conns) ∙ ap (Turn its.c) (sym seqs) ∙ sym its.turn_is

turn_answer : (b : Bool) → is_enabled (if not b then NotEnabled NotSent else Turned) ≡ true → (if not b then NotEnabled NotSent else Turned) ≡ Turned
turn_answer true h = refl
turn_answer false h = absurd (false≢true h)

turn_by : (net : Topology) (past : Past) (c seq : ℕ) (o : Option Conn) → is_enabled (outcome_at net past c o (Turn c seq)) ≡ true → outcome_at net past c o (Turn c seq) ≡ Turned
turn_by net past c seq None h = absurd (false≢true h)
turn_by net past c seq (Some conn) h = turn_answer (request_is_through (length conn.path) (facts_of c past) seq) h

pub turn_turned : (net : Topology) (past : Past) (event turn : Event) → IsTurnOf net event turn → is_enabled (outcome_of net past turn) ≡ true → outcome_of net past turn ≡ Turned
turn_turned net past event turn its on =
    ap (outcome_of net past) its.turn_is
    ∙ turn_by net past its.c its.seq (conn_at net its.c) (ap (λ e. is_enabled (outcome_of net past e)) (sym its.turn_is) ∙ on)

last_hop : (net : Topology) → IsWithinRules net → (c : ℕ) (conn : Conn) → conn_at net c ≡ Some conn → is_hop (length conn.path) (length conn.path) ≡ true
last_hop net rules c conn known =
    let within = all_at (IsConnWithin (length net.capacities)) net.conns c conn rules.each_conn known in
    let low = within.has_hop in grind (arith, nat_tests)

pub its_turn : (net : Topology) (earlier : List Event) (event turn : Event) → IsTurnOf net event turn → outcome_of net (past_of net earlier) turn ≡ Turned → IsTurn net earlier turn
its_turn net earlier event turn its happens = record { conn = its.c; seq = its.seq; is = its.turn_is; happens = happens }

-- a yes that answers something else right after its Turn
pub turn_differs : (net : Topology) (js : RunJournals) → IsWithinRules net → (earlier : List Event) (p : ℕ) (step : Step) (event turn : Event) → next_step net js earlier p ≡ Some step → IsOne net js earlier p step event →
    Comes net js earlier p step.place step.input event → is_enabled (outcome_of net (past_of net earlier) event) ≡ false → IsTurnOf net event turn → outcome_of net (past_of net earlier) turn ≡ Turned →
    reply_of (outcome_of net (past_of net (turn ∷ earlier)) event) ≢ Some step.reply → IsPortSettled net js earlier p true
turn_differs net js rules earlier p step event turn next one comes off its happens differ =
    let own : HasOwnTurn net earlier event = record {
      conn = its.c;
      seq = its.seq;
      its = record { conn = its.yes_of.conn; known = its.yes_of.known; is = its.yes_of.is };
      happens = ap (outcome_of net (past_of net earlier)) (sym its.turn_is) ∙ happens;
    } in
    let on : is_enabled (outcome_of net (past_of net (turn ∷ earlier)) event) ≡ true =
    subst (λ e. is_enabled (outcome_of net (past_of net (e ∷ earlier)) event) ≡ true) (sym its.turn_is) (own_enabled net earlier event own (last_hop net rules its.c its.yes_of.conn its.yes_of.known)) in
    record {
      stuck = λ turns other v all is here fits.
          (let would = would_fit net js rules earlier turns p step other v next (comes_none net js earlier p step.place step.input event comes) all is here fits in
          let same = one other would.0.comes in
          let after = past_of net (turns ++ earlier) in
          let replies : reply_of (outcome_of net after event) ≡ Some step.reply = subst (λ e. reply_of (outcome_of net after e) ≡ Some v.reply) same would.0.replies ∙ ap (λ r. Some r) would.1 in
          elim (outcome_turns net earlier turns all event) [
            | inl alike ↦ false≢true (sym off ∙ ap is_enabled (sym alike) ∙ reply_enabled (outcome_of net after event) step.reply replies)
            | inr late ↦ (
                let turn_is = same_turn net event turn late.own.conn late.own.seq its (record { conn = late.own.its.conn; known = late.own.its.known; is = late.own.its.is }) in
                differ (ap (λ e. reply_of (outcome_of net (past_of net (e ∷ earlier)) event)) (sym turn_is) ∙ ap reply_of (sym late.same) ∙ replies))
          ]);
      marks = mismatch_at net js rules earlier (turn ∷ []) p step event next (its_turn net earlier event turn its happens, tt) comes on;
    }

-- the connection of what comes is one of the net
pub coming_low : (net : Topology) (js : RunJournals) (earlier : List Event) (p place : ℕ) (input : PortInput) (c n : ℕ) (event : Event) → IsComing net js earlier p place input c event → n ≡ length net.conns → c < n
coming_low net js earlier p place input c n event coming counts =
    subst (λ m. c < m) (sym counts) (subst (λ d. d < length net.conns) (some_same (sym coming.comes.whose ∙ coming.conn)) (slice_get_within net.conns coming.comes.c coming.comes.conn coming.comes.known))

-- the entry that stands beside a step is the source's next
pub come_low : (net : Topology) (js : RunJournals) (earlier : List Event) (p place : ℕ) (input : PortInput) (c k : ℕ) (event : Event) (entries : List SourceEntry) (come : ℕ) → IsComing net js earlier p place input c event → k ≡ c →
    IsBeside net js earlier k entries come → is_beside event ≡ true → come < length entries
come_low net js earlier p place input c k event entries come coming same beside b =
    let some = beside_some place event b in
    let next : slice_get entries come ≡ Some some.0 = beside.next ∙ ap (next_entry net js earlier) (same ∙ some_same (sym coming.conn ∙ coming.comes.whose)) ∙ coming.comes.beside some.0 some.1 in
    slice_get_within entries come some.0 next

-- the next step of a port is that at its place
pub step_read : (net : Topology) (ports : List (Vec Entry Global)) (sources : List SourceJournal) (events : List Event) (world : WorldView) (sp pp : List ℕ) (p k : ℕ) (v : Vec Entry Global) (entries : List Entry) (place : ℕ) →
    IsPlacing net (journaled ports sources) events world sp pp → k ≡ p → p < length ports → v ≡ get_or ports k v → entries ≡ (get_or ports k v).items → place ≡ get_or pp k place →
    (next_step net (journaled ports sources) (reverse events) p ≡ option_map step_of (slice_get entries place)) × (place ≡ slice_index pp p)
step_read net ports sources events world sp pp p k v entries place progress same low read are at =
    let js = journaled ports sources in
    let lowk : k < length ports = subst (λ n. n < length ports) (sym same) low in
    let lowp : k < length pp = subst (λ n. k < n) (sym (progress.port_count ∙ length-map ports (λ (w : Vec Entry Global). w.items))) lowk in
    let here : place ≡ length (steps_on net k (reverse events)) = place_read pp (λ q. length (steps_on net q (reverse events))) k place progress.port_places lowp at in
    let found : slice_get ports k ≡ Some v = slice_get_read ports (length ports) k v refl lowk read in
    let journal : port_journal js k ≡ map step_of entries =
    ap steps_in (slice_get-map (λ (w : Vec Entry Global). w.items) ports k ∙ ap (option_map (λ (w : Vec Entry Global). w.items)) found)
    ∙ ap (λ (w : Vec Entry Global). map step_of w.items) read ∙ ap (map step_of) (sym are) in
    let next : next_step net js (reverse events) k ≡ option_map step_of (slice_get entries place) =
    ap (λ (l : List Step). slice_get l (length (steps_on net k (reverse events)))) journal ∙ ap (slice_get (map step_of entries)) (sym here) ∙ slice_get-map step_of entries place in (
      subst (λ q. next_step net js (reverse events) q ≡ option_map step_of (slice_get entries place)) same next,
      sym (get_or_from_slice_get pp k place 0 (slice_get_read pp (length pp) k place refl lowp at)) ∙ ap (slice_index pp) same,
    )

pub step_at_place : (entries : List Entry) (place : ℕ) (entry : Entry) → place < length entries → entry ≡ get_or entries place entry → option_map step_of (slice_get entries place) ≡ Some (step_of entry)
step_at_place entries place entry low read = ap (option_map step_of) (slice_get_read entries (length entries) place entry refl low read)

pub no_step : (entries : List Entry) (place : ℕ) → length entries ≤ place → option_map step_of (slice_get entries place) ≡ None
no_step entries place past = ap (option_map step_of) (slice_get_past entries place past)

-- where no event can be the next entry, which is no capacity
pub none_settled : (net : Topology) (js : RunJournals) → IsWithinRules net → (earlier : List Event) (p : ℕ) (entry : Entry) → next_step net js earlier p ≡ Some (step_of entry) → IsNoCapacity entry.input →
    ((event : Event) → Comes net js earlier p entry.place entry.input event → ⊥) → IsPortSettled net js earlier p false
none_settled net js rules earlier p entry next none never = port_waits net js rules earlier p (step_of entry) next none (λ turns event reply would. never event would.comes)

abbrev expected_step : (place : ℕ) → PortInput → PortReply → Step
expected_step place input reply = record { place = place; input = input; reply = reply }

-- where the event can't happen, and its Turn, if it has one, neither
pub expected_absent : (net : Topology) (js : RunJournals) (events : List Event) (sp : List ℕ) (p place : ℕ) (input : PortInput) (reply : PortReply) (c reached : ℕ) (event : Event) →
    IsExpected net js (reverse events) sp p place input reply c reached event → is_enabled (outcome_of net (facts_after net events) event) ≡ false →
    ((d seq : ℕ) → IsYes net event d seq → outcome_of net (facts_after net events) (Turn d seq) ≡ Turned → ⊥) → IsPortSettled net js (reverse events) p false
expected_absent net js events sp p place input reply c reached event it off none =
    port_absent net js it.rules (reverse events) p (expected_step place input reply) event it.next (comes_none net js (reverse events) p place input event it.coming.comes) it.only
    (subst (λ w. is_enabled (outcome_of net w event) ≡ false) (past-is net events) off)
    (λ d seq yes_of happens. none d seq yes_of (subst (λ w. outcome_of net w (Turn d seq) ≡ Turned) (sym (past-is net events)) happens))

-- where it answers something else
pub expected_differs : (net : Topology) (js : RunJournals) (events : List Event) (sp : List ℕ) (p place : ℕ) (input : PortInput) (reply : PortReply) (c reached : ℕ) (event : Event) →
    IsExpected net js (reverse events) sp p place input reply c reached event → is_enabled (outcome_of net (facts_after net events) event) ≡ true →
    reply_of (outcome_of net (facts_after net events) event) ≢ Some reply → IsPortSettled net js (reverse events) p true
expected_differs net js events sp p place input reply c reached event it on differ =
    port_differs net js it.rules (reverse events) p (expected_step place input reply) event it.next it.only it.coming.comes
    (subst (λ w. is_enabled (outcome_of net w event) ≡ true) (past-is net events) on)
    (subst (λ w. reply_of (outcome_of net w event) ≢ Some reply) (past-is net events) differ)

-- its Turn isn't one
pub turn_off : (net : Topology) (past : Past) (event turn : Event) → IsTurnOf net event turn → is_enabled (outcome_of net past turn) ≡ false →
    (d seq : ℕ) → IsYes net event d seq → outcome_of net past (Turn d seq) ≡ Turned → ⊥
turn_off net past event turn its off d seq also happens =
    false≢true (sym off ∙ ap (λ e. is_enabled (outcome_of net past e)) (sym (same_turn net event turn d seq its also)) ∙ ap is_enabled happens)

-- where it answers something else after its Turn
pub expected_turn_differs : (net : Topology) (js : RunJournals) (events : List Event) (sp : List ℕ) (p place : ℕ) (input : PortInput) (reply : PortReply) (c reached : ℕ) (event turn : Event) →
    IsExpected net js (reverse events) sp p place input reply c reached event → is_enabled (outcome_of net (facts_after net events) event) ≡ false → IsTurnOf net event turn →
    is_enabled (outcome_of net (facts_after net events) turn) ≡ true → reply_of (outcome_of net (facts_after net (events ++ turn ∷ [])) event) ≢ Some reply → IsPortSettled net js (reverse events) p true
expected_turn_differs net js events sp p place input reply c reached event turn it off its on differ =
    turn_differs net js it.rules (reverse events) p (expected_step place input reply) event turn it.next it.only it.coming.comes
    (subst (λ w. is_enabled (outcome_of net w event) ≡ false) (past-is net events) off) its
    (subst (λ w. outcome_of net w turn ≡ Turned) (past-is net events) (turn_turned net (facts_after net events) event turn its on))
    (subst (λ l. reply_of (outcome_of net (past_of net l) event) ≢ Some reply) (pushed events turn)
    (subst (λ w. reply_of (outcome_of net w event) ≢ Some reply) (past-is net (events ++ turn ∷ [])) differ))

-- what is expected stays so after its Turn
pub expected_after : (net : Topology) (js : RunJournals) (events : List Event) (sp : List ℕ) (p place : ℕ) (input : PortInput) (reply : PortReply) (c reached : ℕ) (event turn : Event) →
    IsExpected net js (reverse events) sp p place input reply c reached event → IsTurnOf net event turn → is_enabled (outcome_of net (facts_after net events) turn) ≡ true →
    IsExpected net js (reverse (events ++ turn ∷ [])) sp p place input reply c reached event
expected_after net js events sp p place input reply c reached event turn it its on =
    let earlier = reverse events in
    let happens : outcome_of net (past_of net earlier) turn ≡ Turned = subst (λ w. outcome_of net w turn ≡ Turned) (past-is net events) (turn_turned net (facts_after net events) event turn its on) in
    let all : AreTurns net earlier (turn ∷ []) = (its_turn net earlier event turn its happens, tt) in
    subst (λ l. IsExpected net js l sp p place input reply c reached event) (sym (pushed events turn)) (record {
      rules = it.rules;
      coming = record { conn = it.coming.conn; comes = comes_after net js earlier (turn ∷ []) all p place input event it.coming.comes };
      only = λ other comes. it.only other (comes_before net js earlier (turn ∷ []) all p place input other comes);
      next = steps_next net js earlier (turn ∷ []) all p ∙ it.next;
      low = it.low;
      reached_is = it.reached_is;
    })
