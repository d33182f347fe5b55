-- Where a pass places nothing, the events stand still.
use Rattle.std.proofs.Common.{◌≡◌, ℕ, ◌+◌, ◌<◌, ◌≤◌, inl, inr, refl, ap, Bool, true, false, List, [], ◌∷◌, ◌++◌, length, ◌∙◌, sym, subst, Option, None, Some, arith}
use Rattle.std.specs.Prelude.{◌==◌, ◌&&◌, slice_get, get_or}
use Rattle.std.proofs.lemmas.Bool.{false≢true}
use Rattle.std.proofs.lemmas.List.{length-append, append-nil}
use Rattle.std.proofs.lemmas.Option.{slice_get_within, slice_get-get_or}
use Rattle.abt_net.specs.declared.conn.Conn.{Conn}
use Rattle.abt_net.specs.Topology.{Topology, IsWithinRules, conn_at}
use Rattle.abt_model.specs.declared.event.Event.{Event}
use Rattle.abt_model.specs.declared.event.Event.TheVariants.{Arrive, Request, Turn, Answer, Told, Capacity}
use Rattle.abt_model.specs.declared.outcome.Outcome.{Outcome}
use Rattle.abt_model.specs.Outcomes.{conn_of, outcome_of}
use Rattle.abt_model.specs.Past.{Past, facts_of}
use Rattle.abt_model.proofs.Worlds.{outcome_of-unknown, cases_option}
use Rattle.abt_journal.specs.declared.entry.Entry.{Entry}
use Rattle.abt_journal.specs.declared.input.PortInput.{PortInput}
use Rattle.abt_model.specs.declared.entry.SourceEntry.{SourceEntry}
use Rattle.abt_model.specs.declared.entry.SourceEntry.TheVariants.{Did, Sent, Arrived as ArrivedAt}
use Rattle.abt_model.specs.declared.journal.SourceJournal.{SourceJournal}
use Rattle.abt_weave.specs.Projections.{Step, Visit, is_enabled, input_of, entry_of, place_at_first, past_of, visit, entry_made, steps_on, entries_on}
use Rattle.abt_weave.specs.Stuck.{RunJournals, steps_in, entries_in, port_journal, source_journal, step_next, ArePlaced, IsBeginning, StandsStill, PortMismatches, SourceMismatches}
use Rattle.abt_weave.specs.Actors.{actor_count}
use Rattle.abt_weave.specs.Progress.{AreSettled}
use Rattle.abt_weave.proofs.Candidates.{cond_some, and_both}
use Rattle.abt_weave.specs.OneFault.{AreJournalsOf}
use Rattle.abt_weave.proofs.OwnEvents.{own_conn, made_own}
use Rattle.abt_weave.proofs.Numbers.{source_settled, port_settled}
use Rattle.abt_weave.proofs.PortEvents.{some_same, visit_made, has_reply}
use Rattle.abt_weave.proofs.PortLooks.{first_hop}

conn_known : (net : Topology) (past : Past) (event : Event) (c : ℕ) → conn_of event ≡ Some c → is_enabled (outcome_of net past event) ≡ true → (conn : Conn) × (conn_at net c ≡ Some conn)
conn_known net past event c whose on = elim (cases_option (conn_at net c)) [
  | inl unknown ↦ absurd (false≢true (sym (ap is_enabled (outcome_of-unknown net past event c whose unknown)) ∙ on))
  | inr known ↦ known
]

seen_visit : (net : Topology) → IsWithinRules net → (past : Past) (event : Event) (c : ℕ) → conn_of event ≡ Some c → ((conn : Conn) → (input : PortInput) × (input_of conn.vc (facts_of c past) event ≡ Some input)) →
    is_enabled (outcome_of net past event) ≡ true → visit net past event ≡ None → ⊥
seen_visit net rules past event c whose brings on none =
    let known = conn_known net past event c whose on in
    let input = brings known.0 in
    let reply = has_reply net past event c known.0 input.0 whose known.1 (first_hop net rules c known.0 known.1) input.1 on in
    let made = visit_made net past event c known.0 input.0 reply.reply whose known.1 input.1 reply.is in
    let clash = sym none ∙ made in cc

-- what comes to no port is something that its source did
pub own_or_visit : (net : Topology) → IsWithinRules net → (earlier : List Event) (event : Event) (x : SourceEntry) → visit net (past_of net earlier) event ≡ None →
    entry_of (place_at_first net earlier event) event (outcome_of net (past_of net earlier) event) ≡ Some x → (y : Outcome) × (x ≡ Did event y)
own_or_visit net rules earlier (Told c seq granted) x none h =
    let o = outcome_of net (past_of net earlier) (Told c seq granted) in
    (o, sym (some_same (cond_some (is_enabled o) (Some (Did (Told c seq granted) o)) x h).1))
own_or_visit net rules earlier (Request c hop seq) x none h =
    let o = outcome_of net (past_of net earlier) (Request c hop seq) in
    let both = cond_some (is_enabled o && hop == 1) (Some (Sent (place_at_first net earlier (Request c hop seq)))) x h in
    absurd (seen_visit net rules (past_of net earlier) (Request c hop seq) c refl (λ conn. (_, refl)) (and_both (is_enabled o) (hop == 1) both.0).0 none)
own_or_visit net rules earlier (Arrive c cell at) x none h =
    let o = outcome_of net (past_of net earlier) (Arrive c cell at) in
    let both = cond_some (is_enabled o) (Some (ArrivedAt cell (place_at_first net earlier (Arrive c cell at)))) x h in
    absurd (seen_visit net rules (past_of net earlier) (Arrive c cell at) c refl (λ conn. (_, refl)) both.0 none)
own_or_visit net rules earlier (Turn c seq) x none h = absurd (cc)
own_or_visit net rules earlier (Answer c hop seq granted) x none h = absurd (cc)
own_or_visit net rules earlier (Capacity p u) x none h = absurd (cc)
own_or_visit net rules earlier other x none h = (outcome_of net (past_of net earlier) other, sym (some_same h))

mark_at : (marks : List Bool) (i : ℕ) → i < length marks → (b : Bool) × (slice_get marks i ≡ Some b)
mark_at marks i low = (get_or marks i false, slice_get-get_or marks i false low)

entries_low : (js : RunJournals) (c n : ℕ) (x : SourceEntry) → slice_get (source_journal js c) n ≡ Some x → c < length js.sources
entries_low js c n x h = elim (cases_option (slice_get js.sources c)) [
  | inl none ↦ (let clash = ap (λ (o : Option SourceJournal). slice_get (entries_in o) n) (sym none) ∙ h in absurd (cc))
  | inr some ↦ slice_get_within js.sources c some.0 some.1
]

steps_low : (js : RunJournals) (p n : ℕ) (s : Step) → slice_get (port_journal js p) n ≡ Some s → p < length js.ports
steps_low js p n s h = elim (cases_option (slice_get js.ports p)) [
  | inl none ↦ (let clash = ap (λ (o : Option (List Entry)). slice_get (steps_in o) n) (sym none) ∙ h in absurd (cc))
  | inr some ↦ slice_get_within js.ports p some.0 some.1
]

pub all_still : (net : Topology) (js : RunJournals) → AreJournalsOf net js → IsWithinRules net → (earlier : List Event) (marks : List Bool) → ArePlaced net js earlier →
    AreSettled net js earlier (actor_count net) marks → StandsStill net js earlier
all_still net js are rules earlier marks placed settled = record {
  placed = placed;
  still = λ turns all event fits.
      (let after = turns ++ earlier in
      let no_port : (v : Visit) → visit net (past_of net after) event ≡ Some v → ⊥ = λ v is.
      (let low = steps_low js v.port (length (steps_on net v.port after)) (step_next net after v) (fits.step v is) in
      let mark = mark_at marks (length net.conns + v.port) (omega (arith, low, are.ports, settled.count_is)) in
      (port_settled net js earlier marks v.port mark.0 settled mark.1).stuck turns event v all is refl fits) in
      elim (cases_option (visit net (past_of net after) event)) [
        | inr some ↦ no_port some.0 some.1
        | inl none ↦ (elim (cases_option (entry_made net after event)) [
          | inl nothing ↦ (elim fits.falls [ inl a ↦ a none | inr b ↦ b nothing ])
          | inr entry ↦ (
              let done = own_or_visit net rules after event entry.0 none entry.1 in
              let made = entry.1 ∙ ap (λ (y : SourceEntry). Some y) done.1 in
              let its = made_own (place_at_first net after event) event (outcome_of net (past_of net after) event) event done.0 made in
              let c = its.c in
              let whose = own_conn c event its.own in
              let low : c < length net.conns = subst (λ n. c < n) are.conns (entries_low js c (length (entries_on net c after)) entry.0 (fits.entry c entry.0 whose entry.1)) in
              let mark = mark_at marks c (omega (arith, low, settled.count_is)) in
              (source_settled net js earlier marks c mark.0 settled low mark.1).stuck turns event event done.0 all whose made fits)
        ])
      ]);
}

-- an actor without entries left doesn't mismatch
pub beyond_source : (net : Topology) (js : RunJournals) → AreJournalsOf net js → (earlier : List Event) (marks : List Bool) → AreSettled net js earlier (actor_count net) marks →
    (c : ℕ) → (c < length net.conns → slice_get marks c ≡ Some false) → SourceMismatches net js earlier c → ⊥
beyond_source net js are earlier marks settled c unmarked m =
    let low : c < length net.conns = subst (λ n. c < n) are.conns (entries_low js c (length (entries_on net c (m.turns ++ earlier))) (Did m.event m.told) m.next) in
    (source_settled net js earlier marks c false settled low (unmarked low)).marks m

pub beyond_port : (net : Topology) (js : RunJournals) → AreJournalsOf net js → (earlier : List Event) (marks : List Bool) → AreSettled net js earlier (actor_count net) marks →
    (p : ℕ) → (p < length net.capacities → slice_get marks (length net.conns + p) ≡ Some false) → PortMismatches net js earlier p → ⊥
beyond_port net js are earlier marks settled p unmarked m =
    let low : p < length net.capacities = subst (λ n. p < n) are.ports (steps_low js p (length (steps_on net p (m.turns ++ earlier))) m.step m.next) in
    (port_settled net js earlier marks p false settled (unmarked low)).marks m

go : {A : Type 0} → (xs ys rest : List A) → ys ≡ xs ++ rest → length ys ≤ length xs → xs ≡ ys
go xs ys [] is long = sym (is ∙ append-nil xs)
go xs ys (z ∷ rest) is long = (let e = ap (λ l. length l) is ∙ length-append xs (z ∷ rest) in absurd (omega (arith, e)))

-- a beginning that is as long is the whole
pub whole_beginning : {A : Type 0} → (xs ys : List A) → IsBeginning xs ys → length ys ≤ length xs → xs ≡ ys
whole_beginning xs ys begins long = go xs ys begins.0 begins.1 long
