-- What a port does in events is what it does by its own journal.
use Rattle.std.proofs.Common.{◌≡◌, ◌∙◌, inl, inr, ℕ, zero, suc, ◌+◌, ◌<◌, List, [], ◌∷◌, ◌++◌, length, map, take, get_or, refl, sym, ap, subst, arith, append-nil, Option, Some}
use Rattle.std.proofs.lemmas.List.{take_more}
use Rattle.std.proofs.lemmas.Bool.{cases_eq, cases_lt, cond-false, cond-true, eq-eqb, ne_eqb}
use Rattle.std.proofs.lemmas.Option.{slice_get_read}
use Rattle.std.specs.Prelude.{◌==◌, All, option_map, reverse, slice_get}
use Rattle.abt_net.specs.Topology.{Topology, IsWithinRules}
use Rattle.abt_node.specs.Table.{Table}
use Rattle.abt_model.specs.Events.{AsksRate}
use Rattle.abt_model.specs.PortTable.{port_table}
use Rattle.abt_model.specs.declared.event.Event.{Event}
use Rattle.abt_model.proofs.Worlds.{cases_option, others_ask}
use Rattle.abt_journal.specs.Replay.{replay, reply_by, table_after}
use Rattle.abt_journal.specs.declared.entry.Entry.{Entry}
use Rattle.abt_journal.specs.declared.input.PortReply.{PortReply}
use Rattle.abt_weave.specs.Projections.{Step, Visit, past_of, step_at, step_of, steps_on, visit}
use Rattle.abt_weave.specs.Stuck.{RunJournals}
use Rattle.abt_weave.proofs.Leavings.{all_reversed}
use Rattle.abt_weave.proofs.PortEvents.{some_same}
use Rattle.abt_weave.proofs.Replays.{event_made, past_lawful, replayed, tables_replayed}
use Rattle.abt_audit.specs.Obeyed.{WovenPortsObey, WovenSourcesObey}
use Rattle.abt_audit.specs.OneLog.{PortObeys}
use Rattle.abt_audit.specs.Protocol.{port_answer}
use Rattle.abt_audit.proofs.OwnAnswers.{woven_fits}
use Rattle.abt_audit.proofs.Tried.{written_fits}

-- each step has the reply of a table, from this one on
abbrev StepsFrom : Table → List Step → Type 0
StepsFrom table [] = Unit {0}
StepsFrom table (step ∷ more) = (step.reply ≡ reply_by table step.input) × StepsFrom (table_after table step.input) more

steps_behind : (table : Table) (steps : List Step) (one : Step) → StepsFrom table steps → one.reply ≡ reply_by (replayed table steps) one.input
    → StepsFrom table (steps ++ one ∷ [])
steps_behind table [] one so is = (is, tt)
steps_behind table (step ∷ more) one so is = (so.0, steps_behind (table_after table step.input) more one so.1 is)

-- one event more
steps_on_more : (net : Topology) → IsWithinRules net → (event : Event) (earlier : List Event) → All AsksRate earlier → (p : ℕ)
    → StepsFrom (port_table net [] p) (steps_on net p earlier) → StepsFrom (port_table net [] p) (steps_on net p (event ∷ earlier))
steps_on_more net rules event earlier rates p so =
    let past = past_of net earlier in
    let steps = steps_on net p earlier in
    let place = length steps in
    let table = port_table net [] p in
    let unchanged : StepsFrom table (steps ++ []) = subst (StepsFrom table) (sym (append-nil steps)) so in
    elim (cases_option (visit net past event)) [
      | inl none ↦ subst (λ (o : Option Visit). StepsFrom table (steps ++ step_at p place o)) (sym none) unchanged
      | inr some ↦ (
          let v = some.0 in
          let made : Step = record { place = place; input = v.input; reply = v.reply } in
          subst (λ (o : Option Visit). StepsFrom table (steps ++ step_at p place o)) (sym some.1)
          (elim (cases_eq v.port p) [
            | inl same ↦ subst (λ (l : List Step). StepsFrom table (steps ++ l)) (sym (cond-true (v.port == p) (made ∷ []) [] (eq-eqb v.port p same)))
                (steps_behind table steps made so
                ((event_made net past rules (past_lawful net earlier rates) event v some.1).0
                ∙ ap (λ (q : ℕ). reply_by (port_table net past q) v.input) same
                ∙ ap (λ (t : Table). reply_by t v.input) (tables_replayed net rules earlier rates p)))
            | inr differ ↦ subst (λ (l : List Step). StepsFrom table (steps ++ l)) (sym (cond-false (v.port == p) (made ∷ []) [] (ne_eqb v.port p differ))) unchanged
          ]))
    ]

-- the steps that events are to a port have the replies of its table
steps_played : (net : Topology) → IsWithinRules net → (earlier : List Event) → All AsksRate earlier → (p : ℕ)
    → StepsFrom (port_table net [] p) (steps_on net p earlier)
steps_played net rules [] rates p = tt
steps_played net rules (event ∷ earlier) rates p =
    let before = others_ask event earlier rates in steps_on_more net rules event earlier before p (steps_played net rules earlier before p)

-- so have entries that are these steps
entries_obey : (table : Table) (entries : List Entry) → StepsFrom table (map step_of entries) → (place : ℕ) (entry : Entry)
    → slice_get entries place ≡ Some entry → reply_by (replay table (take place entries)) entry.input ≡ entry.reply
entries_obey table [] so place entry at = absurd (cc)
entries_obey table (one ∷ more) so zero entry at =
    subst (λ (e : Entry). reply_by table e.input ≡ e.reply) (some_same at) (sym so.0)
entries_obey table (one ∷ more) so (suc n) entry at = entries_obey (table_after table one.input) more so.1 n entry at

answer_there : (net : Topology) (p place : ℕ) (entries : List Entry) (entry : Entry) → slice_get entries place ≡ Some entry
    → port_answer net p entries place ≡ Some (reply_by (replay (port_table net [] p) (take place entries)) entry.input)
answer_there net p place entries entry at =
    ap (option_map (λ (e : Entry). reply_by (replay (port_table net [] p) (take place entries)) e.input)) at

pub woven_ports_obey : (net : Topology) (journals : RunJournals) → IsWithinRules net → WovenPortsObey net journals
woven_ports_obey net journals rules events rates woven p entries known = λ place entry low at. (
    let played = steps_played net rules (reverse events) (all_reversed AsksRate events rates) p in
    let so = subst (StepsFrom (port_table net [] p)) (woven.ports p entries known) played in
    answer_there net p place entries entry at ∙ ap (λ (r : PortReply). Some r) (entries_obey (port_table net [] p) entries so place entry at))

pub woven_sources_obey : (net : Topology) (journals : RunJournals) → WovenSourcesObey net journals
woven_sources_obey net journals events woven c conn full written first spots at known there completes =
    written_fits conn.vc [] first spots 0 written.entries full.entries at completes
    (woven_fits net journals.ports journals.sources events woven c conn full known there)

-- no entry obeys before the first
pub obeys_none : (net : Topology) (p : ℕ) (entries : List Entry) → PortObeys net p entries 0
obeys_none net p entries = λ place entry low. absurd (omega (arith, low))

-- one entry more obeys
pub obeys_more : (net : Topology) (p n : ℕ) (entries : List Entry) (one : Entry) → n < length entries → one ≡ get_or entries n one
    → one.reply ≡ reply_by (replay (port_table net [] p) (take n entries)) one.input → PortObeys net p entries n → PortObeys net p entries (n + 1)
obeys_more net p n entries one low is reply before = λ place entry under at. elim (cases_lt place n) [
  | inl earlier ↦ before place entry earlier at
  | inr late ↦ (let here : place ≡ n = omega (arith, under, late) in
      let there : slice_get entries n ≡ Some one = slice_get_read entries (length entries) n one refl low is in
      let same : entry ≡ one = some_same (sym at ∙ ap (slice_get entries) here ∙ there) in
      ap (port_answer net p entries) here ∙ answer_there net p n entries one there
      ∙ ap (λ (r : PortReply). Some r) (sym reply ∙ ap (λ (e : Entry). e.reply) (sym same)))
]

-- the entry with another reply doesn't
pub differs_there : (net : Topology) (p n : ℕ) (entries : List Entry) (one : Entry) (reply : PortReply) → n < length entries → one ≡ get_or entries n one
    → reply ≡ reply_by (replay (port_table net [] p) (take n entries)) one.input → (reply ≡ one.reply → ⊥) → PortObeys net p entries (n + 1) → ⊥
differs_there net p n entries one reply low is gives other obeys =
    let there : slice_get entries n ≡ Some one = slice_get_read entries (length entries) n one refl low is in
    let told = obeys n one (omega arith) there in
    other (gives ∙ some_same (sym (answer_there net p n entries one there) ∙ told))

replay_more : (table : Table) (entries : List Entry) (entry : Entry) → replay table (entries ++ entry ∷ []) ≡ table_after (replay table entries) entry.input
replay_more table [] entry = refl
replay_more table (one ∷ entries) entry = replay_more (table_after table one.input) entries entry

-- the table of a port that has taken one entry more
pub table_more : (opening old new : Table) (n : ℕ) (entries : List Entry) (one : Entry) → n < length entries → one ≡ get_or entries n one
    → old ≡ replay opening (take n entries) → new ≡ table_after old one.input → new ≡ replay opening (take (n + 1) entries)
table_more opening old new n entries one low is old_is new_is =
    new_is ∙ ap (λ (t : Table). table_after t one.input) old_is ∙ sym (replay_more opening (take n entries) one)
    ∙ ap (replay opening) (sym (take_more entries n one low ∙ ap (λ (e : Entry). take n entries ++ e ∷ []) (sym is)))
