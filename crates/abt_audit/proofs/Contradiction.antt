-- An entry of a port that mismatches has another reply than the protocol's.
use Rattle.std.proofs.Common.{◌≡◌, ◌∙◌, ℕ, List, [], ◌∷◌, ◌++◌, length, map, reverse, take, inl, sym, ap, subst, Some}
use Rattle.std.specs.Prelude.{slice_get, All, option_map}
use Rattle.std.proofs.Math.Seq.{take-append_seam}
use Rattle.std.proofs.lemmas.List.{take-map}
use Rattle.std.proofs.lemmas.List.Elements.{All-cons}
use Rattle.abt_net.specs.Topology.{Topology, IsWithinRules}
use Rattle.abt_model.specs.declared.event.Event.{Event}
use Rattle.abt_model.specs.Events.{AsksRate}
use Rattle.abt_model.specs.PortTable.{port_table}
use Rattle.abt_node.specs.Table.{Table}
use Rattle.abt_journal.specs.declared.entry.Entry.{Entry}
use Rattle.abt_journal.specs.declared.input.PortReply.{PortReply}
use Rattle.abt_journal.specs.Replay.{reply_by, replay}
use Rattle.abt_weave.specs.Projections.{Step, step_of, Visit, past_of, steps_on}
use Rattle.abt_weave.specs.Stuck.{RunJournals, steps_in, port_journal, next_step, step_next, Fits, AreTurns, StandsStill, PortMismatches}
use Rattle.abt_weave.proofs.Turns.{steps_turns}
use Rattle.abt_weave.proofs.Leavings.{all_reversed}
use Rattle.abt_weave.proofs.PortEvents.{some_same}
use Rattle.abt_weave.proofs.Replays.{replayed, replay-steps, tables_replayed, past_lawful, event_made}
use Rattle.abt_audit.proofs.Lists.{got_map}
use Rattle.abt_audit.specs.Contradicted.{PortsAreContradicted}
use Rattle.abt_audit.specs.Protocol.{port_answer}

-- Turns ask for no rate
turns_ask : (net : Topology) (earlier turns : List Event) → AreTurns net earlier turns → All AsksRate earlier → All AsksRate (turns ++ earlier)
turns_ask net earlier [] are rates = rates
turns_ask net earlier (event ∷ turns) are rates =
    All-cons AsksRate event (turns ++ earlier) (subst AsksRate (sym are.0.is) tt) (turns_ask net earlier turns are.1 rates)

-- the steps that events make of a journal are those of the entries so far
steps_taken : (steps rest : List Step) (entries : List Entry) → map step_of entries ≡ steps ++ rest → map step_of (take (length steps) entries) ≡ steps
steps_taken steps rest entries is =
    sym (take-map step_of (length steps) entries) ∙ ap (take (length steps)) is ∙ take-append_seam steps rest

-- what comes of the event that the entry would be is what the port replies there
told_is : (net : Topology) (journals : RunJournals) → IsWithinRules net → (earlier : List Event) → All AsksRate earlier → StandsStill net journals earlier → (p : ℕ)
    → (m : PortMismatches net journals earlier p) → (entries : List Entry) (entry : Entry) → slice_get journals.ports p ≡ Some entries
    → slice_get entries (length (steps_on net p earlier)) ≡ Some entry
    → (step_of entry ≡ m.step) × (m.visits.reply ≡ reply_by (replay (port_table net [] p) (take (length (steps_on net p earlier)) entries)) entry.input)
told_is net journals rules earlier rates still p m entries entry known at =
    let all = m.turns ++ earlier in
    let n = length (steps_on net p earlier) in
    let same : steps_on net p all ≡ steps_on net p earlier = steps_turns net earlier m.turns m.turned p in
    let journal : port_journal journals p ≡ map step_of entries = ap steps_in known in
    let begins = still.placed.ports p in
    let taken : map step_of (take n entries) ≡ steps_on net p earlier = steps_taken (steps_on net p earlier) begins.0 entries (sym journal ∙ begins.1) in
    let asks = turns_ask net earlier m.turns m.turned rates in
    let past = past_of net all in
    let table : port_table net past p ≡ replay (port_table net [] p) (take n entries) =
    tables_replayed net rules all asks p ∙ ap (replayed (port_table net [] p)) (same ∙ sym taken) ∙ sym (replay-steps (port_table net [] p) (take n entries)) in
    let there : slice_get (map step_of entries) n ≡ Some (step_of entry) = got_map step_of entries n ∙ ap (option_map step_of) at in
    let next : Some (step_of entry) ≡ Some m.step =
    sym there ∙ ap (λ (steps : List Step). slice_get steps n) (sym journal)
    ∙ ap (λ (k : ℕ). slice_get (port_journal journals p) k) (sym (ap length same)) ∙ m.next in
    let step : step_of entry ≡ m.step = some_same next in
    let input : m.visits.input ≡ entry.input = sym m.input ∙ sym (ap (λ (s : Step). s.input) step) in
    let served = event_made net past rules (past_lawful net all asks) m.event m.visits m.comes in
    let reply : m.visits.reply ≡ reply_by (port_table net past p) m.visits.input =
    served.0 ∙ ap (λ (q : ℕ). reply_by (port_table net past q) m.visits.input) m.here in
    (step, reply ∙ ap (λ (t : Table). reply_by t m.visits.input) table ∙ ap (reply_by (replay (port_table net [] p) (take n entries))) input)

-- an event that would be the entry, reply and all, fits
would_fit : (net : Topology) (journals : RunJournals) (earlier : List Event) (p : ℕ) → (m : PortMismatches net journals earlier p) → m.step.reply ≡ m.visits.reply
    → Fits net journals (m.turns ++ earlier) m.event
would_fit net journals earlier p m reply =
    let all = m.turns ++ earlier in
    let step : m.step ≡ step_next net all m.visits =
    λ i. record { place = (m.place ∙ ap (λ (q : ℕ). length (steps_on net q all)) (sym m.here)) i; input = m.input i; reply = reply i } in
    let own : next_step net journals all m.visits.port ≡ Some (step_next net all m.visits) =
    ap (λ (q : ℕ). next_step net journals all q) m.here ∙ m.next ∙ ap (λ (s : Step). Some s) step in
    record {
      falls = inl (λ none. (let clash = sym m.comes ∙ none in absurd (cc)));
      step = λ v is. (let same : m.visits ≡ v = some_same (sym m.comes ∙ is) in
          subst (λ (w : Visit). next_step net journals all w.port ≡ Some (step_next net all w)) same own);
      entry = m.beside;
    }

pub ports_are_contradicted : (net : Topology) (journals : RunJournals) → IsWithinRules net → PortsAreContradicted net journals
ports_are_contradicted net journals rules p place entries entry fault known at answers =
    let earlier = reverse fault.0 in
    let still = fault.2 in
    let m = fault.3.1 in
    let here : slice_get entries (length (steps_on net p earlier)) ≡ Some entry = subst (λ k. slice_get entries k ≡ Some entry) fault.3.0 at in
    let told = told_is net journals rules earlier (all_reversed AsksRate fault.0 fault.1) still p m entries entry known here in
    let answer : port_answer net p entries place ≡ Some m.visits.reply =
    ap (port_answer net p entries) fault.3.0
    ∙ ap (option_map (λ (e : Entry). reply_by (replay (port_table net [] p) (take (length (steps_on net p earlier)) entries)) e.input)) here
    ∙ ap (λ (r : PortReply). Some r) (sym told.1) in
    let reply : entry.reply ≡ m.visits.reply = some_same (sym answers ∙ answer) in
    let step : m.step.reply ≡ m.visits.reply = ap (λ (s : Step). s.reply) (sym told.0) ∙ reply in
    still.still m.turns m.turned m.event (would_fit net journals earlier p m step)
