-- An entry of a source that mismatches has another outcome than the source's own.
use Rattle.std.proofs.Common.{◌≡◌, ◌∙◌, ℕ, List, ◌++◌, length, reverse, take, sym, ap, subst, Some}
use Rattle.std.specs.Prelude.{slice_get, option_and_then}
use Rattle.std.proofs.Math.Seq.{take-append_seam}
use Rattle.abt_net.specs.Topology.{Topology}
use Rattle.abt_model.specs.Outcomes.{outcome_of}
use Rattle.abt_model.specs.declared.entry.SourceEntry.{SourceEntry}
use Rattle.abt_model.specs.declared.entry.SourceEntry.TheVariants.{Did}
use Rattle.abt_model.specs.declared.event.Event.{Event}
use Rattle.abt_model.specs.declared.outcome.Outcome.{Outcome}
use Rattle.abt_weave.specs.Projections.{past_of, entries_on}
use Rattle.abt_weave.specs.Stuck.{RunJournals, entries_in, source_journal, SourceMismatches}
use Rattle.abt_weave.proofs.Turns.{entries_turns}
use Rattle.abt_weave.proofs.OwnEvents.{made_own, own_fits, own_here}
use Rattle.abt_weave.proofs.PortEvents.{some_same}
use Rattle.abt_audit.specs.Contradicted.{SourcesAreContradicted}
use Rattle.abt_audit.specs.Protocol.{answer_in, facts_through, source_answer}
use Rattle.abt_audit.proofs.OwnAnswers.{played_fits, made_answers}

same_event : (one two : Event) (a b : Outcome) → Some (Did one a) ≡ Some (Did two b) → one ≡ two
same_event one two a b is = cc

same_told : (one two : Event) (a b : Outcome) → Some (Did one a) ≡ Some (Did two b) → a ≡ b
same_told one two a b is = cc

pub sources_are_contradicted : (net : Topology) (journals : RunJournals) → SourcesAreContradicted net journals
sources_are_contradicted net journals c place conn journal event told fault known at here answers =
    let earlier = reverse fault.0 in
    let still = fault.2 in
    let m : SourceMismatches net journals earlier c = fault.3.1 in
    let all = m.turns ++ earlier in
    let entries = entries_on net c earlier in
    let same : entries_on net c all ≡ entries = entries_turns net earlier m.turns m.turned c in
    let whole : source_journal journals c ≡ journal.entries = ap entries_in at in
    let begins = still.placed.conns c in
    let taken : take (length entries) journal.entries ≡ entries_on net c all =
    ap (take (length entries)) (sym whole ∙ begins.1) ∙ take-append_seam entries begins.0 ∙ sym same in
    let there : slice_get journal.entries (length entries) ≡ Some (Did event told) = subst (λ (k : ℕ). slice_get journal.entries k ≡ Some (Did event told)) fault.3.0 here in
    let next : Some (Did m.event m.told) ≡ Some (Did event told) =
    sym m.next ∙ ap (λ (l : List SourceEntry). slice_get l (length (entries_on net c all))) whole
    ∙ ap (λ (l : List SourceEntry). slice_get journal.entries (length l)) same ∙ there in
    let own = made_answers net c conn known all m.event m.here (played_fits net c conn known all) (Did m.event m.outcome) m.does in
    let answer : source_answer conn.vc journal.entries place ≡ answer_in conn.vc (facts_through conn.vc (entries_on net c all)) (Did event told) =
    ap (source_answer conn.vc journal.entries) fault.3.0
    ∙ ap (option_and_then (answer_in conn.vc (facts_through conn.vc (take (length entries) journal.entries)))) there
    ∙ ap (λ (l : List SourceEntry). answer_in conn.vc (facts_through conn.vc l) (Did event told)) taken in
    let event_is : event ≡ m.event = sym (same_event m.event event m.told told next) in
    let told_is : m.told ≡ told = same_told m.event event m.told told next in
    let by_own : Some told ≡ Some m.outcome =
    sym answers ∙ answer ∙ ap (λ (e : Event). answer_in conn.vc (facts_through conn.vc (entries_on net c all)) (Did e told)) event_is ∙ own.told in
    let outcome_is : told ≡ m.outcome = some_same by_own in
    let its = made_own _ m.event (outcome_of net (past_of net all) m.event) m.event m.outcome m.does in
    still.still m.turns m.turned m.event
    (own_fits net journals all c m.event m.outcome (own_here its.c c m.event its.own m.here) (sym its.outcome_is) its.enabled
    (m.next ∙ ap (λ (o : Outcome). Some (Did m.event o)) (told_is ∙ outcome_is)))
