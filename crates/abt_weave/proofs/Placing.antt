-- An event that fits leaves beginnings of the journals.
use Rattle.std.proofs.Common.{◌≡◌, ℕ, inl, inr, refl, ap, List, ◌∷◌, ◌++◌, length, ◌∙◌, sym, subst, Option, None, Some}
use Rattle.std.proofs.lemmas.Bool.{cond-false, cond-true, cases_eq, eq-eqb, ne_eqb}
use Rattle.abt_net.specs.Topology.{Topology}
use Rattle.abt_model.specs.declared.event.Event.{Event}
use Rattle.abt_model.specs.declared.event.Event.TheVariants.{Capacity}
use Rattle.abt_model.specs.declared.outcome.Cause.{Cause}
use Rattle.abt_model.specs.declared.outcome.Outcome.{Outcome}
use Rattle.abt_model.specs.declared.outcome.Outcome.TheVariants.{NotEnabled}
use Rattle.abt_facts.specs.declared.fact.Fact.{Fact}
use Rattle.abt_model.specs.Outcomes.{conn_of, outcome_of, port_facts_added, past_by, after_event}
use Rattle.abt_model.specs.Past.{Past, facts_of, with_facts}
use Rattle.abt_model.proofs.Steps.{down_adds}
use Rattle.abt_model.specs.declared.entry.SourceEntry.{SourceEntry}
use Rattle.abt_weave.specs.Projections.{Step, Visit, past_of, visit, step_at, steps_on, entry_made, entry_at, entries_on}
use Rattle.abt_weave.specs.Stuck.{RunJournals, port_journal, source_journal, next_step, next_entry, step_next, Fits, ArePlaced, IsBeginning}
use Rattle.abt_weave.proofs.Beginnings.{beginning_more, beginning_nil}

port_adds_nothing : (past : Past) (event : Event) (cause : Cause) → port_facts_added event (NotEnabled cause) ++ past ≡ past
port_adds_nothing past (Capacity p u) cause = refl
port_adds_nothing past other cause = refl

adds_nothing : (past : Past) (event : Event) (cause : Cause) (o : Option ℕ) → past_by past event (NotEnabled cause) o ≡ past
adds_nothing past event cause None = port_adds_nothing past event cause
adds_nothing past event cause (Some c) = ap (λ (l : List Fact). with_facts c l past) (down_adds (facts_of c past) event cause)

-- what isn't enabled leaves the past
pub disabled_same : (net : Topology) (past : Past) (event : Event) (cause : Cause) → outcome_of net past event ≡ NotEnabled cause → after_event net past event ≡ past
disabled_same net past event cause is = ap (λ (o : Outcome). past_by past event o (conn_of event)) is ∙ adds_nothing past event cause (conn_of event)

port_placed : (net : Topology) (journals : RunJournals) (earlier : List Event) (p : ℕ) → IsBeginning (steps_on net p earlier) (port_journal journals p) →
    (o : Option Visit) → ((v : Visit) → o ≡ Some v → next_step net journals earlier v.port ≡ Some (step_next net earlier v)) →
    IsBeginning (steps_on net p earlier ++ step_at p (length (steps_on net p earlier)) o) (port_journal journals p)
port_placed net journals earlier p begins None fits = beginning_nil (steps_on net p earlier) (port_journal journals p) begins
port_placed net journals earlier p begins (Some v) fits = elim (cases_eq v.port p) [
  | inl same ↦ (
      let next : next_step net journals earlier p ≡ Some (record { place = length (steps_on net p earlier); input = v.input; reply = v.reply }) =
      subst (λ q. next_step net journals earlier q ≡ Some (record { place = length (steps_on net q earlier); input = v.input; reply = v.reply })) same (fits v refl) in
      subst (λ (l : List Step). IsBeginning (steps_on net p earlier ++ l) (port_journal journals p)) (sym (cond-true _ _ _ (eq-eqb v.port p same)))
      (beginning_more (steps_on net p earlier) (port_journal journals p) _ begins next))
  | inr differ ↦ subst (λ (l : List Step). IsBeginning (steps_on net p earlier ++ l) (port_journal journals p)) (sym (cond-false _ _ _ (ne_eqb v.port p differ)))
      (beginning_nil (steps_on net p earlier) (port_journal journals p) begins)
]

source_placed : (net : Topology) (journals : RunJournals) (earlier : List Event) (own : Option ℕ) (c : ℕ) → IsBeginning (entries_on net c earlier) (source_journal journals c) →
    (o : Option SourceEntry) → ((d : ℕ) (x : SourceEntry) → own ≡ Some d → o ≡ Some x → next_entry net journals earlier d ≡ Some x) →
    IsBeginning (entries_on net c earlier ++ entry_at own c o) (source_journal journals c)
source_placed net journals earlier own c begins None fits = beginning_nil (entries_on net c earlier) (source_journal journals c) begins
source_placed net journals earlier None c begins (Some x) fits = beginning_nil (entries_on net c earlier) (source_journal journals c) begins
source_placed net journals earlier (Some d) c begins (Some x) fits = elim (cases_eq d c) [
  | inl same ↦
      subst (λ (l : List SourceEntry). IsBeginning (entries_on net c earlier ++ l) (source_journal journals c)) (sym (cond-true _ _ _ (eq-eqb d c same)))
      (beginning_more (entries_on net c earlier) (source_journal journals c) x begins (subst (λ q. next_entry net journals earlier q ≡ Some x) same (fits d x refl refl)))
  | inr differ ↦ subst (λ (l : List SourceEntry). IsBeginning (entries_on net c earlier ++ l) (source_journal journals c)) (sym (cond-false _ _ _ (ne_eqb d c differ)))
      (beginning_nil (entries_on net c earlier) (source_journal journals c) begins)
]

pub fits_placed : (net : Topology) (journals : RunJournals) (earlier : List Event) (event : Event) → ArePlaced net journals earlier → Fits net journals earlier event → ArePlaced net journals (event ∷ earlier)
fits_placed net journals earlier event placed fits = record {
  ports = λ p. port_placed net journals earlier p (placed.ports p) (visit net (past_of net earlier) event) fits.step;
  conns = λ c. source_placed net journals earlier (conn_of event) c (placed.conns c) (entry_made net earlier event) fits.entry;
}
