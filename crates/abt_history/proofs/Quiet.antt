-- Events of no concern to a source.
use Rattle.std.proofs.Common.{◌≡◌, ℕ, Bool, true, false, List, [], ◌∷◌, ◌++◌, refl, ap, sym, ◌∙◌, inl, inr, None, Some}
use Rattle.std.specs.Prelude.{◌==◌, ◌&&◌, if◌then◌else◌}
use Rattle.std.proofs.lemmas.Bool.{false≢true, cond-false, eq-eqb}
use Rattle.abt_net.specs.Topology.{Topology}
use Rattle.abt_node.specs.declared.reply.Onward.{Onward}
use Rattle.abt_node.specs.declared.reply.Onward.TheVariants.{Pass, Refuse, Drop}
use Rattle.abt_node.specs.declared.reply.Back.{Back}
use Rattle.abt_node.specs.declared.reply.Back.TheVariants.{Pass as PassBack, Drop as DropBack}
use Rattle.abt_facts.specs.declared.fact.Fact.{Fact}
use Rattle.abt_facts.specs.declared.fact.Fact.TheVariants.{Delivered}
use Rattle.abt_model.specs.declared.event.Event.{Event}
use Rattle.abt_model.specs.declared.event.Event.TheVariants.{Start, Ask, Again, Crash, Emit, Arrive, Request, Turn, Answer, Told, Capacity}
use Rattle.abt_model.specs.declared.outcome.Outcome.{Outcome}
use Rattle.abt_model.specs.declared.outcome.Outcome.TheVariants.{Requested, Answered, Turned}
use Rattle.abt_model.specs.Outcomes.{conn_of, outcome_of, facts_added, request_adds, answer_adds}
use Rattle.abt_model.specs.Past.{facts_of}
use Rattle.abt_model.proofs.Worlds.{conn_cases, facts_of-own, facts_of-other}
use Rattle.abt_model.specs.declared.entry.SourceEntry.TheVariants.{Sent}
use Rattle.abt_weave.specs.Projections.{is_enabled, place_at_first, past_of, entry_of, entries_on}
use Rattle.abt_weave.specs.Candidates.{is_own_of, is_beside}
use Rattle.abt_weave.proofs.Growth.{entries_other, entries_none}
use Rattle.abt_weave.proofs.LineFacts.{line}
use Rattle.abt_weave.proofs.PortEvents.{some_same}
use Rattle.abt_history.specs.Histories.{is_beside_of}

-- what is neither a source's own nor stands beside a step leaves no entry at it
its_own : {A : Type 0} → (c d : ℕ) → Some d ≡ Some c → (d == c) ≡ false → A
its_own c d whose nay = absurd (false≢true (sym nay ∙ eq-eqb d c (some_same whose)))

no_entry : (b : Bool) (hop place : ℕ) → (hop == 1) ≡ false → (if b && hop == 1 then Some (Sent place) else None) ≡ None
no_entry true hop place nay = cond-false _ _ _ nay
no_entry false hop place nay = refl

quiet_entry : (place : ℕ) (event : Event) (outcome : Outcome) (c : ℕ) → conn_of event ≡ Some c → is_own_of c event ≡ false → is_beside event ≡ false → entry_of place event outcome ≡ None
quiet_entry place (Start d now) outcome c whose own beside = its_own c d whose own
quiet_entry place (Ask d rate plan) outcome c whose own beside = its_own c d whose own
quiet_entry place (Again d) outcome c whose own beside = its_own c d whose own
quiet_entry place (Crash d) outcome c whose own beside = its_own c d whose own
quiet_entry place (Emit d now) outcome c whose own beside = its_own c d whose own
quiet_entry place (Told d seq granted) outcome c whose own beside = its_own c d whose own
quiet_entry place (Arrive d cell at) outcome c whose own beside = absurd (false≢true (sym beside))
quiet_entry place (Request d hop seq) outcome c whose own beside = no_entry (is_enabled outcome) hop place beside
quiet_entry place (Turn d seq) outcome c whose own beside = refl
quiet_entry place (Answer d hop seq granted) outcome c whose own beside = refl
quiet_entry place (Capacity p u) outcome c whose own beside = absurd (cc)

requested_quiet : (hop seq : ℕ) (onward : Onward) (facts : List Fact) → (hop == 1) ≡ false → line (request_adds hop seq onward ++ facts) ≡ line facts
requested_quiet hop seq Pass facts far = ap (λ (l : List Fact). line (l ++ facts)) (cond-false (hop == 1) (Delivered seq ∷ []) [] far)
requested_quiet hop seq (Refuse answer) facts far = ap (λ (l : List Fact). line (l ++ facts)) (cond-false (hop == 1) (Delivered seq ∷ []) [] far)
requested_quiet hop seq (Drop cause) facts far = ap (λ (l : List Fact). line (l ++ facts)) (cond-false (hop == 1) (Delivered seq ∷ []) [] far)

answered_quiet : (hop seq : ℕ) (granted : Bool) (back : Back) (facts : List Fact) → line (answer_adds hop seq granted back ++ facts) ≡ line facts
answered_quiet hop seq true PassBack facts = refl
answered_quiet hop seq false PassBack facts = refl
answered_quiet hop seq true (DropBack cause) facts = refl
answered_quiet hop seq false (DropBack cause) facts = refl

quiet_line : (facts : List Fact) (event : Event) (outcome : Outcome) (c : ℕ) → conn_of event ≡ Some c → is_own_of c event ≡ false → is_beside event ≡ false → line (facts_added facts event outcome ++ facts) ≡ line facts
quiet_line facts (Start d now) outcome c whose own beside = its_own c d whose own
quiet_line facts (Ask d rate plan) outcome c whose own beside = its_own c d whose own
quiet_line facts (Again d) outcome c whose own beside = its_own c d whose own
quiet_line facts (Crash d) outcome c whose own beside = its_own c d whose own
quiet_line facts (Emit d now) outcome c whose own beside = its_own c d whose own
quiet_line facts (Told d seq granted) outcome c whose own beside = its_own c d whose own
quiet_line facts (Arrive d cell at) outcome c whose own beside = absurd (false≢true (sym beside))
quiet_line facts (Request d hop seq) (Requested onward) c whose own beside = requested_quiet hop seq onward facts beside
quiet_line facts (Request d hop seq) other c whose own beside = refl
quiet_line facts (Turn d seq) Turned c whose own beside = refl
quiet_line facts (Turn d seq) other c whose own beside = refl
quiet_line facts (Answer d hop seq granted) (Answered back) c whose own beside = answered_quiet hop seq granted back facts
quiet_line facts (Answer d hop seq granted) other c whose own beside = refl
quiet_line facts (Capacity p u) outcome c whose own beside = absurd (cc)

-- an event of no concern to a source
pub record IsQuiet (net : Topology) (c : ℕ) (earlier : List Event) (event : Event) : Type 0 where
  pub entries : entries_on net c (event ∷ earlier) ≡ entries_on net c earlier
  pub still : line (facts_of c (past_of net (event ∷ earlier))) ≡ line (facts_of c (past_of net earlier))

beside_there : (c : ℕ) (event : Event) (b : Bool) → conn_of event ≡ Some c → is_beside_of c event (conn_of event) ≡ b → is_beside event ≡ b
beside_there c event b whose is = by (is_beside event) refl ∙ is
  where
    by : (a : Bool) → is_beside event ≡ a → a ≡ is_beside_of c event (conn_of event)
    by true e = sym (ap (is_beside_of c event) whose ∙ ap (λ (x : Bool). x && c == c) e ∙ eq-eqb c c refl)
    by false e = sym (ap (is_beside_of c event) whose ∙ ap (λ (x : Bool). x && c == c) e)

pub quiet : (net : Topology) (c : ℕ) (earlier : List Event) (event : Event) → is_own_of c event ≡ false → is_beside_of c event (conn_of event) ≡ false → IsQuiet net c earlier event
quiet net c earlier event own beside = elim (conn_cases event c) [
  | inr differ ↦ record { entries = entries_other net earlier event c differ; still = ap line (facts_of-other net (past_of net earlier) event c differ) }
  | inl same ↦ (
      let past = past_of net earlier in
      let off = beside_there c event false same beside in
      record {
        entries = entries_none net earlier event c (quiet_entry (place_at_first net earlier event) event (outcome_of net past event) c same own off);
        still = ap line (facts_of-own net past event c same) ∙ quiet_line (facts_of c past) event (outcome_of net past event) c same own off;
      })
]
