-- Events that no source sees leave the sources and their access lines.
use Rattle.std.proofs.Common.{◌≡◌, ℕ, inl, inr, Bool, true, false, List, [], ◌∷◌, ◌++◌, refl, ap, sym, subst, ◌∙◌, None, Some}
use Rattle.std.specs.Prelude.{◌==◌, ◌&&◌, if◌then◌else◌}
use Rattle.std.proofs.lemmas.Bool.{cond-false, eq-eqb}
use Rattle.std.proofs.lemmas.List.{append-nil}
use Rattle.abt_node.specs.declared.reply.Onward.{Onward}
use Rattle.abt_node.specs.declared.reply.Onward.TheVariants.{Pass, Refuse, Drop}
use Rattle.abt_node.specs.declared.reply.Back.{Back}
use Rattle.abt_node.specs.declared.reply.Back.TheVariants.{Pass as PassBack, Drop as DropBack}
use Rattle.abt_net.specs.declared.conn.Conn.{Conn}
use Rattle.abt_net.specs.Topology.{Topology}
use Rattle.abt_facts.specs.declared.fact.Fact.{Fact}
use Rattle.abt_facts.specs.declared.fact.Fact.TheVariants.{Delivered}
use Rattle.abt_model.specs.declared.event.Event.{Event}
use Rattle.abt_model.specs.declared.event.Event.TheVariants.{Start, Ask, Again, Crash, Emit, Arrive, Request, Turn, Answer, Told, Capacity}
use Rattle.abt_model.specs.declared.outcome.Outcome.{Outcome}
use Rattle.abt_model.specs.declared.outcome.Outcome.TheVariants.{Arrived, Requested, Turned, Answered, Told as HasTold, NotEnabled}
use Rattle.abt_model.specs.Outcomes.{outcome_of, facts_added, request_adds, answer_adds}
use Rattle.abt_model.specs.Past.{Past, facts_of}
use Rattle.abt_model.specs.declared.entry.SourceEntry.{SourceEntry}
use Rattle.abt_model.specs.declared.entry.SourceEntry.TheVariants.{Sent}
use Rattle.abt_model.proofs.Worlds.{conn_cases, facts_of-own, facts_of-other}
use Rattle.abt_actor.specs.Actor.{actor_of}
use Rattle.abt_weave.specs.Candidates.{is_beside, is_own_of}
use Rattle.abt_weave.specs.Leaving.{facts_done}
use Rattle.abt_weave.specs.Projections.{Visit, is_enabled, entry_of, entry_made, entries_on, past_of, place_at_first, visit}
use Rattle.abt_weave.proofs.Growth.{entries_none}
use Rattle.abt_weave.proofs.LineFacts.{line, line-append}
use Rattle.abt_weave.proofs.OwnEvents.{own_visit}
use Rattle.abt_weave.proofs.OwnFacts.{own, actor_of-own}
use Rattle.abt_weave.proofs.OwnReplays.{done-append, own_replayed}
use Rattle.abt_processes.specs.Processes.{SourceProcess}
use Rattle.abt_processes.specs.Journals.{lines_of, told_by}
use Rattle.abt_processes.specs.Events.{IsProcessOf, IsSourceAfter}

line_delivered : (b : Bool) (seq : ℕ) → line (if b then Delivered seq ∷ [] else []) ≡ (if b then Delivered seq ∷ [] else [])
line_delivered true seq = refl
line_delivered false seq = refl

line_requested : (hop seq : ℕ) (onward : Onward) → line (request_adds hop seq onward) ≡ (if hop == 1 then Delivered seq ∷ [] else [])
line_requested hop seq Pass = line_delivered (hop == 1) seq
line_requested hop seq (Refuse answer) = line_delivered (hop == 1) seq
line_requested hop seq (Drop cause) = line_delivered (hop == 1) seq

line_answered : (hop seq : ℕ) (granted : Bool) (back : Back) → line (answer_adds hop seq granted back) ≡ []
line_answered hop seq true PassBack = refl
line_answered hop seq false PassBack = refl
line_answered hop seq true (DropBack cause) = refl
line_answered hop seq false (DropBack cause) = refl

not_first : (b : Bool) (x : SourceEntry) (seq : ℕ) → (if b then Some x else None) ≡ None → (if b then Delivered seq ∷ [] else []) ≡ []
not_first true x seq none = absurd (cc)
not_first false x seq none = refl

-- what leaves no entry adds nothing to the line
line_none : (facts : List Fact) (place : ℕ) (event : Event) (outcome : Outcome) → entry_of place event outcome ≡ None → line (facts_added facts event outcome) ≡ []
line_none facts place (Arrive c cell at) (Arrived verdict) none = absurd (cc)
line_none facts place (Arrive c cell at) other none = refl
line_none facts place (Request c hop seq) (Requested onward) none = line_requested hop seq onward ∙ not_first (hop == 1) (Sent place) seq none
line_none facts place (Request c hop seq) other none = refl
line_none facts place (Turn c seq) Turned none = refl
line_none facts place (Turn c seq) other none = refl
line_none facts place (Answer c hop seq granted) (Answered back) none = line_answered hop seq granted back
line_none facts place (Answer c hop seq granted) other none = refl
line_none facts place (Told c seq granted) (NotEnabled cause) none = refl
line_none facts place (Told c seq granted) (HasTold heard) none = absurd (cc)
line_none facts place (Told c seq granted) other none = refl
line_none facts place (Capacity p u) outcome none = refl
line_none facts place other outcome none = absurd (cc)

pub line_quiet : (net : Topology) (earlier : List Event) (event : Event) (c : ℕ) → entry_made net earlier event ≡ None → line (facts_of c (past_of net (event ∷ earlier))) ≡ line (facts_of c (past_of net earlier))
line_quiet net earlier event c none =
    let past = past_of net earlier in
    let facts = facts_of c past in
    elim (conn_cases event c) [
      | inl same ↦ ap line (facts_of-own net past event c same) ∙ line-append (facts_added facts event (outcome_of net past event)) facts
          ∙ ap (λ (l : List Fact). l ++ line facts) (line_none facts (place_at_first net earlier event) event (outcome_of net past event) none)
      | inr differ ↦ ap line (facts_of-other net past event c differ)
    ]

-- where a source has had the same entries, but for those that tell of its first port, it is the same actor
pub actor_same : (net : Topology) (c : ℕ) (conn : Conn) (before after : List Event) (beside : List SourceEntry) → entries_on net c after ≡ entries_on net c before ++ beside → ((facts : List Fact) → facts_done facts beside ≡ facts) →
    actor_of conn.vc (facts_of c (past_of net before)) ≡ actor_of conn.vc (facts_of c (past_of net after))
actor_same net c conn before after beside entries silent =
    let same : facts_done [] (entries_on net c after) ≡ facts_done [] (entries_on net c before) =
    ap (facts_done []) entries ∙ done-append [] (entries_on net c before) beside ∙ silent (facts_done [] (entries_on net c before)) in
    sym (actor_of-own conn.vc (facts_of c (past_of net before)))
    ∙ ap (actor_of conn.vc) (own_replayed net c before ∙ sym same ∙ sym (own_replayed net c after))
    ∙ actor_of-own conn.vc (facts_of c (past_of net after))

-- a source that has had the same entries, but for those that tell of its first port, is what it was
pub source_same : (net : Topology) (c : ℕ) (before after : List Event) (beside : List SourceEntry) (source : SourceProcess) → entries_on net c after ≡ entries_on net c before ++ beside → ((facts : List Fact) → facts_done facts beside ≡ facts) →
    lines_of (entries_on net c before ++ beside) ≡ lines_of (entries_on net c before) → IsSourceAfter net before c source → IsSourceAfter net after c source
source_same net c before after beside source entries silent lines is = record {
  deeds = ap lines_of entries ∙ lines ∙ is.deeds;
  process = λ conn known. subst (λ a. IsProcessOf a (told_by source.journal) source.process) (actor_same net c conn before after beside entries silent) (is.process conn known);
}

pub source_quiet : (net : Topology) (earlier : List Event) (event : Event) (c : ℕ) (source : SourceProcess) → entry_made net earlier event ≡ None → IsSourceAfter net earlier c source → IsSourceAfter net (event ∷ earlier) c source
source_quiet net earlier event c source none is =
    source_same net c earlier (event ∷ earlier) [] source (entries_none net earlier event c none ∙ sym (append-nil (entries_on net c earlier))) (λ facts. refl)
    (ap lines_of (append-nil (entries_on net c earlier))) is

not_both : (a b : Bool) → b ≡ false → (a && b) ≡ false
not_both true b nay = nay
not_both false b nay = refl

no_visit : (net : Topology) (past : Past) (c : ℕ) (event : Event) (v : Visit) → is_own_of c event ≡ true → visit net past event ≡ Some v → ⊥
no_visit net past c event v own is = (let clash : None ≡ Some v = sym (own_visit net past c event own) ∙ is in cc)

-- what comes to a port, and not from its own source over the access line, leaves no entry
pub far_made : (net : Topology) (earlier : List Event) (event : Event) (v : Visit) → is_beside event ≡ false → visit net (past_of net earlier) event ≡ Some v → entry_made net earlier event ≡ None
far_made net earlier (Request c hop seq) v far is =
    let o = outcome_of net (past_of net earlier) (Request c hop seq) in
    cond-false (is_enabled o && hop == 1) (Some (Sent (place_at_first net earlier (Request c hop seq)))) None (not_both (is_enabled o) (hop == 1) far)
far_made net earlier (Answer c hop seq granted) v far is = refl
far_made net earlier (Turn c seq) v far is = refl
far_made net earlier (Capacity p u) v far is = refl
far_made net earlier (Arrive c cell at) v far is = absurd (let clash : true ≡ false = far in cc)
far_made net earlier (Start c now) v far is = absurd (no_visit net (past_of net earlier) c (Start c now) v (eq-eqb c c refl) is)
far_made net earlier (Ask c rate plan) v far is = absurd (no_visit net (past_of net earlier) c (Ask c rate plan) v (eq-eqb c c refl) is)
far_made net earlier (Again c) v far is = absurd (no_visit net (past_of net earlier) c (Again c) v (eq-eqb c c refl) is)
far_made net earlier (Crash c) v far is = absurd (no_visit net (past_of net earlier) c (Crash c) v (eq-eqb c c refl) is)
far_made net earlier (Emit c now) v far is = absurd (no_visit net (past_of net earlier) c (Emit c now) v (eq-eqb c c refl) is)
far_made net earlier (Told c seq granted) v far is = absurd (no_visit net (past_of net earlier) c (Told c seq granted) v (eq-eqb c c refl) is)
