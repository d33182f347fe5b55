-- No decrease is refused, in any past.
use Rattle.std.proofs.Common.{◌≡◌, ℕ, ◌≤◌, ◌<◌, ◌⊎◌, inl, inr, refl, ap, true, false, List, [], ◌∷◌, ◌++◌, length, ◌∙◌, sym, subst, arith}
use Rattle.std.specs.Prelude.{◌==◌, All}
use Rattle.std.proofs.lemmas.Bool.{false≢true, false_from_ne_true, cond_both}
use Rattle.abt_cell.specs.Message.{Reply}
use Rattle.abt_node.specs.declared.reply.DropCause.{DropCause}
use Rattle.abt_node.specs.declared.reply.DropCause.TheVariants.{UnknownVc, Stale, Conflict, FloorAbove}
use Rattle.abt_node.specs.declared.reply.Onward.{Onward}
use Rattle.abt_node.specs.declared.reply.Onward.TheVariants.{Pass, Refuse, Drop}
use Rattle.abt_net.specs.Topology.{Topology, IsWithinRules, conn_at}
use Rattle.abt_facts.specs.declared.fact.Fact.{Fact}
use Rattle.abt_facts.specs.declared.fact.Fact.TheVariants.{Delivered, Shut}
use Rattle.abt_facts.specs.Requests.{floor_of, ask_of}
use Rattle.abt_facts.specs.Sent.{was_shut}
use Rattle.abt_facts.specs.Hop.{held_of}
use Rattle.abt_model.specs.declared.event.Event.{Event}
use Rattle.abt_model.specs.declared.event.Event.TheVariants.{Request}
use Rattle.abt_model.specs.declared.outcome.Outcome.{Outcome}
use Rattle.abt_model.specs.declared.outcome.Outcome.TheVariants.{Requested}
use Rattle.abt_model.specs.Events.{AsksRate}
use Rattle.abt_model.specs.Targets.{target_of, hop_in}
use Rattle.abt_model.specs.Past.{Past, facts_of}
use Rattle.abt_model.specs.Reserved.{reserved_on, capacity_of}
use Rattle.abt_model.specs.Outcomes.{port_of, outcome_of, delivery, facts_added, after_event}
use Rattle.abt_model.specs.Run.{facts_after}
use Rattle.abt_model.specs.Promises.{EveryPast, disputes}
use Rattle.abt_model.proofs.Drops.{outcome_agrees}
use Rattle.abt_model.proofs.Holds.{shut_there}
use Rattle.abt_model.proofs.Sums.{AllWithin, facts_after_lawful}
use Rattle.abt_model.proofs.Worlds.{cases_option, conn_cases, facts_of-own, facts_of-other, outcome_of-known, after_event-unknown, AllLawful, lawful_at}
use Rattle.abt_laws.specs.Decreases.{IsDecrease, DecreasesAreNeverShut, DecreasesPassOrAreStale}
use Rattle.abt_laws.proofs.Places.{port_of-hop, held_reserved, every_past}
use Rattle.abt_laws.proofs.Rising.{ShutsRise, step_rises}

-- what was shut asked for more than its floor, of each connection
abbrev AllRise : Past → Type 0
AllRise past = (c : ℕ) → ShutsRise (facts_of c past)

after_event_rises : (net : Topology) → IsWithinRules net → (past : Past) (e : Event) → AllLawful net past → AllWithin net past → AsksRate e → AllRise past → AllRise (after_event net past e)
after_event_rises net rules past e lawful within rate rise d = elim (conn_cases e d) [
  | inr differ ↦ subst ShutsRise (sym (facts_of-other net past e d differ)) (rise d)
  | inl own ↦ elim (cases_option (conn_at net d)) [
    | inl unknown ↦ subst (λ v. ShutsRise (facts_of d v)) (sym (after_event-unknown net past e d own unknown)) (rise d)
    | inr known ↦ (
        let conn = known.0 in
        let fs = facts_of d past in
        let p = port_of conn.path e in
        let is = facts_of-own net past e d own ∙ ap (λ (o : Outcome). facts_added fs e o ++ fs) (outcome_of-known net past e d conn own known.1) in
        let mine : 1 ≤ hop_in (target_of e) → hop_in (target_of e) ≤ length conn.path → held_of fs (hop_in (target_of e)) ≤ reserved_on net past p =
        λ low high. subst (λ q. held_of fs (hop_in (target_of e)) ≤ reserved_on net past q) (sym (port_of-hop conn.path e low)) (held_reserved net rules past d conn known.1 (hop_in (target_of e)) low high) in
        subst ShutsRise (sym is) (step_rises conn (reserved_on net past p) (capacity_of net past p) fs (lawful_at net past lawful d conn known.1) e rate (within p) mine (rise d)))
  ]
]

rises : (net : Topology) (events : List Event) → IsWithinRules net → All AsksRate events → AllRise (facts_after net events)
rises net events rules rates = every_past net AllRise (λ c s j h. absurd (false≢true h)) (λ past e. after_event_rises net rules past e) events rates

never_shut : (past : Past) → AllRise past → (c s j : ℕ) → IsDecrease (facts_of c past) s → was_shut (facts_of c past) s j ≡ false
never_shut past rise c s j decrease =
    false_from_ne_true _ (λ h. (let more = rise c s j h in let same = decrease.floor in omega arith))

pub every_decrease_unshut : EveryPast DecreasesAreNeverShut
every_decrease_unshut net events rules rates c s j decrease = never_shut (facts_after net events) (rises net events rules rates) c s j decrease

-- a refusal shuts, which no decrease is
refused_shut : (net : Topology) (past : Past) (c s j : ℕ) (answer : Reply) → outcome_of net past (Request c j s) ≡ Requested (Refuse answer) →
    AllRise (after_event net past (Request c j s)) → floor_of (facts_of c past) s < ask_of (facts_of c past) s
refused_shut net past c s j answer refused rise =
    let fs = facts_of c past in
    let e = Request c j s in
    let is : facts_of c (after_event net past e) ≡ Shut s j ∷ (delivery j s ++ fs) = facts_of-own net past e c refl ∙ ap (λ (o : Outcome). facts_added fs e o ++ fs) refused in
    let there : was_shut (facts_of c (after_event net past e)) s j ≡ true = subst (λ (gs : List Fact). was_shut gs s j ≡ true) (sym is) (shut_there (delivery j s ++ fs) s j) in
    let more : floor_of (Shut s j ∷ (delivery j s ++ fs)) s < ask_of (Shut s j ∷ (delivery j s ++ fs)) s = subst (λ (gs : List Fact). floor_of gs s < ask_of gs s) is (rise c s j there) in
    (cond_both (j == 1) (Delivered s ∷ []) [] (λ (l : List Fact). floor_of (Shut s j ∷ (l ++ fs)) s < ask_of (Shut s j ∷ (l ++ fs)) s → floor_of fs s < ask_of fs s) (λ e2 m. m) (λ e2 m. m)) more

stale_alone : (cause : DropCause) → disputes (Requested (Drop cause)) ≡ false → cause ≡ Stale
stale_alone UnknownVc e = absurd (false≢true (sym e))
stale_alone Stale e = refl
stale_alone Conflict e = absurd (false≢true (sym e))
stale_alone FloorAbove e = absurd (false≢true (sym e))

onward_cases : (onward : Onward) → disputes (Requested onward) ≡ false → ((answer : Reply) → onward ≡ Refuse answer → ⊥) → (onward ≡ Pass) ⊎ (onward ≡ Drop Stale)
onward_cases Pass agrees never = inl refl
onward_cases (Refuse answer) agrees never = absurd (never answer refl)
onward_cases (Drop cause) agrees never = inr (ap Drop (stale_alone cause agrees))

pub every_decrease_passes : EveryPast DecreasesPassOrAreStale
every_decrease_passes net events rules rates c s j onward decrease answered =
    let past = facts_after net events in
    let both = facts_after_lawful net events rates in
    let agrees : disputes (Requested onward) ≡ false = sym (ap disputes answered) ∙ outcome_agrees net past both.0 (Request c j s) in
    onward_cases onward agrees (λ answer is.
    let refused = answered ∙ ap Requested is in
    let rise = after_event_rises net rules past (Request c j s) both.0 both.1 tt (rises net events rules rates) in
    let more = refused_shut net past c s j answer refused rise in
    let same = decrease.floor in
    omega arith)
