-- Events that are tried on a world.
use Rattle.std.proofs.lemmas.Bool.{false≢true}
use Rattle.std.proofs.Common.{Some, ◌≡◌, ◌≢◌, refl, ap, Bool, true, false, List, [], ◌∷◌, ◌++◌, ◌∙◌, sym, subst, MatchBool}
use Rattle.abt_net.specs.Topology.{Topology}
use Rattle.abt_model.specs.Past.{Past}
use Rattle.abt_model.specs.declared.event.Event.{Event}
use Rattle.abt_model.specs.declared.outcome.Cause.{Cause}
use Rattle.abt_model.specs.declared.outcome.Outcome.{Outcome}
use Rattle.abt_model.specs.declared.outcome.Outcome.TheVariants.{NotEnabled}
use Rattle.abt_model.specs.Outcomes.{outcome_of, after_event}
use Rattle.abt_model.specs.Run.{facts_after}
use Rattle.abt_model.proofs.Runs.{facts_from_push}
use Rattle.abt_journal.specs.declared.input.PortReply.{PortReply}
use Rattle.abt_world.specs.Standing.{WorldView, StandsFor, IsOfPast}
use Rattle.abt_weave.specs.Projections.{is_enabled, reply_of}
use Rattle.abt_weave.proofs.Placing.{disabled_same}
use Rattle.abt_weave.specs.declared.trying.Tried.{Tried}
use Rattle.abt_weave.specs.declared.trying.Tried.TheVariants.{Agrees, Differs, Absent}
use Rattle.abt_weave.specs.Tried.{IsOwnVerdict, IsVisitVerdict, IsOwnTried, IsVisitTried, IsTurnTried}

not_enabled : (outcome : Outcome) → is_enabled outcome ≡ false → (cause : Cause) × (outcome ≡ NotEnabled cause)
not_enabled (NotEnabled cause) h = (cause, refl)
not_enabled other h = absurd (cc)

-- an event that can't happen leaves the world of those before it
disabled_stands : (net : Topology) (events : List Event) (event : Event) (old new : WorldView) → StandsFor net events old → StandsFor net (events ++ event ∷ []) new →
    is_enabled (outcome_of net (facts_after net events) event) ≡ false → StandsFor net events new
disabled_stands net events event old new before after off =
    let past = facts_after net events in
    let why = not_enabled (outcome_of net past event) off in
    record {
      rates = before.rates;
      stands = subst (λ (w : Past). IsOfPast net w new) (facts_from_push net [] events event ∙ disabled_same net past event why.0 why.1) after.stands;
    }

pub own_tried : (net : Topology) (events : List Event) (event : Event) (told : Outcome) (old new : WorldView) (outcome : Outcome) (tried : Tried) → StandsFor net events old →
    outcome ≡ outcome_of net (facts_after net events) event → StandsFor net (events ++ event ∷ []) new → IsOwnVerdict event outcome told tried → IsOwnTried net events event told new tried
own_tried net events event told old new outcome Agrees before is after verdict = (subst (λ o. IsOwnVerdict event o told Agrees) is verdict, after)
own_tried net events event told old new outcome Differs before is after verdict = (subst (λ o. IsOwnVerdict event o told Differs) is verdict, tt)
own_tried net events event told old new outcome Absent before is after verdict =
    let there = subst (λ o. IsOwnVerdict event o told Absent) is verdict in
    (there, disabled_stands net events event old new before after there.1)

pub visit_tried : (net : Topology) (events : List Event) (event : Event) (told : PortReply) (old new : WorldView) (outcome : Outcome) (tried : Tried) → StandsFor net events old →
    outcome ≡ outcome_of net (facts_after net events) event → StandsFor net (events ++ event ∷ []) new → IsVisitVerdict outcome told tried → IsVisitTried net events event told new tried
visit_tried net events event told old new outcome Agrees before is after verdict = (subst (λ o. IsVisitVerdict o told Agrees) is verdict, after)
visit_tried net events event told old new outcome Differs before is after verdict = (subst (λ o. IsVisitVerdict o told Differs) is verdict, tt)
visit_tried net events event told old new outcome Absent before is after verdict =
    let there = subst (λ o. IsVisitVerdict o told Absent) is verdict in
    (there, disabled_stands net events event old new before after there)

pub turn_tried : (net : Topology) (events : List Event) (event : Event) (old new : WorldView) (outcome : Outcome) (happens : Bool) → StandsFor net events old →
    outcome ≡ outcome_of net (facts_after net events) event → StandsFor net (events ++ event ∷ []) new → happens ≡ is_enabled outcome → IsTurnTried net events event new happens
turn_tried net events event old new outcome true before is after verdict = (sym (ap is_enabled is) ∙ sym verdict, after)
turn_tried net events event old new outcome false before is after verdict =
    let there = sym (ap is_enabled is) ∙ sym verdict in
    (there, disabled_stands net events event old new before after there)

off_reply : (outcome : Outcome) (reply : PortReply) → is_enabled outcome ≡ false → reply_of outcome ≢ Some reply
off_reply (NotEnabled cause) reply h = λ e. (let clash = e in cc)
off_reply other reply h = λ e. absurd (false≢true (sym h))

-- what didn't agree has another reply, or none
pub not_agreed : (net : Topology) (events : List Event) (event : Event) (told : PortReply) (world : WorldView) (tried : Tried) → (tried ≡ Agrees → ⊥) → IsVisitTried net events event told world tried →
    reply_of (outcome_of net (facts_after net events) event) ≢ Some told
not_agreed net events event told world Agrees never is = absurd (never refl)
not_agreed net events event told world Differs never is = is.0.1
not_agreed net events event told world Absent never is = off_reply (outcome_of net (facts_after net events) event) told is.0
