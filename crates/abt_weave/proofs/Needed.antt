-- Turns that a yes needs.
use Rattle.std.proofs.Common.{◌≡◌, ℕ, true, false, List, [], ◌∷◌, ◌++◌, reverse, subst, Some}
use Rattle.abt_net.specs.Topology.{Topology}
use Rattle.abt_model.specs.declared.event.Event.{Event}
use Rattle.abt_model.specs.declared.outcome.Outcome.TheVariants.{Turned}
use Rattle.abt_model.specs.Outcomes.{outcome_of}
use Rattle.abt_model.specs.Run.{facts_after}
use Rattle.abt_journal.specs.declared.input.PortInput.{PortInput}
use Rattle.abt_journal.specs.declared.input.PortReply.{PortReply}
use Rattle.abt_weave.specs.Projections.{is_enabled, reply_of, past_of}
use Rattle.abt_weave.specs.Stuck.{RunJournals, Fits}
use Rattle.abt_weave.specs.Comes.{IsTurnOf, IsExpected}
use Rattle.abt_weave.specs.Shown.{IsNeeded}
use Rattle.abt_weave.proofs.Pasts.{past-is, pushed}
use Rattle.abt_weave.proofs.PortEvents.{comes_fits}
use Rattle.abt_weave.proofs.PortLooks.{turn_turned, its_turn}

-- a Turn that makes the expected event happen
pub turn_needed : (net : Topology) (js : RunJournals) (events : List Event) (sp : List ℕ) (p place : ℕ) (input : PortInput) (reply : PortReply) (c reached : ℕ) (event turn : Event) → IsTurnOf net event turn →
    is_enabled (outcome_of net (facts_after net events) turn) ≡ true → is_enabled (outcome_of net (facts_after net events) event) ≡ false →
    IsExpected net js (reverse (events ++ turn ∷ [])) sp p place input reply c reached event → reply_of (outcome_of net (facts_after net (events ++ turn ∷ [])) event) ≡ Some reply →
    IsNeeded net js (reverse events) turn
turn_needed net js events sp p place input reply c reached event turn its on off it replies =
    let earlier = reverse events in
    let behind = events ++ turn ∷ [] in
    let happens : outcome_of net (past_of net earlier) turn ≡ Turned = subst (λ w. outcome_of net w turn ≡ Turned) (past-is net events) (turn_turned net (facts_after net events) event turn its on) in
    record {
      turn = its_turn net earlier event turn its happens;
      yes = event;
      makes = its;
      absent = subst (λ w. is_enabled (outcome_of net w event) ≡ false) (past-is net events) off;
      fits = subst (λ l. Fits net js l event) (pushed events turn)
          (comes_fits net js (reverse behind) event p place input reply it.coming.comes (subst (λ w. reply_of (outcome_of net w event) ≡ Some reply) (past-is net behind) replies) it.next);
    }
