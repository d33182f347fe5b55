-- The event happened, and what it asked and sent is taken down.
use Rattle.std.proofs.Common.{◌++◌, [], ◌∷◌, ◌∙◌, sym, subst, ap}
use Rattle.abt_model.specs.Outcomes.{after_event, outcome_of}
use Rattle.abt_model.specs.Past.{Past}
use Rattle.abt_model.specs.Run.{facts_after}
use Rattle.abt_model.proofs.Runs.{facts_from_push}
use Rattle.abt_net.specs.Topology.{Topology}
use Rattle.abt_reason.specs.Sightings.{AreSightings}
use Rattle.abt_step.specs.Possible.{asked_by, asks_of}
use Rattle.abt_step.proofs.Asking.{asks_next}
use Rattle.abt_step.proofs.net_at_work.NetAtWork.step.Goals as goal

pub returns : goal.returns
returns c = λ net events works.
    let event = c.args.event.now in
    let past = facts_after net events in
    let outcome = c.in_ok-outcome.outcome in
    let step = c.in_ok-outcome.ensures.outcome net events works.world in
    let sighted = c.note.new.self in
    let noted = c.in_ok-note.ensures past (subst (λ (n : Topology). AreSightings n past c.args.self.now.sightings) (sym works.net_is) works.seen)
    (step.0 ∙ ap (λ (n : Topology). outcome_of n past event) (sym works.net_is)) in (
      step.0,
      record {
        net_is = works.net_is;
        world = step.1;
        seen = subst (λ (p : Past). AreSightings net p sighted) (sym (facts_from_push net [] events event))
            (subst (λ (n : Topology). AreSightings n (after_event n past event) sighted) works.net_is noted);
        asks = c.in_ok-push_asked.ensures ∙ ap (λ l. l ++ asked_by event outcome) works.asks ∙ ap (λ o. asks_of past ++ asked_by event o) step.0
            ∙ sym (asks_next past event _) ∙ ap asks_of (sym (facts_from_push net [] events event));
      },
    )
