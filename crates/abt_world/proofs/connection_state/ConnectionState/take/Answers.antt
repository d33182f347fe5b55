use Rattle.std.proofs.Common.{◌≡◌, ◌+◌, List, ◌++◌, ◌∙◌, sym, subst, ap, arith, length}
use Rattle.abt_actor.specs.Actor.{actor_of}
use Rattle.abt_actor.specs.Facts.{facts_in}
use Rattle.abt_facts.specs.declared.fact.Fact.{Fact}
use Rattle.abt_index.specs.Index.{index_of}
use Rattle.abt_model.specs.declared.outcome.Outcome.{Outcome}
use Rattle.abt_model.specs.Outcomes.{outcome_of, facts_added, after_event}
use Rattle.abt_model.specs.Past.{facts_of}
use Rattle.abt_model.proofs.Lawful.{route_of, IsLawful}
use Rattle.abt_model.proofs.Worlds.{facts_of-own, after_event_lawful, lawful_at}
use Rattle.abt_world.specs.Looked.{looks_to_take, looks_to_note}
use Rattle.abt_world.specs.Notes.{all_noted, CanAllFollow}
use Rattle.abt_world.proofs.Noting.{noted_on, can_all_follow}
use Rattle.abt_world.proofs.Sendings.{all_lawful, few_hops}
use Rattle.abt_world.proofs.connection_state.ConnectionState.take.Goals as goal

pub returns-clause-outcome : goal.returns-clause-outcome
returns-clause-outcome c net past n facts log asks own at are is =
    let e = c.args.event.now in
    let conn = c.args.conn.now in
    let added = facts_in c.dispatch-outcome.result.1 in
    let kept = c.reserve.ensures.same ∙ log in
    let h = c.dispatch-outcome.ensures.outcome net past n facts kept asks own at are is in
    let all : added ++ facts ≡ facts_of n (after_event net past e) =
    ap (λ (fs : List Fact). fs ++ facts) h.0.adds
    ∙ ap (λ (o : Outcome). facts_added (facts_of n past) e o ++ facts) h.0.answer
    ∙ ap (λ (fs : List Fact). facts_added (facts_of n past) e (outcome_of net past e) ++ fs) at.facts_are
    ∙ sym (facts_of-own net past e n own) in
    let lawful : IsLawful (route_of conn) (added ++ facts) =
    subst (IsLawful (route_of conn)) (sym all) (lawful_at net (after_event net past e) (after_event_lawful net past (all_lawful net past n conn facts at) e asks) n conn at.known) in
    let follow : CanAllFollow added c.reserve.new.self.index =
    subst (CanAllFollow added) (sym kept) (can_all_follow (route_of conn) added facts (few_hops net past n conn facts at) lawful) in
    record {
      answer = h.0.answer;
      index_is = c.note.ensures.index follow ∙ ap (all_noted added) kept ∙ noted_on added facts ∙ ap index_of all;
      actor_is = h.2 ∙ ap (actor_of conn.vc) all;
      tables = h.1;
    }

pub returns-clause-counted : goal.returns-clause-counted
returns-clause-counted c net past n facts log asks own at are is room =
    let e = c.args.event.now in
    let conn = c.args.conn.now in
    let added = facts_in c.dispatch-outcome.result.1 in
    let kept = c.reserve.ensures.same ∙ log in
    let h = c.dispatch-outcome.ensures.outcome net past n facts kept asks own at are is in
    let first = c.dispatch-outcome.ensures.counted net past n facts kept own at are is (omega arith)
    ∙ ap (λ (o : Outcome). c.args.looks.now + looks_to_take (length conn.path) e o) h.0.answer in
    let noted = ap looks_to_note (h.0.adds ∙ ap (facts_added (facts_of n past) e) h.0.answer) in
    let bound = c.dispatch-outcome.ensures.looks in
    let second = c.note.ensures.counted (omega (arith, bound)) in
    omega (arith, first, noted, second)
