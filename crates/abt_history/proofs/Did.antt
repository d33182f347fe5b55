-- A source that has done something by itself, with its journal and its actor.
use Rattle.std.proofs.Common.{◌≡◌, ℕ, ◌+◌, ◌-◌, ◌≤◌, reverse, map, Bool, true, false, List, [], ◌∷◌, ◌++◌, length, refl, ap, sym, subst, ◌∙◌, arith, Option, Some}
use Rattle.std.specs.Prelude.{◌==◌, ◌&&◌, ◌||◌, not}
use mathlib.Core.List.{IsPrefix}
use Rattle.std.proofs.lemmas.Bool.{cond-true, eq-eqb}
use Rattle.std.proofs.lemmas.List.{length-append}
use Rattle.abt_cell.specs.Channel.{Channel}
use Rattle.abt_net.specs.Topology.{Topology}
use Rattle.abt_facts.specs.declared.fact.Fact.{Fact}
use Rattle.abt_model.specs.Events.{AsksRate}
use Rattle.abt_weave.specs.Stuck.{AreTurns}
use Rattle.abt_actor.specs.Actor.{ActorView, actor_of, CarriesOut}
use Rattle.abt_actor.specs.Commands.{event_of, command_answer, command_adds}
use Rattle.abt_model.specs.declared.command.SourceCommand.{SourceCommand}
use Rattle.abt_model.specs.declared.command.SourceCommand.TheVariants as source
use Rattle.abt_model.specs.declared.event.Event.{Event}
use Rattle.abt_model.specs.declared.outcome.Outcome.{Outcome}
use Rattle.abt_keep.specs.Record.{KeptRecord}
use Rattle.abt_keep.specs.declared.plan.StorePlan.TheVariants.{FailsAfter}
use Rattle.abt_source.specs.declared.fault.AskFault.TheVariants.{Keep}
use Rattle.abt_facts.specs.Source.{writes, written_for}
use Rattle.abt_facts.specs.Cells.{last_arrival_of}
use Rattle.abt_model.specs.declared.outcome.Heard.TheVariants.{Raised, Refused}
use Rattle.abt_model.specs.declared.outcome.Outcome.TheVariants.{Started, Asked, AskRefused, Crashed, Emitted, Told as HasTold}
use Rattle.abt_model.specs.Outcomes.{conn_of, outcome_of, facts_added, write_adds}
use Rattle.abt_weave.proofs.AllBelow.{conn_there}
use Rattle.abt_weave.proofs.LineFacts.{last_arrival_of-line}
use Rattle.abt_model.specs.Past.{facts_of}
use Rattle.abt_model.proofs.Worlds.{facts_of-own}
use Rattle.abt_model.specs.declared.entry.SourceEntry.{SourceEntry}
use Rattle.abt_model.specs.declared.entry.SourceEntry.TheVariants.{Did}
use Rattle.abt_weave.specs.Projections.{is_enabled, place_at_first, past_of, entry_made, entry_at, entries_on}
use Rattle.abt_weave.specs.Candidates.{is_own_of, is_told}
use Rattle.abt_weave.proofs.OwnEvents.{own_made}
use Rattle.abt_history.specs.declared.deed.Deed.{Deed}
use Rattle.abt_history.specs.declared.deed.Deed.TheVariants.{Happens, Goes, EndsPort, EndsSource, Comes}
use Rattle.abt_history.specs.Histories.{happened, turns_of_source, count_of, out_after, is_out, has_ended}
use Rattle.abt_history.specs.Legal.{IsLegal, IsStep, MayNote, IsNoted, with_turns}
use Rattle.abt_history.proofs.Fronts.{prefix_trans}
use Rattle.abt_history.proofs.Growing.{happened-append, turns-append, turns_turned, turned, legal_turned, with_turned, count_at_source}
use Rattle.abt_history.proofs.Turning.{StaysHome, out-append, away_still}
use Rattle.abt_history.specs.Sites.{SiteView, IsHome, IsSite, IsSaid}
use Rattle.abt_history.proofs.Own.{home_open, own_step}
use Rattle.abt_history.proofs.Visiting.{actor_still, own_outcome}

on_of : (vc : Channel) (c : ℕ) (facts : List Fact) (command : SourceCommand) (o : Outcome) → o ≡ command_answer vc facts command → is_told (event_of c command) && not (is_enabled o) ≡ false
on_of vc c facts (source.Told answer) o is = ap (λ (x : Outcome). true && not (is_enabled x)) is
on_of vc c facts other o is = refl

adds_same : (facts : List Fact) (c : ℕ) (command : SourceCommand) (o : Outcome) → command_adds facts command o ≡ facts_added facts (event_of c command) o
adds_same facts c (source.Start now) o = refl
adds_same facts c (source.Ask rate plan) o = refl
adds_same facts c source.Again o = refl
adds_same facts c source.Crash o = refl
adds_same facts c (source.Emit now) o = refl
adds_same facts c (source.Told answer) o = refl

whose : (c : ℕ) (command : SourceCommand) → conn_of (event_of c command) ≡ Some c
whose c (source.Start now) = refl
whose c (source.Ask rate plan) = refl
whose c source.Again = refl
whose c source.Crash = refl
whose c (source.Emit now) = refl
whose c (source.Told answer) = refl

pub mine : (c : ℕ) (command : SourceCommand) → is_own_of c (event_of c command) ≡ true
mine c (source.Start now) = eq-eqb c c refl
mine c (source.Ask rate plan) = eq-eqb c c refl
mine c source.Again = eq-eqb c c refl
mine c source.Crash = eq-eqb c c refl
mine c (source.Emit now) = eq-eqb c c refl
mine c (source.Told answer) = eq-eqb c c refl

pub ended_event : (c : ℕ) (log : List Deed) (event : Event) → has_ended c (log ++ Happens event ∷ []) ≡ has_ended c log
ended_event c [] event = refl
ended_event c (Happens other ∷ log) event = ended_event c log event
ended_event c (Goes d ∷ log) event = ended_event c log event
ended_event c (EndsPort p ∷ log) event = ended_event c log event
ended_event c (EndsSource d ∷ log) event = ap (λ b. d == c || b) (ended_event c log event)
ended_event c (Comes p input ∷ log) event = ended_event c log event

-- a history in which a source has had no other turn, by its word
pub home_at : (net : Topology) (c turns key : ℕ) (own log : List Deed) → key ≡ length net.capacities + c → IsPrefix own log → IsLegal net log → IsHome net c turns own → count_of net key log ≡ turns → StaysHome net c own log
home_at net c turns key own log key_is pre legal home count =
    let high : length net.capacities ≤ key = omega (arith, key_is) in
    let its : key - length net.capacities ≡ c = omega (arith, key_is) in
    let at = count_at_source net key log high in
    record {
      pre = pre;
      legal = legal;
      out = home.out;
      unended = home.unended;
      turns = sym (ap (λ (d : ℕ). turns_of_source d log) its) ∙ sym at ∙ count ∙ sym home.turns_are;
    }

pub home_turned : (net : Topology) (c : ℕ) (own log : List Deed) (turns : List Event) → StaysHome net c own log → AreTurns net (happened log) turns → StaysHome net c own (turned log turns)
home_turned net c own log turns home all = record {
  pre = prefix_trans own log (turned log turns) home.pre (map Happens (reverse turns), refl);
  legal = legal_turned net log turns home.legal all;
  out = home.out;
  unended = home.unended;
  turns = turns_turned net c log (happened log) turns all ∙ home.turns;
}

-- what a source does may come next
pub may_do : (net : Topology) (c turns key : ℕ) (own seen : List Deed) (event : Event) → key ≡ length net.capacities + c → IsHome net c turns own → AsksRate event → is_own_of c event ≡ true → MayNote net own seen key turns (Happens event)
may_do net c turns key own seen event key_is home asks its log pre theirs legal count =
    let stays = home_at net c turns key own log key_is pre legal home count in
    record { turns = []; all = tt; deed = Happens event; does = refl; step = subst (λ k. IsStep net k log (with_turns [] (Happens event))) (sym key_is) (own_step net c own log stays event asks its) }

-- the source did this behind all that was seen, and had no other turn
pub record HasDone (net : Topology) (c : ℕ) (own seen new : List Deed) (event : Event) : Type 0 where
  pub log : List Deed
  pub home : StaysHome net c own log
  pub theirs : IsPrefix seen log
  pub new_is : new ≡ log ++ Happens event ∷ []

pub has_noted : (net : Topology) (c turns key : ℕ) (own seen new : List Deed) (event : Event) → key ≡ length net.capacities + c → IsHome net c turns own → IsNoted net own seen new key turns (Happens event) → HasDone net c own seen new event
has_noted net c turns key own seen new event key_is home noted =
    let log = noted.log in
    let these = noted.next.turns in
    let stays = home_at net c turns key own log key_is noted.mine noted.legal home noted.count in
    record {
      log = turned log these;
      home = home_turned net c own log these stays noted.next.all;
      theirs = prefix_trans seen log (turned log these) noted.theirs (map Happens (reverse these), refl);
      new_is = noted.new_is ∙ ap (λ (d : Deed). log ++ with_turns these d) noted.next.does ∙ with_turned log these (Happens event);
    }

-- no command brings a cell to a port
stored_quiet : (b : Bool) (kept : KeptRecord) (facts : List Fact) → last_arrival_of (write_adds b kept ++ facts) ≡ last_arrival_of facts
stored_quiet true kept facts = refl
stored_quiet false kept facts = refl

own_arrival : (facts : List Fact) (c : ℕ) (command : SourceCommand) (o : Outcome) → last_arrival_of (facts_added facts (event_of c command) o ++ facts) ≡ last_arrival_of facts
own_arrival facts c (source.Start now) Started = refl
own_arrival facts c (source.Start now) other = refl
own_arrival facts c (source.Ask rate plan) (Asked request) = stored_quiet (writes facts rate) (written_for facts rate) facts
own_arrival facts c (source.Ask rate FailsAfter) (AskRefused Keep) = refl
own_arrival facts c (source.Ask rate plan) other = refl
own_arrival facts c source.Again o = refl
own_arrival facts c source.Crash Crashed = refl
own_arrival facts c source.Crash other = refl
own_arrival facts c (source.Emit now) (Emitted cell next) = refl
own_arrival facts c (source.Emit now) other = refl
own_arrival facts c (source.Told answer) (HasTold Raised) = refl
own_arrival facts c (source.Told answer) (HasTold Refused) = refl
own_arrival facts c (source.Told answer) other = refl

-- what is known of a source that did something
pub record AreDone (net : Topology) (old : SiteView) (log new : List Deed) (command : SourceCommand) (outcome : Outcome) : Type 0 where
  pub says : outcome_of net (past_of net (happened log)) (event_of old.conn command) ≡ outcome
  pub answers : outcome ≡ command_answer old.vc (facts_of old.conn (past_of net (happened log))) command
  pub now : happened new ≡ event_of old.conn command ∷ happened log
  pub facts : facts_of old.conn (past_of net (happened new)) ≡ facts_added (facts_of old.conn (past_of net (happened log))) (event_of old.conn command) outcome ++ facts_of old.conn (past_of net (happened log))
  pub arrival : last_arrival_of (facts_of old.conn (past_of net (happened log))) ≡ old.arrived

pub done_parts : (net : Topology) (old : SiteView) (after : ActorView) (log new : List Deed) (command : SourceCommand) (outcome : Outcome) → IsSite net old → StaysHome net old.conn old.front log → CarriesOut old.actor command outcome after →
    IsSaid net (past_of net (happened log)) old.conn command → new ≡ log ++ Happens (event_of old.conn command) ∷ [] → AreDone net old log new command outcome
done_parts net old after log new command outcome site home carries said new_is =
    let c = old.conn in
    let event = event_of c command in
    let earlier = happened log in
    let past = past_of net earlier in
    let facts = facts_of c past in
    let there = conn_there net c site.home.low in
    let conn = there.0 in
    let vc_is : old.vc ≡ conn.vc = site.channel conn there.1 in
    let away = away_still net c old.front log home.pre home.legal home.out home.turns in
    let actor_now : old.actor ≡ actor_of conn.vc facts = site.actor_is ∙ ap (λ (v : Channel). actor_of v (facts_of c (past_of net (happened old.front)))) vc_is ∙ actor_still net c conn (happened old.front) earlier away.0.entries in
    let carried = carries conn.vc facts actor_now in
    let says : outcome_of net past event ≡ outcome = own_outcome net past c conn command there.1 said ∙ sym carried.0 in
    let now : happened new ≡ event ∷ earlier = ap happened new_is ∙ happened-append log (Happens event ∷ []) in
    record {
      says = says;
      answers = carried.0 ∙ ap (λ (v : Channel). command_answer v facts command) (sym vc_is);
      now = now;
      facts = ap (λ (l : List Event). facts_of c (past_of net l)) now ∙ facts_of-own net past event c (whose c command) ∙ ap (λ (o : Outcome). facts_added facts event o ++ facts) says;
      arrival = sym (last_arrival_of-line facts) ∙ ap last_arrival_of away.0.still ∙ last_arrival_of-line (facts_of c (past_of net (happened old.front))) ∙ site.last_arrival;
    }

pub has_done : (net : Topology) (old : SiteView) (after : ActorView) (log new : List Deed) (command : SourceCommand) (outcome : Outcome) → IsSite net old → StaysHome net old.conn old.front log → CarriesOut old.actor command outcome after →
    IsSaid net (past_of net (happened log)) old.conn command → new ≡ log ++ Happens (event_of old.conn command) ∷ [] →
    IsSite net (record { conn = old.conn; vc = old.vc; actor = after; entries = old.entries ++ Did (event_of old.conn command) outcome ∷ []; arrived = old.arrived; front = new })
has_done net old after log new command outcome site home carries said new_is =
    let c = old.conn in
    let own = old.front in
    let event = event_of c command in
    let earlier = happened log in
    let past = past_of net earlier in
    let facts = facts_of c past in
    let parts = done_parts net old after log new command outcome site home carries said new_is in
    let away = away_still net c own log home.pre home.legal home.out home.turns in
    let there = conn_there net c site.home.low in
    let vc_is : old.vc ≡ there.0.vc = site.channel there.0 there.1 in
    let actor_now : old.actor ≡ actor_of there.0.vc facts = site.actor_is ∙ ap (λ (v : Channel). actor_of v (facts_of c (past_of net (happened own)))) vc_is ∙ actor_still net c there.0 (happened own) earlier away.0.entries in
    let carried = carries there.0.vc facts actor_now in
    let on : is_told event && not (is_enabled (outcome_of net past event)) ≡ false = ap (λ (o : Outcome). is_told event && not (is_enabled o)) parts.says ∙ on_of there.0.vc c facts command outcome carried.0 in
    let made : entry_made net earlier event ≡ Some (Did event outcome) = own_made (place_at_first net earlier event) c event (outcome_of net past event) (mine c command) on ∙ ap (λ (o : Outcome). Some (Did event o)) parts.says in
    let count = turns-append c log (Happens event ∷ []) in
    let one : turns_of_source c (Happens event ∷ []) ≡ 1 = cond-true _ _ _ (mine c command) in
    let all = ap (turns_of_source c) new_is in
    let had = home.turns in
    let were = site.home.turns_are in
    let more = length-append old.entries (Did event outcome ∷ []) in
    record {
      rules = site.rules;
      home = record {
        low = site.home.low;
        out = ap (is_out c) new_is ∙ out-append c false log (Happens event ∷ []) ∙ ap (λ b. out_after c b (Happens event ∷ [])) away.1;
        unended = ap (has_ended c) new_is ∙ ended_event c log event ∙ home_open net c own log home;
        turns_are = omega (arith, all, count, one, had, were, more);
      };
      channel = site.channel;
      did = ap (entries_on net c) parts.now
          ∙ ap (λ (o : Option SourceEntry). entries_on net c earlier ++ entry_at (conn_of event) c o) made
          ∙ ap (λ (o : Option ℕ). entries_on net c earlier ++ entry_at o c (Some (Did event outcome))) (whose c command)
          ∙ ap (λ (l : List SourceEntry). entries_on net c earlier ++ l) (cond-true _ _ _ (eq-eqb c c refl))
          ∙ ap (λ (l : List SourceEntry). l ++ Did event outcome ∷ []) (away.0.entries ∙ site.did);
      last_arrival = ap last_arrival_of parts.facts ∙ own_arrival facts c command outcome ∙ parts.arrival;
      actor_is = carried.1
          ∙ ap (λ (l : List Fact). actor_of there.0.vc (l ++ facts)) (adds_same facts c command outcome)
          ∙ ap (actor_of there.0.vc) (sym parts.facts)
          ∙ ap (λ (v : Channel). actor_of v (facts_of c (past_of net (happened new)))) (sym vc_is);
    }
