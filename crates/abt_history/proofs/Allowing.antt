-- What a source may bring to its first port once it has done something.
use Rattle.std.proofs.Common.{◌≡◌, ℕ, ◌+◌, Bool, true, false, List, ◌∷◌, ◌++◌, refl, ap, sym, subst, ◌∙◌, Some}
use Rattle.std.specs.Prelude.{◌==◌, ◌||◌, max, if◌then◌else◌}
use Rattle.std.specs.List.{list_any}
use Rattle.std.proofs.lemmas.Bool.{cond-true, eq-eqb}
use Rattle.abt_rate.specs.Limits.{number_max}
use Rattle.abt_cell.specs.Channel.{Channel}
use Rattle.abt_cell.specs.Message.{Terms}
use Rattle.abt_keep.specs.declared.plan.StorePlan.{StorePlan}
use Rattle.abt_keep.specs.declared.plan.StorePlan.TheVariants.{Works, FailsBefore, FailsAfter}
use Rattle.abt_net.specs.declared.conn.Conn.{Conn}
use Rattle.abt_net.specs.Topology.{Topology, conn_at}
use Rattle.abt_facts.specs.declared.fact.Fact.{Fact}
use Rattle.abt_facts.specs.declared.fact.Fact.TheVariants.{Asked as FactAsked}
use Rattle.abt_facts.specs.Requests.{was_asked, is_ask_of, floor_of}
use Rattle.abt_facts.specs.Source.{SourceState, Down, Idle, Asking, state_of, last_of, writes, written_for}
use Rattle.abt_facts.specs.Cells.{last_arrival_of, emitted_of}
use Rattle.abt_source.specs.SourceFacts.{request_of}
use Rattle.abt_source.specs.declared.fault.AskFault.TheVariants.{SeqExhausted}
use Rattle.abt_model.specs.declared.command.SourceCommand.{SourceCommand}
use Rattle.abt_model.specs.declared.command.SourceCommand.TheVariants as source
use Rattle.abt_model.specs.declared.event.Event.{Event}
use Rattle.abt_model.specs.declared.event.Event.TheVariants.{Arrive}
use Rattle.abt_model.specs.declared.outcome.Outcome.{Outcome}
use Rattle.abt_model.specs.declared.outcome.Outcome.TheVariants.{Asked, AskRefused, Repeated, Emitted, Arrived}
use Rattle.abt_model.specs.Answers.{if_up, ask_answer, again_answer, kept_answer, stored_answer, next_request}
use Rattle.abt_model.specs.Outcomes.{outcome_of, write_adds}
use Rattle.abt_model.specs.Past.{facts_of}
use Rattle.abt_model.proofs.Backed.{asking}
use Rattle.abt_model.proofs.Lawful.{Route, route_of, IsLawful}
use Rattle.abt_model.proofs.Worlds.{lawful_at}
use Rattle.abt_weave.specs.Projections.{past_of}
use Rattle.abt_weave.proofs.AllBelow.{conn_there}
use Rattle.abt_weave.proofs.Replays.{past_lawful}
use Rattle.abt_serving.proofs.Arriving.{emission_arrives}
use Rattle.abt_history.specs.declared.deed.Deed.{Deed}
use Rattle.abt_history.specs.Histories.{happened}
use Rattle.abt_history.specs.Legal.{IsLegal}
use Rattle.abt_history.specs.Sites.{SiteView, IsSite, IsAsked, Allows}
use Rattle.abt_history.proofs.Growing.{rates_of}
use Rattle.abt_history.proofs.Did.{AreDone}

-- a request that goes out is of the source's channel
stored_channel : (plan : StorePlan) (next request : Terms) → Asked request ≡ stored_answer plan next → request.vc ≡ next.vc
stored_channel Works next request is = cc
stored_channel FailsBefore next request is = absurd (cc)
stored_channel FailsAfter next request is = absurd (cc)

kept_channel : (b : Bool) (plan : StorePlan) (next request : Terms) → Asked request ≡ kept_answer b plan next → request.vc ≡ next.vc
kept_channel true plan next request is = stored_channel plan next request is
kept_channel false plan next request is = cc

ask_channel : (vc : Channel) (facts : List Fact) (rate : ℕ) (plan : StorePlan) (request : Terms) → Asked request ≡ ask_answer vc facts rate plan → request.vc ≡ vc
ask_channel vc facts rate plan request is = by (last_of facts == number_max) is
  where
    by : (b : Bool) → Asked request ≡ (if b then AskRefused SeqExhausted else kept_answer (writes facts rate) plan (next_request vc facts rate)) → request.vc ≡ vc
    by true h = absurd (cc)
    by false h = kept_channel (writes facts rate) plan (next_request vc facts rate) request h

up_channel : (state : SourceState) (vc : Channel) (facts : List Fact) (rate : ℕ) (plan : StorePlan) (request : Terms) → Asked request ≡ if_up state (ask_answer vc facts rate plan) → request.vc ≡ vc
up_channel Down vc facts rate plan request is = absurd (cc)
up_channel Idle vc facts rate plan request is = ask_channel vc facts rate plan request is
up_channel (Asking seq) vc facts rate plan request is = ask_channel vc facts rate plan request is

-- and has been asked then
asked_then : (vc : Channel) (older : List Fact) (mark : ℕ) (request : Terms) → request.vc ≡ vc →
    (let facts = FactAsked request.seq request.floor request.ask mark ∷ older in (was_asked facts request.seq ≡ true) × (request ≡ request_of vc facts request.seq))
asked_then vc older mark request same =
    let own = eq-eqb request.seq request.seq refl in (
      ap (λ b. b || list_any (is_ask_of request.seq) older) own,
      ap (λ (v : Channel). (let t : Terms = record { vc = v; seq = request.seq; floor = request.floor; ask = request.ask } in t)) same
          ∙ ap (λ (n : ℕ). (let t : Terms = record { vc = vc; seq = request.seq; floor = n; ask = request.ask } in t)) (sym (cond-true _ _ _ own))
          ∙ ap (λ (n : ℕ). (let t : Terms = record { vc = vc; seq = request.seq; floor = floor_of (FactAsked request.seq request.floor request.ask mark ∷ older) request.seq; ask = n } in t)) (sym (cond-true _ _ _ own)),
    )

-- what is repeated was asked
repeated : (vc : Channel) (l : Route) (facts : List Fact) → IsLawful l facts → (state : SourceState) → state_of facts ≡ state → (request : Terms) → Repeated request ≡ again_answer vc state facts → (was_asked facts request.seq ≡ true) × (request ≡ request_of vc facts request.seq)
repeated vc l facts lawful Down at request is = absurd (cc)
repeated vc l facts lawful Idle at request is = absurd (cc)
repeated vc l facts lawful (Asking seq) at request is =
    let same : request ≡ request_of vc facts seq = cc in
    let number : seq ≡ request.seq = sym (ap (λ (t : Terms). t.seq) same) in (
      ap (was_asked facts) (sym number) ∙ (asking l facts lawful seq at).2,
      same ∙ ap (request_of vc facts) number,
    )

pub allows : (net : Topology) (old new : SiteView) (log : List Deed) (command : SourceCommand) (outcome : Outcome) → IsSite net old → IsLegal net log → AreDone net old log new.front command outcome → new.conn ≡ old.conn → new.vc ≡ old.vc → new.arrived ≡ old.arrived → Allows net new command outcome
allows net old new log command outcome site legal parts conn_is vc_is arrived_is = by command outcome parts
  where
    there : (conn : Conn) × (conn_at net old.conn ≡ Some conn)
    there = conn_there net old.conn site.home.low

    asked : (request : Terms) → (was_asked (facts_of old.conn (past_of net (happened new.front))) request.seq ≡ true) × (request ≡ request_of old.vc (facts_of old.conn (past_of net (happened new.front))) request.seq) → IsAsked net new.conn new.vc new.front request
    asked request is =
        subst (λ (c : ℕ). IsAsked net c new.vc new.front request) (sym conn_is) (subst (λ (v : Channel). IsAsked net old.conn v new.front request) (sym vc_is) is)

    by : (command : SourceCommand) (outcome : Outcome) → AreDone net old log new.front command outcome → Allows net new command outcome
    by (source.Ask rate plan) (Asked request) its =
        let facts = facts_of old.conn (past_of net (happened log)) in
        let made = asked_then old.vc (write_adds (writes facts rate) (written_for facts rate) ++ facts) (emitted_of facts) request (up_channel (state_of facts) old.vc facts rate plan request its.answers) in
        asked request (subst (λ (l : List Fact). (was_asked l request.seq ≡ true) × (request ≡ request_of old.vc l request.seq)) (sym its.facts) made)
    by source.Again (Repeated request) its =
        let facts = facts_of old.conn (past_of net (happened log)) in
        let lawful = lawful_at net (past_of net (happened log)) (past_lawful net (happened log) (rates_of net log legal)) old.conn there.0 there.1 in
        let made = repeated old.vc (route_of there.0) facts lawful (state_of facts) refl request its.answers in
        asked request (subst (λ (l : List Fact). (was_asked l request.seq ≡ true) × (request ≡ request_of old.vc l request.seq)) (sym its.facts) made)
    by (source.Emit now) (Emitted cell next) its = λ line jitter known low. (
        let past = past_of net (happened log) in
        let mine : conn_at net old.conn ≡ Some line = ap (conn_at net) (sym conn_is) ∙ known in
        let at = emission_arrives net past (past_lawful net (happened log) (rates_of net log legal)) old.conn now jitter cell next line mine its.says low in
        let arrived : last_arrival_of (facts_of old.conn past) ≡ new.arrived = its.arrival ∙ sym arrived_is in
        let moved = subst (λ (l : List Event). outcome_of net (past_of net l) (Arrive old.conn cell (max (now + line.delay + jitter) (last_arrival_of (facts_of old.conn past)))) ≡ Arrived at.0) (sym its.now) at.1 in
        let timed = subst (λ (n : ℕ). outcome_of net (past_of net (happened new.front)) (Arrive old.conn cell (max (now + line.delay + jitter) n)) ≡ Arrived at.0) arrived moved in
        (at.0, subst (λ (c : ℕ). outcome_of net (past_of net (happened new.front)) (Arrive c cell (max (now + line.delay + jitter) new.arrived)) ≡ Arrived at.0) (sym conn_is) timed))
    by (source.Start now) other its = tt
    by (source.Ask rate plan) other its = tt
    by source.Again other its = tt
    by source.Crash other its = tt
    by (source.Emit now) other its = tt
    by (source.Told answer) other its = tt
