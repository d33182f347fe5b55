-- Events of a source by itself: what they change, and what they leave.
use Rattle.std.proofs.Common.{◌≡◌, ◌≢◌, ℕ, Bool, true, false, List, [], ◌∷◌, ◌++◌, refl, ap, sym, subst, ◌∙◌, Some}
use Rattle.std.specs.Prelude.{◌&&◌, not, if◌then◌else◌, All}
use Rattle.std.proofs.lemmas.Bool.{false≢true, eq-eqb}
use Rattle.std.proofs.lemmas.List.{append_assoc}
use Rattle.std.proofs.lemmas.List.Elements.{All-cons}
use Rattle.abt_cell.specs.Channel.{Channel}
use Rattle.abt_cell.specs.Message.{answer_to}
use Rattle.abt_net.specs.declared.conn.Conn.{Conn}
use Rattle.abt_net.specs.Topology.{Topology, conn_at}
use Rattle.abt_facts.specs.declared.fact.Fact.{Fact}
use Rattle.abt_facts.specs.Sent.{answer_is_home}
use Rattle.abt_facts.specs.Source.{state_of}
use Rattle.abt_source.specs.SourceFacts.{request_of}
use Rattle.abt_model.specs.declared.command.SourceCommand.{SourceCommand}
use Rattle.abt_model.specs.declared.command.SourceCommand.TheVariants as command
use Rattle.abt_model.specs.declared.event.Event.{Event}
use Rattle.abt_model.specs.declared.event.Event.TheVariants.{Told}
use Rattle.abt_model.specs.declared.entry.SourceEntry.TheVariants.{Did}
use Rattle.abt_model.specs.declared.outcome.Cause.TheVariants.{NotSent}
use Rattle.abt_model.specs.declared.outcome.Heard.{Heard}
use Rattle.abt_model.specs.declared.outcome.Outcome.{Outcome}
use Rattle.abt_model.specs.declared.outcome.Outcome.TheVariants.{Told as HasTold, NotEnabled}
use Rattle.abt_model.specs.Answers.{told_answer}
use Rattle.abt_model.specs.Events.{AsksRate}
use Rattle.abt_model.specs.Outcomes.{conn_of, outcome_of, facts_added}
use Rattle.abt_model.specs.Past.{Past, facts_of}
use Rattle.abt_model.proofs.Worlds.{facts_of-own, facts_of-other, other_conn, outcome_of-known}
use Rattle.abt_actor.specs.Commands.{event_of, command_answer, command_adds}
use Rattle.abt_weave.specs.Candidates.{is_own_of, is_told}
use Rattle.abt_weave.specs.Projections.{entries_on, entry_made, is_enabled, past_of, place_at_first, steps_on}
use Rattle.abt_weave.proofs.Growth.{entries_other, steps_none}
use Rattle.abt_weave.proofs.OwnEvents.{own_made, own_visit}
use Rattle.abt_weave.proofs.Places.{entries_made}
use Rattle.abt_world.proofs.Sendings.{heard_same}
use Rattle.abt_serving.specs.Messages.{LiesHome}

-- Later events leave all but the source of one connection.
pub record IsBeside (net : Topology) (earlier later : List Event) (c : ℕ) : Type 0 where
  pub more : List Event
  pub is : later ≡ more ++ earlier
  pub rates : All AsksRate later
  pub steps : (p : ℕ) → steps_on net p later ≡ steps_on net p earlier
  pub facts : (d : ℕ) → d ≢ c → facts_of d (past_of net later) ≡ facts_of d (past_of net earlier)
  pub entries : (d : ℕ) → d ≢ c → entries_on net d later ≡ entries_on net d earlier

pub none_beside : (net : Topology) (earlier : List Event) (c : ℕ) → All AsksRate earlier → IsBeside net earlier earlier c
none_beside net earlier c rates = record { more = []; is = refl; rates = rates; steps = λ p. refl; facts = λ d differ. refl; entries = λ d differ. refl }

pub beside_both : (net : Topology) (earlier mid later : List Event) (c : ℕ) → IsBeside net earlier mid c → IsBeside net mid later c → IsBeside net earlier later c
beside_both net earlier mid later c one two = record {
  more = two.more ++ one.more;
  is = two.is ∙ ap (λ (l : List Event). two.more ++ l) one.is ∙ sym (append_assoc two.more one.more earlier);
  rates = two.rates;
  steps = λ p. two.steps p ∙ one.steps p;
  facts = λ d differ. two.facts d differ ∙ one.facts d differ;
  entries = λ d differ. two.entries d differ ∙ one.entries d differ;
}

-- an answer that a source is told was sent to it
abbrev pub IsSaid : Topology → Past → (c : ℕ) → SourceCommand → Type 0
IsSaid net past c (command.Told answer) = LiesHome net past c answer
IsSaid net past c other = Unit {0}

told_on : (b : Bool) (o : Outcome) → b ≡ true → (if not b then NotEnabled NotSent else o) ≡ o
told_on true o h = refl
told_on false o h = absurd (false≢true h)

some_one : {a b : Conn} → Some a ≡ Some b → a ≡ b
some_one h = cc

-- what an actor answers is what its event answers; a Told is that of the number of the answer
pub own_outcome : (net : Topology) (past : Past) (c : ℕ) (conn : Conn) (command : SourceCommand) → conn_at net c ≡ Some conn → IsSaid net past c command →
    outcome_of net past (event_of c command) ≡ command_answer conn.vc (facts_of c past) command
own_outcome net past c conn (command.Start now) known said = outcome_of-known net past (event_of c (command.Start now)) c conn refl known
own_outcome net past c conn (command.Ask rate plan) known said = outcome_of-known net past (event_of c (command.Ask rate plan)) c conn refl known
own_outcome net past c conn command.Again known said = outcome_of-known net past (event_of c command.Again) c conn refl known
own_outcome net past c conn command.Crash known said = outcome_of-known net past (event_of c command.Crash) c conn refl known
own_outcome net past c conn (command.Emit now) known said = outcome_of-known net past (event_of c (command.Emit now)) c conn refl known
own_outcome net past c conn (command.Told answer) known said =
    let facts = facts_of c past in
    let seq = said.seq in
    let granted = said.granted in
    let its : said.conn ≡ conn = some_one (sym said.known ∙ known) in
    let is : answer ≡ answer_to (request_of conn.vc facts seq) granted = said.is ∙ ap (λ (k : Conn). answer_to (request_of k.vc facts seq) granted) its in
    subst (λ a. outcome_of net past (event_of c (command.Told a)) ≡ command_answer conn.vc facts (command.Told a)) (sym is)
    (outcome_of-known net past (Told c seq granted) c conn refl known
    ∙ told_on (answer_is_home facts seq granted) (HasTold (told_answer (state_of facts) seq granted)) said.sent
    ∙ ap (λ (h : Heard). HasTold h) (sym (heard_same conn.vc facts (state_of facts) seq granted)))

on_of : (vc : Channel) (c : ℕ) (facts : List Fact) (command : SourceCommand) (o : Outcome) → o ≡ command_answer vc facts command → is_told (event_of c command) && not (is_enabled o) ≡ false
on_of vc c facts (command.Told answer) o is = ap (λ (x : Outcome). true && not (is_enabled x)) is
on_of vc c facts other o is = refl

whose : (c : ℕ) (command : SourceCommand) → conn_of (event_of c command) ≡ Some c
whose c (command.Start now) = refl
whose c (command.Ask rate plan) = refl
whose c command.Again = refl
whose c command.Crash = refl
whose c (command.Emit now) = refl
whose c (command.Told answer) = refl

mine : (c : ℕ) (command : SourceCommand) → is_own_of c (event_of c command) ≡ true
mine c (command.Start now) = eq-eqb c c refl
mine c (command.Ask rate plan) = eq-eqb c c refl
mine c command.Again = eq-eqb c c refl
mine c command.Crash = eq-eqb c c refl
mine c (command.Emit now) = eq-eqb c c refl
mine c (command.Told answer) = eq-eqb c c refl

pub adds_same : (facts : List Fact) (c : ℕ) (command : SourceCommand) (o : Outcome) → command_adds facts command o ≡ facts_added facts (event_of c command) o
adds_same facts c (command.Start now) o = refl
adds_same facts c (command.Ask rate plan) o = refl
adds_same facts c command.Again o = refl
adds_same facts c command.Crash o = refl
adds_same facts c (command.Emit now) o = refl
adds_same facts c (command.Told answer) o = refl

-- a source carried out a command
pub record HasDone (net : Topology) (earlier : List Event) (c : ℕ) (command : SourceCommand) (outcome : Outcome) : Type 0 where
  pub beside : IsBeside net earlier (event_of c command ∷ earlier) c
  pub facts : facts_of c (past_of net (event_of c command ∷ earlier)) ≡ facts_added (facts_of c (past_of net earlier)) (event_of c command) outcome ++ facts_of c (past_of net earlier)
  pub entries : entries_on net c (event_of c command ∷ earlier) ≡ entries_on net c earlier ++ Did (event_of c command) outcome ∷ []

pub has_done : (net : Topology) (earlier : List Event) (c : ℕ) (conn : Conn) (command : SourceCommand) (outcome : Outcome) → All AsksRate earlier → AsksRate (event_of c command) → conn_at net c ≡ Some conn → IsSaid net (past_of net earlier) c command →
    outcome ≡ command_answer conn.vc (facts_of c (past_of net earlier)) command → HasDone net earlier c command outcome
has_done net earlier c conn command outcome rates asks known said answers =
    let event = event_of c command in
    let past = past_of net earlier in
    let facts = facts_of c past in
    let says : outcome_of net past event ≡ outcome = own_outcome net past c conn command known said ∙ sym answers in
    let on : is_told event && not (is_enabled (outcome_of net past event)) ≡ false = ap (λ (o : Outcome). is_told event && not (is_enabled o)) says ∙ on_of conn.vc c facts command outcome answers in
    let made : entry_made net earlier event ≡ Some (Did event outcome) = own_made (place_at_first net earlier event) c event (outcome_of net past event) (mine c command) on ∙ ap (λ (o : Outcome). Some (Did event o)) says in
    let other : (d : ℕ) → d ≢ c → conn_of event ≢ Some d = λ d differ e. other_conn c d (λ same. differ (sym same)) (sym (whose c command) ∙ e) in
    record {
      beside = record {
        more = event ∷ [];
        is = refl;
        rates = All-cons AsksRate event earlier asks rates;
        steps = λ p. steps_none net earlier event p (own_visit net past c event (mine c command));
        facts = λ d differ. facts_of-other net past event d (other d differ);
        entries = λ d differ. entries_other net earlier event d (other d differ);
      };
      facts = facts_of-own net past event c (whose c command) ∙ ap (λ (o : Outcome). facts_added facts event o ++ facts) says;
      entries = entries_made net earlier event c (Did event outcome) made (whose c command);
    }
