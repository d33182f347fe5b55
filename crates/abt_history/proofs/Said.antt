-- What was said to a source stays said.
use Rattle.std.proofs.Common.{◌≡◌, ℕ, Bool, true, false, List, ◌++◌, ap, sym, subst, ◌∙◌}
use Rattle.std.specs.Prelude.{All}
use mathlib.Core.List.{IsPrefix}
use Rattle.abt_net.specs.Topology.{Topology}
use Rattle.abt_facts.specs.declared.fact.Fact.TheVariants.{Shut, Back}
use Rattle.abt_facts.specs.Requests.{is_ask_of}
use Rattle.abt_facts.specs.Sent.{is_sending, answer_is_home}
use Rattle.abt_cell.specs.Message.{Terms, answer_to}
use Rattle.abt_model.specs.Events.{AsksRate}
use Rattle.abt_serving.proofs.Messages.{any_grows, terms_stay}
use Rattle.abt_model.specs.declared.command.SourceCommand.{SourceCommand}
use Rattle.abt_model.specs.declared.command.SourceCommand.TheVariants as source
use Rattle.abt_model.specs.declared.event.Event.{Event}
use Rattle.abt_model.specs.Past.{facts_of}
use Rattle.abt_weave.specs.Projections.{past_of}
use Rattle.abt_history.specs.declared.deed.Deed.{Deed}
use Rattle.abt_history.specs.Histories.{happened}
use Rattle.abt_history.specs.Legal.{IsLegal}
use Rattle.abt_history.proofs.Growing.{happened_more, rates_of}
use Rattle.abt_history.specs.Sites.{IsSaid}

home_stays : (net : Topology) (more earlier : List Event) (c seq : ℕ) (granted : Bool) → answer_is_home (facts_of c (past_of net earlier)) seq granted ≡ true → answer_is_home (facts_of c (past_of net (more ++ earlier))) seq granted ≡ true
home_stays net more earlier c seq true h = any_grows net more earlier c (is_sending (Back seq 1)) h
home_stays net more earlier c seq false h = any_grows net more earlier c (is_sending (Shut seq 1)) h

pub said_stays : (net : Topology) (more earlier : List Event) (c : ℕ) (command : SourceCommand) → All AsksRate (more ++ earlier) → IsSaid net (past_of net earlier) c command → IsSaid net (past_of net (more ++ earlier)) c command
said_stays net more earlier c (source.Told answer) rates said = record {
  conn = said.conn;
  seq = said.seq;
  granted = said.granted;
  known = said.known;
  asked = any_grows net more earlier c (is_ask_of said.seq) said.asked;
  sent = home_stays net more earlier c said.seq said.granted said.sent;
  is = said.is ∙ ap (λ (t : Terms). answer_to t said.granted) (sym (terms_stay net more earlier c said.seq said.conn said.known rates said.asked));
}
said_stays net more earlier c other rates said = tt

pub said_later : (net : Topology) (seen log : List Deed) (c : ℕ) (command : SourceCommand) → IsPrefix seen log → IsLegal net log → IsSaid net (past_of net (happened seen)) c command → IsSaid net (past_of net (happened log)) c command
said_later net seen log c command pre legal said =
    let grown = happened_more seen log pre in
    subst (λ (l : List Event). IsSaid net (past_of net l) c command) (sym grown) (said_stays net (happened pre.0) (happened seen) c command (subst (All AsksRate) grown (rates_of net log legal)) said)
