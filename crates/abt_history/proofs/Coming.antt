-- What comes to a port at any time may come there next, as long as the port has had no more steps than were seen of it.
use Rattle.std.proofs.Common.{◌≡◌, ℕ, ◌+◌, ◌<◌, Bool, false, List, [], ◌∷◌, ◌++◌, length, refl, ap, sym, subst, ◌∙◌, inl, inr, Option, None, Some}
use Rattle.std.specs.Prelude.{◌==◌, ◌&&◌, All}
use Rattle.std.proofs.lemmas.Bool.{false≢true, cases_Bool}
use mathlib.Core.List.{IsPrefix}
use Rattle.abt_cell.specs.declared.message.Rm.{Rm}
use Rattle.abt_net.specs.Topology.{Topology, IsWithinRules}
use Rattle.abt_model.specs.declared.event.Event.{Event}
use Rattle.abt_model.specs.Events.{AsksRate}
use Rattle.abt_model.specs.Outcomes.{conn_of}
use Rattle.abt_weave.specs.Projections.{Step, Visit, past_of, visit, steps_on}
use Rattle.abt_weave.specs.Stuck.{AreTurns}
use Rattle.abt_weave.specs.Candidates.{is_own_of, is_beside}
use Rattle.abt_weave.proofs.OwnEvents.{own_visit}
use Rattle.abt_weave.proofs.PortEvents.{some_same}
use Rattle.abt_serving.specs.Messages.{Lies, ComesNow, input_of}
use Rattle.abt_serving.proofs.Messages.{message_comes, message_stays}
use Rattle.abt_history.specs.declared.deed.Deed.{Deed}
use Rattle.abt_history.specs.declared.deed.Deed.TheVariants.{Happens, Comes}
use Rattle.abt_history.specs.Histories.{happened, ends_of_port, count_of, is_beside_of}
use Rattle.abt_history.specs.Legal.{MayHappen, IsLegal, IsLegalFrom, IsNext, IsNoted, MayNote, with_turns}
use Rattle.abt_model.specs.PortTable.{port_table}
use Rattle.abt_node.specs.Table.{Table}
use Rattle.abt_journal.specs.declared.input.PortInput.{PortInput}
use Rattle.abt_journal.specs.Replay.{reply_by}
use Rattle.abt_weave.proofs.Alike.{AreRuns, tables_alike}
use Rattle.abt_weave.proofs.Places.{step_made}
use Rattle.abt_weave.proofs.Turns.{steps_turns}
use Rattle.abt_history.specs.Stations.{CameTo}
use Rattle.abt_weave.proofs.AgainAt.{turns_ask}
use Rattle.abt_history.proofs.Growing.{happened-append, ends-append, happened_more, happened_turned, legal_more, legal_turned, rates_of, as_seen, turned, ends_turned, with_turned, counts_step}

-- a beginning of a legal history is one
pub legal_start : (net : Topology) (before xs ys : List Deed) → IsLegalFrom net before (xs ++ ys) → IsLegalFrom net before xs
legal_start net before [] ys legal = tt
legal_start net before (x ∷ xs) ys legal = (legal.0, legal_start net (before ++ x ∷ []) xs ys legal.1)

-- what comes to a port isn't a source's own
pub far_own : (net : Topology) (earlier : List Event) (event : Event) (v : Visit) → visit net (past_of net earlier) event ≡ Some v → (c : ℕ) → is_own_of c event ≡ false
far_own net earlier event v is c = elim (cases_Bool (is_own_of c event)) [
  | inr nay ↦ nay
  | inl own ↦ (let none = sym (own_visit net (past_of net earlier) c event own) ∙ is in absurd (cc))
]

not_beside : (c : ℕ) (event : Event) → is_beside event ≡ false → is_beside_of c event (conn_of event) ≡ false
not_beside c event far = by (conn_of event)
  where
    by : (o : Option ℕ) → is_beside_of c event o ≡ false
    by None = refl
    by (Some d) = ap (λ (b : Bool). b && d == c) far

comes_next : (net : Topology) (own log : List Deed) (port deeds : ℕ) (input : PortInput) → port < length net.capacities → IsPrefix own log → IsLegal net log → ComesNow net (happened log) port input →
    count_of net port own ≡ deeds → ends_of_port port own ≡ 0 → count_of net port log ≡ deeds → IsNext net port log (Comes port input)
comes_next net own log port deeds input low mine legal comes counted unended count =
    let earlier = happened log in
    let same = as_seen net port own log low mine (count ∙ sym counted) in
    let ended : ends_of_port port log ≡ 0 = same.unended ∙ unended in
    let far = far_own net (comes.turns ++ earlier) comes.event _ comes.comes in
    let more = turned log comes.turns in
    let here = happened_turned log comes.turns in
    let may : MayHappen net more comes.event = record {
      asks = comes.asks;
      own = λ c mine. absurd (false≢true (sym (far c) ∙ mine));
      beside = λ c beside. absurd (false≢true (sym (not_beside c comes.event comes.far) ∙ beside));
      unended = λ v is. (
          let there : visit net (past_of net (comes.turns ++ earlier)) comes.event ≡ Some v = ap (λ (l : List Event). visit net (past_of net l) comes.event) (sym here) ∙ is in
          let port_is : port ≡ v.port = ap (λ (w : Visit). w.port) (some_same (sym comes.comes ∙ there)) in
          subst (λ p. ends_of_port p more ≡ 0) port_is (ends_turned port log comes.turns ∙ ended));
    } in
    record {
      turns = comes.turns;
      all = comes.all;
      deed = Happens comes.event;
      does = (comes.event, refl, comes.comes);
      step = record {
        legal = subst (IsLegal net) (sym (with_turned log comes.turns (Happens comes.event))) (legal_more net [] more (Happens comes.event) (legal_turned net log comes.turns legal comes.all) may);
        counts = counts_step net log comes.turns comes.event _ comes.all comes.comes low far;
      };
    }

-- so a port may note it
pub may_come : (net : Topology) (own seen : List Deed) (port deeds : ℕ) (input : PortInput) → port < length net.capacities → count_of net port own ≡ deeds → ends_of_port port own ≡ 0 →
    ((log : List Deed) → IsPrefix seen log → IsLegal net log → ComesNow net (happened log) port input) → MayNote net own seen port deeds (Comes port input)
may_come net own seen port deeds input low counted unended comes log mine theirs legal count =
    comes_next net own log port deeds input low mine legal (comes log theirs legal) counted unended count

-- a message that lay at a port does so at any time
pub message_later : (net : Topology) (seen log : List Deed) (port : ℕ) (message : Rm) → IsWithinRules net → Lies net (past_of net (happened seen)) port message → IsPrefix seen log → IsLegal net log → ComesNow net (happened log) port (input_of message)
message_later net seen log port message rules lies pre legal =
    let grown = happened_more seen log pre in
    let rates = rates_of net log legal in
    message_comes net (happened log) port message rules rates
    (subst (λ (l : List Event). Lies net (past_of net l) port message) (sym grown) (message_stays net (happened pre.0) (happened seen) port message (subst (All AsksRate) grown rates) lies))

-- what the port has then
pub record HasStepped (net : Topology) (port : ℕ) (own new : List Deed) (input : PortInput) : Type 0 where
  pub steps : steps_on net port (happened new) ≡ steps_on net port (happened own) ++ record { place = length (steps_on net port (happened own)); input = input; reply = reply_by (port_table net (past_of net (happened own)) port) input } ∷ []
  pub unended : ends_of_port port new ≡ 0
  pub came : CameTo net new port input (reply_by (port_table net (past_of net (happened own)) port) input)

pub start_rates : (net : Topology) (own log : List Deed) → IsPrefix own log → IsLegal net log → All AsksRate (happened own)
start_rates net own log pre legal = rates_of net own (legal_start net [] own pre.0 (subst (IsLegal net) (sym pre.1) legal))

-- an event by which this came to the port, behind Turns
pub stepped : (net : Topology) (own log new : List Deed) (turns : List Event) (event : Event) (port deeds : ℕ) (input : PortInput) → IsWithinRules net → port < length net.capacities → IsPrefix own log → IsLegal net log → AreTurns net (happened log) turns →
    count_of net port own ≡ deeds → ends_of_port port own ≡ 0 → count_of net port log ≡ deeds → new ≡ log ++ with_turns turns (Happens event) →
    visit net (past_of net (turns ++ happened log)) event ≡ Some (record { port = port; input = input; reply = reply_by (port_table net (past_of net (happened log)) port) input }) → HasStepped net port own new input
stepped net own log new turns event port deeds input rules low mine legal all counted unended count new_at is =
    let same = as_seen net port own log low mine (count ∙ sym counted) in
    let earlier = turns ++ happened log in
    let new_is : new ≡ turned log turns ++ Happens event ∷ [] = new_at ∙ with_turned log turns (Happens event) in
    let now : happened new ≡ event ∷ earlier = ap happened new_is ∙ happened-append (turned log turns) (Happens event ∷ []) ∙ ap (λ (l : List Event). event ∷ l) (happened_turned log turns) in
    let old : steps_on net port earlier ≡ steps_on net port (happened own) = steps_turns net (happened log) turns all port ∙ same.steps in
    let rates = rates_of net log legal in
    let runs : AreRuns net (happened log) (happened own) = record { rules = rules; first = rates; second = start_rates net own log mine legal } in
    let table : port_table net (past_of net (happened log)) port ≡ port_table net (past_of net (happened own)) port = tables_alike net (happened log) (happened own) runs port same.steps in
    let made = step_made net earlier event _ is in
    record {
      steps = ap (steps_on net port) now ∙ made
          ∙ ap (λ (l : List Step). l ++ record { place = length l; input = input; reply = reply_by (port_table net (past_of net (happened log)) port) input } ∷ []) old
          ∙ ap (λ (t : Table). steps_on net port (happened own) ++ record { place = length (steps_on net port (happened own)); input = input; reply = reply_by t input } ∷ []) table;
      unended = ap (ends_of_port port) new_is ∙ ends-append port (turned log turns) (Happens event ∷ []) ∙ ap (λ (n : ℕ). n + 0) (ends_turned port log turns ∙ same.unended ∙ unended);
      came = record {
        event = event;
        earlier = earlier;
        is = now;
        rates = turns_ask net (happened log) turns all rates;
        comes = is ∙ ap (λ (t : Table). Some (let v : Visit = record { port = port; input = input; reply = reply_by t input } in v)) table;
      };
    }

pub has_stepped : (net : Topology) (own seen new : List Deed) (port deeds : ℕ) (input : PortInput) → IsWithinRules net → port < length net.capacities → count_of net port own ≡ deeds → ends_of_port port own ≡ 0 →
    IsNoted net own seen new port deeds (Comes port input) → HasStepped net port own new input
has_stepped net own seen new port deeds input rules low counted unended noted =
    let next = noted.next in
    stepped net own noted.log new next.turns next.does.0 port deeds input rules low noted.mine noted.legal next.all counted unended noted.count
    (noted.new_is ∙ ap (λ (d : Deed). noted.log ++ with_turns next.turns d) next.does.1) next.does.2
