-- A capacity that an operator sets comes to its port at any time.
use Rattle.std.proofs.Common.{◌≡◌, ℕ, ◌<◌, [], List, length, refl, ap, ◌∙◌, Some}
use Rattle.std.specs.Prelude.{nat_lt, All, Result, Ok, Err}
use Rattle.std.proofs.lemmas.Bool.{cond-true, lt-ltb}
use Rattle.abt_ledger.specs.Capacity.{capacity_fault, capacity_answer}
use Rattle.abt_ledger.specs.declared.fault.CapacityFault.{CapacityFault}
use Rattle.abt_net.specs.Topology.{Topology, IsWithinRules}
use Rattle.abt_model.specs.declared.event.Event.{Event}
use Rattle.abt_model.specs.declared.event.Event.TheVariants.{Capacity}
use Rattle.abt_model.specs.declared.target.Target.TheVariants.{Port}
use Rattle.abt_model.specs.Answers.{capped}
use Rattle.abt_model.specs.Events.{AsksRate}
use Rattle.abt_model.specs.Outcomes.{outcome_of}
use Rattle.abt_model.specs.Reserved.{reserved_on}
use Rattle.abt_journal.specs.declared.input.PortInput.TheVariants.{Capacity as CapacityIn}
use Rattle.abt_journal.specs.declared.input.PortReply.{PortReply}
use Rattle.abt_journal.specs.declared.input.PortReply.TheVariants.{Capped}
use Rattle.abt_weave.specs.Projections.{Visit, reply_of, past_of, visit, visit_alone}
use Rattle.abt_weave.proofs.Replays.{past_lawful, event_made}
use Rattle.abt_serving.specs.Messages.{ComesNow}

told : (answer : Result (Unit {0}) CapacityFault) → reply_of (capped answer) ≡ Some (Capped answer)
told (Ok tt) = refl
told (Err fault) = refl

pub capacity_comes : (net : Topology) (earlier : List Event) (port capacity : ℕ) → IsWithinRules net → All AsksRate earlier → port < length net.capacities → ComesNow net earlier port (CapacityIn capacity)
capacity_comes net earlier port capacity rules rates low =
    let past = past_of net earlier in
    let event = Capacity port capacity in
    let answer = capacity_answer (capacity_fault (reserved_on net past port) capacity) in
    let says : outcome_of net past event ≡ capped answer = cond-true (nat_lt port (length net.capacities)) _ _ (lt-ltb port (length net.capacities) low) in
    let is : visit net past event ≡ Some (record { port = port; input = CapacityIn capacity; reply = Capped answer }) = ap (visit_alone (Port port capacity)) (ap reply_of says ∙ told answer) in
    let by = (event_made net past rules (past_lawful net earlier rates) event _ is).0 in
    record {
      turns = [];
      all = tt;
      event = event;
      asks = tt;
      far = refl;
      comes = is ∙ ap (λ (r : PortReply). Some (let v : Visit = record { port = port; input = CapacityIn capacity; reply = r } in v)) by;
    }
