-- Ports with what comes to them.
use Rattle.std.proofs.Common.{◌≡◌, ℕ, List, [], ◌∷◌, ◌++◌, length, map, ap, sym, ◌∙◌, Some}
use Rattle.std.specs.Prelude.{All}
use Rattle.std.proofs.lemmas.List.{length-map, map-append}
use Rattle.abt_net.specs.Topology.{Topology, IsWithinRules}
use Rattle.abt_node.specs.Table.{Table}
use Rattle.abt_model.specs.declared.event.Event.{Event}
use Rattle.abt_model.specs.Events.{AsksRate}
use Rattle.abt_model.specs.PortTable.{port_table}
use Rattle.abt_journal.specs.declared.input.PortInput.{PortInput}
use Rattle.abt_journal.specs.Replay.{reply_by, table_after}
use Rattle.abt_weave.specs.Projections.{Step, step_of, past_of, visit, steps_on}
use Rattle.abt_weave.proofs.Alike.{AreRuns, tables_alike}
use Rattle.abt_weave.proofs.Growth.{steps_other}
use Rattle.abt_weave.proofs.Places.{step_made}
use Rattle.abt_weave.proofs.Replays.{past_lawful, event_made}
use Rattle.abt_processes.specs.Lists.{OnlyAt}
use Rattle.abt_processes.specs.Processes.{PortProcess}
use Rattle.abt_processes.specs.Ports.{served}
use Rattle.abt_processes.specs.Events.{IsPortAfter}
use Rattle.abt_processes.proofs.Members.{all_but_one}

-- a port that has had the same steps is what it was
pub port_same : (net : Topology) (before after : List Event) (p : ℕ) (port : PortProcess) → IsWithinRules net → All AsksRate before → All AsksRate after → steps_on net p after ≡ steps_on net p before → IsPortAfter net before p port → IsPortAfter net after p port
port_same net before after p port rules rates others same is =
    let runs : AreRuns net before after = record { rules = rules; first = rates; second = others } in
    record { table = is.table ∙ tables_alike net before after runs p (sym same); steps = same ∙ is.steps }

-- this comes to a port next, and its table replies to it
pub record IsVisited (net : Topology) (earlier : List Event) (event : Event) (p : ℕ) (input : PortInput) : Type 0 where
  pub rates : All AsksRate (event ∷ earlier)
  pub before : All AsksRate earlier
  pub visits : visit net (past_of net earlier) event ≡ Some (record { port = p; input = input; reply = reply_by (port_table net (past_of net earlier) p) input })

step_by : (n : ℕ) (input : PortInput) (table : Table) → Step
step_by n input table = record { place = n; input = input; reply = reply_by table input }

pub port_served : (net : Topology) (earlier : List Event) (event : Event) (p : ℕ) (input : PortInput) (port : PortProcess) → IsWithinRules net → IsVisited net earlier event p input → IsPortAfter net earlier p port → IsPortAfter net (event ∷ earlier) p (served port input)
port_served net earlier event p input port rules visited is =
    let past = past_of net earlier in
    let made = event_made net past rules (past_lawful net earlier visited.before) event _ visited.visits in
    let old = map step_of port.journal in
    let count : length (steps_on net p earlier) ≡ length port.journal = ap length is.steps ∙ length-map port.journal step_of in
    record {
      table = ap (λ (t : Table). table_after t input) is.table ∙ sym made.1;
      steps = step_made net earlier event _ visited.visits
          ∙ ap (λ (l : List Step). l ++ (let s : Step = record { place = length (steps_on net p earlier); input = input; reply = reply_by (port_table net past p) input } in s) ∷ []) is.steps
          ∙ ap (λ (n : ℕ). old ++ (let s : Step = record { place = n; input = input; reply = reply_by (port_table net past p) input } in s) ∷ []) count
          ∙ ap (λ (t : Table). old ++ (let s : Step = record { place = length port.journal; input = input; reply = reply_by t input } in s) ∷ []) (sym is.table)
          ∙ sym (map-append step_of port.journal _);
    }

-- all ports, if this comes to one of them
pub ports_served : (net : Topology) (earlier : List Event) (event : Event) (p : ℕ) (input : PortInput) (old new : ℕ → PortProcess) → IsWithinRules net → IsVisited net earlier event p input → OnlyAt p old new (served (old p) input) →
    ((q : ℕ) → IsPortAfter net earlier q (old q)) → (q : ℕ) → IsPortAfter net (event ∷ earlier) q (new q)
ports_served net earlier event p input old new rules visited only are =
    all_but_one (λ q port. IsPortAfter net (event ∷ earlier) q port) p old new (served (old p) input) only (port_served net earlier event p input (old p) rules visited (are p))
    (λ q differ. port_same net earlier (event ∷ earlier) q (old q) rules visited.before visited.rates (steps_other net earlier event q _ visited.visits (λ e. differ (sym e))) (are q))
