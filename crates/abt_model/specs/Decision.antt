-- What a hop does with a message, by the facts of its connection (docs/RULES.md, "Node"): what a port does that reserves what
-- the facts say. A message of a net is that of its number: it has the floor and the asked rate of the ask.
use Rattle.std.specs.Prelude.{ℕ, ◌-◌, List}
use Rattle.abt_cell.specs.Message.{Terms, Reply}
use Rattle.abt_node.specs.declared.reply.Onward.{Onward}
use Rattle.abt_node.specs.declared.reply.Back.{Back}
use Rattle.abt_node.specs.Reservation.{Reservation, decision_of, answer_of}
use Rattle.abt_facts.specs.declared.fact.Fact.{Fact}
use Rattle.abt_facts.specs.Requests.{floor_of, ask_of}
use Rattle.abt_facts.specs.Hop.{newest_of, held_of, is_open_at}

-- the reservation of hop j for the connection
abbrev pub reservation_at : List Fact → ℕ → Reservation
reservation_at facts j = record {
  newest = newest_of facts j;
  floor = floor_of facts (newest_of facts j);
  ask = ask_of facts (newest_of facts j);
  is_open = is_open_at facts j;
}

-- the decision of hop j on a request, given what is reserved on its port, and its capacity
abbrev pub request_decision : List Fact → (reserved capacity j : ℕ) → Terms → Onward
request_decision facts reserved capacity j request =
    (decision_of capacity (reserved - held_of facts j) (reservation_at facts j) request).0

-- the decision of hop j on an answer
abbrev pub answer_decision : List Fact → (j : ℕ) → Reply → Back
answer_decision facts j answer = (answer_of (reservation_at facts j) answer).0
