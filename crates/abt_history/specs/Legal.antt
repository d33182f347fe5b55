-- Which histories of a run are legal, and which deeds may come next.
use Rattle.std.specs.Prelude.{◌≡◌, ℕ, ◌+◌, ◌==◌, true, false, List, [], ◌∷◌, ◌++◌, reverse, map, Some, if◌then◌else◌}
use mathlib.Core.List.{IsPrefix}
use Rattle.abt_net.specs.Topology.{Topology}
use Rattle.abt_model.specs.declared.event.Event.{Event}
use Rattle.abt_model.specs.Events.{AsksRate}
use Rattle.abt_model.specs.Outcomes.{conn_of}
use Rattle.abt_model.specs.PortTable.{port_table}
use Rattle.abt_journal.specs.Replay.{reply_by}
use Rattle.abt_weave.specs.Candidates.{is_own_of}
use Rattle.abt_weave.specs.Projections.{Visit, past_of, visit}
use Rattle.abt_weave.specs.Stuck.{AreTurns}
use Rattle.abt_history.specs.declared.deed.Deed.{Deed}
use Rattle.abt_history.specs.declared.deed.Deed.TheVariants.{Happens, Goes, EndsPort, EndsSource, Comes}
use Rattle.abt_history.specs.Histories.{happened, ends_of_port, is_beside_of, is_out, has_ended, count_of}

-- A deed may come next. A source that isn't at its first port does what is its own, or goes there; what stands in its journal beside a
-- step of the port happens while it is there. To a port that ended nothing comes.
pub record MayHappen (net : Topology) (log : List Deed) (event : Event) : Type 0 where
  pub asks : AsksRate event
  pub own : (c : ℕ) → is_own_of c event ≡ true → (is_out c log ≡ false) × (has_ended c log ≡ false)
  pub beside : (c : ℕ) → is_beside_of c event (conn_of event) ≡ true → (is_out c log ≡ true) × ((v : Visit) × (visit net (past_of net (happened log)) event ≡ Some v))
  pub unended : (v : Visit) → visit net (past_of net (happened log)) event ≡ Some v → ends_of_port v.port log ≡ 0

abbrev pub May : Topology → List Deed → Deed → Type 0
May net log (Happens event) = MayHappen net log event
May net log (Goes c) = (is_out c log ≡ false) × (has_ended c log ≡ false)
May net log (EndsPort p) = Unit {0}
May net log (EndsSource c) = (is_out c log ≡ false) × (has_ended c log ≡ false)
May net log (Comes p input) = ⊥

abbrev pub IsLegalFrom : Topology → List Deed → List Deed → Type 0
IsLegalFrom net before [] = Unit {0}
IsLegalFrom net before (deed ∷ log) = May net before deed × IsLegalFrom net (before ++ deed ∷ []) log

abbrev pub IsLegal : Topology → List Deed → Type 0
IsLegal net log = IsLegalFrom net [] log

-- Turns, the newest first, and then a deed
abbrev pub with_turns : List Event → Deed → List Deed
with_turns turns deed = map Happens (reverse turns) ++ deed ∷ []

-- These deeds may come next, and count for one word alone, by one.
pub record IsStep (net : Topology) (key : ℕ) (log more : List Deed) : Type 0 where
  pub legal : IsLegal net (log ++ more)
  pub counts : (k : ℕ) → count_of net k (log ++ more) ≡ (if k == key then count_of net k log + 1 else count_of net k log)

-- A deed does what is asked for, behind Turns: it is that, or brings it to the port, whose table replies to it.
abbrev pub Does : Topology → List Deed → List Event → (ask deed : Deed) → Type 0
Does net log turns (Comes port input) deed =
    (event : Event) × (deed ≡ Happens event)
    × (visit net (past_of net (turns ++ happened log)) event ≡ Some (record { port = port; input = input; reply = reply_by (port_table net (past_of net (happened log)) port) input }))
Does net log turns ask deed = deed ≡ ask

-- a deed that does what is asked for, behind Turns, as the next ones
pub record IsNext (net : Topology) (key : ℕ) (log : List Deed) (ask : Deed) : Type 0 where
  pub turns : List Event
  pub all : AreTurns net (happened log) turns
  pub deed : Deed
  pub does : Does net log turns ask deed
  pub step : IsStep net key log (with_turns turns deed)

-- there is one in each history that goes on from this one and in which a word counts so many
abbrev pub MayAt : Topology → List Deed → (key deeds : ℕ) → Deed → Type 0
MayAt net seen key deeds ask = (log : List Deed) → IsPrefix seen log → IsLegal net log → count_of net key log ≡ deeds → IsNext net key log ask

-- it came behind all that was seen, and perhaps more, in which the word counted so many
pub record IsAdded (net : Topology) (old new : List Deed) (key deeds : ℕ) (ask : Deed) : Type 0 where
  pub log : List Deed
  pub seen : IsPrefix old log
  pub legal : IsLegal net log
  pub count : count_of net key log ≡ deeds
  pub next : IsNext net key log ask
  pub new_is : new ≡ log ++ with_turns next.turns next.deed

-- there is one in each history that goes on from both of these and in which a word counts so many
abbrev pub MayNote : Topology → (own seen : List Deed) → (key deeds : ℕ) → Deed → Type 0
MayNote net own seen key deeds ask =
    (log : List Deed) → IsPrefix own log → IsPrefix seen log → IsLegal net log → count_of net key log ≡ deeds → IsNext net key log ask

-- it came behind both, and perhaps more, in which the word counted so many
pub record IsNoted (net : Topology) (own seen new : List Deed) (key deeds : ℕ) (ask : Deed) : Type 0 where
  pub log : List Deed
  pub mine : IsPrefix own log
  pub theirs : IsPrefix seen log
  pub legal : IsLegal net log
  pub count : count_of net key log ≡ deeds
  pub next : IsNext net key log ask
  pub new_is : new ≡ log ++ with_turns next.turns next.deed
