-- Histories of a run: what happened, and how far each port and each source has come. Deeds are listed with the oldest first, events with
-- the newest first.
use Rattle.std.specs.Prelude.{ℕ, ◌+◌, ◌-◌, ◌==◌, ◌&&◌, ◌||◌, not, nat_lt, Bool, false, List, [], ◌∷◌, length, Option, None, Some, if◌then◌else◌}
use Rattle.abt_net.specs.Topology.{Topology}
use Rattle.abt_model.specs.declared.event.Event.{Event}
use Rattle.abt_model.specs.Outcomes.{conn_of}
use Rattle.abt_weave.specs.Projections.{steps_on}
use Rattle.abt_weave.specs.Candidates.{is_own_of, is_beside}
use Rattle.abt_history.specs.declared.deed.Deed.{Deed}
use Rattle.abt_history.specs.declared.deed.Deed.TheVariants.{Happens, Goes, EndsPort, EndsSource, Comes}

-- the events of a history, behind earlier ones
abbrev pub behind : List Event → List Deed → List Event
behind earlier [] = earlier
behind earlier (Happens event ∷ log) = behind (event ∷ earlier) log
behind earlier (Goes c ∷ log) = behind earlier log
behind earlier (EndsPort p ∷ log) = behind earlier log
behind earlier (EndsSource c ∷ log) = behind earlier log
behind earlier (Comes p input ∷ log) = behind earlier log

abbrev pub happened : List Deed → List Event
happened log = behind [] log

-- how often a port was ended
abbrev pub ends_of_port : ℕ → List Deed → ℕ
ends_of_port p [] = 0
ends_of_port p (EndsPort q ∷ log) = if q == p then ends_of_port p log + 1 else ends_of_port p log
ends_of_port p (Happens event ∷ log) = ends_of_port p log
ends_of_port p (Goes c ∷ log) = ends_of_port p log
ends_of_port p (EndsSource c ∷ log) = ends_of_port p log
ends_of_port p (Comes q input ∷ log) = ends_of_port p log

-- whether a deed is one of a source by itself
abbrev pub is_of_source : ℕ → Deed → Bool
is_of_source c (Happens event) = is_own_of c event
is_of_source c (Goes d) = d == c
is_of_source c (EndsSource d) = d == c
is_of_source c (EndsPort p) = false
is_of_source c (Comes p input) = false

abbrev pub turns_of_source : ℕ → List Deed → ℕ
turns_of_source c [] = 0
turns_of_source c (deed ∷ log) = if is_of_source c deed then turns_of_source c log + 1 else turns_of_source c log

-- how many words the book of a net has: one for each port, and then one for each source
abbrev pub words_of : Topology → ℕ
words_of net = length net.capacities + length net.conns

-- what a word counts
abbrev pub count_of : Topology → ℕ → List Deed → ℕ
count_of net key log =
    if nat_lt key (length net.capacities) then length (steps_on net key (happened log)) + ends_of_port key log
    else turns_of_source (key - length net.capacities) log

-- whether a source is at its first port
abbrev pub is_beside_of : ℕ → Event → Option ℕ → Bool
is_beside_of c event None = false
is_beside_of c event (Some d) = is_beside event && d == c

abbrev pub out_after : ℕ → Bool → List Deed → Bool
out_after c out [] = out
out_after c out (Goes d ∷ log) = out_after c (d == c || out) log
out_after c out (Happens event ∷ log) = out_after c (out && not (is_beside_of c event (conn_of event))) log
out_after c out (EndsPort p ∷ log) = out_after c out log
out_after c out (EndsSource d ∷ log) = out_after c out log
out_after c out (Comes p input ∷ log) = out_after c out log

abbrev pub is_out : ℕ → List Deed → Bool
is_out c log = out_after c false log

-- whether a source has ended
abbrev pub has_ended : ℕ → List Deed → Bool
has_ended c [] = false
has_ended c (EndsSource d ∷ log) = d == c || has_ended c log
has_ended c (Happens event ∷ log) = has_ended c log
has_ended c (Goes d ∷ log) = has_ended c log
has_ended c (EndsPort p ∷ log) = has_ended c log
has_ended c (Comes p input ∷ log) = has_ended c log
