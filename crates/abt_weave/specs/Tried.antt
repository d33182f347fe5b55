-- The outcome of trying an event on a world.
use Rattle.std.specs.Prelude.{◌≡◌, ◌≢◌, ◌&&◌, not, Bool, true, false, List, [], ◌∷◌, ◌++◌, Some, MatchBool}
use Rattle.abt_net.specs.Topology.{Topology}
use Rattle.abt_model.specs.declared.event.Event.{Event}
use Rattle.abt_model.specs.declared.outcome.Outcome.{Outcome}
use Rattle.abt_model.specs.Outcomes.{outcome_of}
use Rattle.abt_model.specs.Run.{facts_after}
use Rattle.abt_journal.specs.declared.input.PortReply.{PortReply}
use Rattle.abt_world.specs.Standing.{WorldView, StandsFor}
use Rattle.abt_weave.specs.Projections.{is_enabled, reply_of}
use Rattle.abt_weave.specs.Candidates.{is_told}
use Rattle.abt_weave.specs.declared.trying.Tried.{Tried}
use Rattle.abt_weave.specs.declared.trying.Tried.TheVariants.{Agrees, Differs, Absent}

-- of a source's deed, by the outcome that the journal says it had
abbrev pub IsOwnVerdict : Event → (outcome told : Outcome) → Tried → Type 0
IsOwnVerdict event outcome told Agrees = (outcome ≡ told) × (is_told event && not (is_enabled outcome) ≡ false)
IsOwnVerdict event outcome told Differs = (outcome ≢ told) × (is_told event && not (is_enabled outcome) ≡ false)
IsOwnVerdict event outcome told Absent = (is_told event ≡ true) × (is_enabled outcome ≡ false)

-- of an event at a port, by the reply that the journal says it had
abbrev pub IsVisitVerdict : Outcome → PortReply → Tried → Type 0
IsVisitVerdict outcome told Agrees = reply_of outcome ≡ Some told
IsVisitVerdict outcome told Differs = (is_enabled outcome ≡ true) × (reply_of outcome ≢ Some told)
IsVisitVerdict outcome told Absent = is_enabled outcome ≡ false

-- the world has gone on only if the event has
abbrev pub HasGoneOn : Topology → List Event → Event → WorldView → Tried → Type 0
HasGoneOn net events event world Agrees = StandsFor net (events ++ event ∷ []) world
HasGoneOn net events event world Differs = Unit {0}
HasGoneOn net events event world Absent = StandsFor net events world

abbrev pub IsOwnTried : Topology → List Event → Event → Outcome → WorldView → Tried → Type 0
IsOwnTried net events event told world tried = IsOwnVerdict event (outcome_of net (facts_after net events) event) told tried × HasGoneOn net events event world tried

abbrev pub IsVisitTried : Topology → List Event → Event → PortReply → WorldView → Tried → Type 0
IsVisitTried net events event told world tried = IsVisitVerdict (outcome_of net (facts_after net events) event) told tried × HasGoneOn net events event world tried

abbrev pub IsTurnTried : Topology → List Event → Event → WorldView → Bool → Type 0
IsTurnTried net events event world happens =
    (is_enabled (outcome_of net (facts_after net events) event) ≡ happens)
    × MatchBool happens (StandsFor net (events ++ event ∷ []) world) (StandsFor net events world)
