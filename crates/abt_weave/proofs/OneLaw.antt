-- Own entries decide what happens.
use Rattle.std.proofs.Common.{◌≡◌, ℕ, ◌<◌, ap, false, List, length, ◌∙◌, sym, subst, Some}
use Rattle.std.specs.Prelude.{◌&&◌, not, All}
use Rattle.abt_net.specs.Topology.{Topology, IsWithinRules}
use Rattle.abt_model.specs.declared.event.Event.{Event}
use Rattle.abt_model.specs.declared.event.Event.TheVariants.{Arrive}
use Rattle.abt_model.specs.Events.{AsksRate}
use Rattle.abt_model.specs.Outcomes.{outcome_of}
use Rattle.abt_model.specs.declared.entry.SourceEntry.TheVariants.{Did}
use Rattle.abt_weave.specs.Projections.{is_enabled, place_at_first, past_of}
use Rattle.abt_weave.specs.Candidates.{is_told}
use Rattle.abt_weave.specs.OneLaw.{AreBegun, HasSameSource, PortsReplyAgain, SourcesAnswerAgain}
use Rattle.abt_weave.proofs.Again.{own_again}
use Rattle.abt_weave.proofs.AllBelow.{conn_there}
use Rattle.abt_weave.proofs.AgainAt.{again_at, ArrivesAlone}
use Rattle.abt_weave.proofs.OwnEvents.{own_here, made_own, own_made}
use Rattle.abt_weave.proofs.SentBelow.{IsBelow}

is_below : (net : Topology) (less more : List Event) → AreBegun net less more → IsBelow net less more
is_below net less more begun = record { ports = begun.ports; conns = begun.conns }

alone_of : (net : Topology) (less more : List Event) (event : Event) → HasSameSource net less more event → ArrivesAlone net less more event
alone_of net less more (Arrive c cell at) same = same
alone_of net less more other same = tt

pub ports_again : (net : Topology) (less more : List Event) → IsWithinRules net → All AsksRate less → All AsksRate more → AreBegun net less more → PortsReplyAgain net less more
ports_again net less more rules one other begun event v is same source =
    let at = again_at net more less (record { rules = rules; rates = other }) one (is_below net less more begun) event v is same (alone_of net less more event source) in
    record { turns = at.turns; enabled = at.all; comes = at.again.visits; beside = at.again.beside }

pub sources_again : (net : Topology) (less more : List Event) → IsWithinRules net → All AsksRate less → All AsksRate more → AreBegun net less more → SourcesAnswerAgain net less more
sources_again net less more rules one other begun c event outcome low whose made same =
    let its = made_own (place_at_first net less event) event (outcome_of net (past_of net less) event) event outcome made in
    let mine = own_here its.c c event its.own whose in
    let conn = conn_there net c low in
    let again = own_again net rules less more (is_below net less more begun) c conn.0 event whose conn.1 mine its.enabled same in
    let enabled : is_told event && not (is_enabled (outcome_of net (past_of net more) event)) ≡ false = ap (λ o. is_told event && not (is_enabled o)) (sym again) ∙ its.enabled in
    own_made (place_at_first net more event) c event (outcome_of net (past_of net more) event) mine enabled ∙ ap (λ o. Some (Did event o)) (sym again ∙ sym its.outcome_is)
