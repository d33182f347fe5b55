-- A source visits its first port with what it brings.
use Rattle.std.proofs.Common.{◌≡◌, ℕ, ◌+◌, Bool, true, false, List, length, ap, sym, subst, ◌∙◌, Some}
use Rattle.std.specs.Prelude.{slice_index, All}
use Rattle.std.proofs.lemmas.List.{length-map}
use mathlib.Core.List.{IsPrefix}
use Rattle.abt_cell.specs.Channel.{Channel}
use Rattle.abt_net.specs.declared.conn.Conn.{Conn}
use Rattle.abt_net.specs.Topology.{Topology, conn_at}
use Rattle.abt_journal.specs.declared.input.PortInput.{PortInput}
use Rattle.abt_model.specs.declared.event.Event.{Event}
use Rattle.abt_model.specs.Events.{AsksRate}
use Rattle.abt_weave.specs.Projections.{step_of}
use Rattle.abt_weave.proofs.AllBelow.{conn_there}
use Rattle.abt_history.specs.declared.brought.Brought.{Brought}
use Rattle.abt_history.specs.declared.deed.Deed.{Deed}
use Rattle.abt_history.specs.declared.deed.Deed.TheVariants.{Happens, Goes}
use Rattle.abt_history.specs.Histories.{happened}
use Rattle.abt_history.specs.Legal.{MayNote, IsNoted}
use Rattle.abt_history.specs.Modes.{When}
use Rattle.abt_history.specs.Sites.{IsHome, CanBring, HasBrought, event_brought, input_brought}
use Rattle.abt_history.specs.Stations.{StationView, IsStation}
use Rattle.abt_history.proofs.Coming.{HasStepped, start_rates}
use Rattle.abt_history.proofs.Going.{has_left}
use Rattle.abt_history.proofs.Meeting.{IsThere, HasMet, may_meet, has_met}
use Rattle.abt_history.proofs.Stations.{deeds_of}

-- a source that has gone to this port, whose word has this key, with what it brings
pub record IsVisit (net : Topology) (old : StationView) (c key deeds : ℕ) (vc : Channel) (mine out : List Deed) (brought : Brought) : Type 0 where
  pub station : IsStation net old
  pub key_is : key ≡ old.port
  pub line : Conn
  pub there : IsThere net c old.port deeds line vc mine old.front out brought

pub visits : (net : Topology) (b : Bool) (old now : StationView) (c turns tallied key deeds : ℕ) (vc : Channel) (mine out : List Deed) (brought : Brought) → old ≡ now → deeds ≡ length old.state.entries →
    When b ((key ≡ old.port) × IsStation net old) → When b (tallied ≡ length net.capacities + c) → When b (IsHome net c turns mine) → When b ((line : Conn) → conn_at net c ≡ Some line → vc ≡ line.vc) →
    When b ((line : Conn) → conn_at net c ≡ Some line → now.port ≡ slice_index line.path 0) → When b (CanBring net c vc mine brought) → When b (IsNoted net mine old.front out tallied turns (Goes c)) → When b (IsVisit net old c key deeds vc mine out brought)
visits net false old now c turns tallied key deeds vc mine out brought view count its tally home channel first can went = tt
visits net true old now c turns tallied key deeds vc mine out brought view count its tally home channel first can went =
    let line = conn_there net c home.low in
    record {
      station = its.1;
      key_is = its.0;
      line = line.0;
      there = record {
        rules = its.1.rules;
        known = line.1;
        channel = channel line.0 line.1;
        first = ap (λ (w : StationView). w.port) view ∙ first line.0 line.1;
        low = its.1.low;
        left = has_left net c turns tallied mine old.front out tally home went;
        can = can;
        counted = deeds_of net old its.1 ∙ sym count;
        unended = its.1.unended;
      };
    }

-- so the port may note it
pub may_visit : (net : Topology) (old : StationView) (c key deeds : ℕ) (vc : Channel) (mine out : List Deed) (brought : Brought) (event : Event) → event ≡ event_brought c brought → IsVisit net old c key deeds vc mine out brought → MayNote net old.front out key deeds (Happens event)
may_visit net old c key deeds vc mine out brought event is visit =
    subst (λ n. MayNote net old.front out n deeds (Happens event)) (sym visit.key_is)
    (subst (λ (e : Event). MayNote net old.front out old.port deeds (Happens e)) (sym is) (may_meet net c old.port deeds visit.line vc mine old.front out brought visit.there))

-- and what both have then
pub record HasVisited (net : Topology) (old : StationView) (c : ℕ) (mine new : List Deed) (brought : Brought) (input : PortInput) : Type 0 where
  pub stepped : HasStepped net old.port old.front new input
  pub rates : All AsksRate (happened old.front)
  pub back : HasBrought net c mine new (length old.state.entries) brought
  pub ahead : IsPrefix old.front new

pub has_visited : (net : Topology) (old : StationView) (c key deeds : ℕ) (vc : Channel) (mine out new : List Deed) (brought : Brought) (event : Event) (input : PortInput) → event ≡ event_brought c brought → input ≡ input_brought vc brought →
    IsVisit net old c key deeds vc mine out brought → IsNoted net old.front out new key deeds (Happens event) → HasVisited net old c mine new brought input
has_visited net old c key deeds vc mine out new brought event input is input_is visit noted =
    let here : IsNoted net old.front out new old.port deeds (Happens event) = subst (λ n. IsNoted net old.front out new n deeds (Happens event)) visit.key_is noted in
    let this : IsNoted net old.front out new old.port deeds (Happens (event_brought c brought)) = subst (λ (e : Event). IsNoted net old.front out new old.port deeds (Happens e)) is here in
    let met : HasMet net c old.port vc mine old.front out new brought = has_met net c old.port deeds visit.line vc mine old.front out new brought visit.there this in
    record {
      stepped = subst (λ (i : PortInput). HasStepped net old.port old.front new i) (sym input_is) met.stepped;
      rates = start_rates net old.front this.log this.mine this.legal;
      back = subst (λ n. HasBrought net c mine new n brought) (ap length visit.station.steps ∙ length-map old.state.entries step_of) met.back;
      ahead = met.ahead;
    }
