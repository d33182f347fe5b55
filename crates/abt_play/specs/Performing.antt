-- What goes out where a scenario is played (docs/SCENARIOS.md, "Plays").
use Rattle.std.specs.Prelude.{◌≡◌, ◌⊎◌, Option, IfSome, Ok, codes}
use Rattle.std.specs.Io.KnownBytes.{Appends, Keeps}
use Rattle.abt_text.specs.Text.{Text}
use Rattle.abt_text.specs.Streams.{AppendsPrefix}
use Rattle.abt_scenario.specs.Engine.{Explains}
use Rattle.abt_scenario.specs.Scenarios.{Reads}
use Rattle.abt_scenario.specs.declared.engine.EngineFault.{EngineFault}
use Rattle.abt_scenario.specs.declared.scenario.Scenario as declared
use Rattle.abt_perform.specs.Names.{fault_line, fault_of_engine}
use Rattle.abt_perform.specs.declared.fault.Fault.TheVariants.{Scripts, Operator, Write, Memory}
use Rattle.abt_explain.specs.Told.{IsTold}
use Rattle.abt_play.specs.Fitting.{IsWhyNone}
use Rattle.abt_play.specs.Played.{IsPlay}
use Rattle.abt_play.specs.declared.fault.PlayFault.{PlayFault}
use Rattle.abt_play.specs.declared.fault.PlayFault.TheVariants as play
use Rattle.abt_play.specs.declared.fault.StopFault.TheVariants as stop
use Rattle.abt_play.specs.declared.fault.ShowFault.{ShowFault}
use Rattle.abt_play.specs.declared.fault.ShowFault.TheVariants.{Named, Events}
use Rattle.abt_play.specs.declared.performing.ScenarioPlay.{ScenarioPlay}

abbrev pub fault_of_play : PlayFault → ShowFault
fault_of_play play.Scripts = Named Scripts
fault_of_play play.Operator = Named Operator
fault_of_play (play.Stopped stop.Events) = Events
fault_of_play (play.Stopped stop.Memory) = Named Memory

-- the line that tells a fault
abbrev pub show_line : ShowFault → Text
show_line (Named fault) = fault_line fault
show_line Events = codes "fault: play events 1000000\n"

-- The play is one of the net of the scenario that was read.
pub record IsPlayOf (shown : ScenarioPlay) (left : Option Text) : Type 0 where
  pub scenario : declared.Scenario
  pub read : IfSome left (λ text. Reads text (Ok scenario))
  pub net : shown.net ≡ scenario.net
  pub play : IsPlay shown.net shown.played

-- The events of just this play were told, and nothing else.
pub record IsPlayTold (shown : ScenarioPlay) (old new : Option Text) : Type 0 where
  pub text : Text
  pub told : IsTold shown.net shown.played.events text
  pub written : Appends old new text

-- A part of it was, from its beginning, and not all of it.
pub record IsPlayToldPart (shown : ScenarioPlay) (old new : Option Text) : Type 0 where
  pub text : Text
  pub told : IsTold shown.net shown.played.events text
  pub written : AppendsPrefix old new text

-- why they weren't told: memory was refused, and nothing went out; or the writer failed behind a part
abbrev pub IsPlayUntold : ShowFault → ScenarioPlay → (old new : Option Text) → Type 0
IsPlayUntold fault shown old new = ((fault ≡ Named Memory) × Keeps old new) ⊎ ((fault ≡ Named Write) × IsPlayToldPart shown old new)

-- One play of the scenario that was read was told.
pub record IsPlayShown (shown : ScenarioPlay) (left old new : Option Text) : Type 0 where
  pub of_scenario : IsPlayOf shown left
  pub told : IsPlayTold shown old new

-- One play of it wasn't told.
pub record IsUntold (fault : ShowFault) (left old new : Option Text) : Type 0 where
  pub shown : ScenarioPlay
  pub of_scenario : IsPlayOf shown left
  pub untold : IsPlayUntold fault shown old new

-- The text isn't read as a scenario.
pub record IsUnread (fault : ShowFault) (left : Option Text) : Type 0 where
  pub engine_fault : EngineFault
  pub named : fault ≡ Named (fault_of_engine engine_fault)
  pub explains : IfSome left (Explains engine_fault)

-- There is a scenario, and no play of it.
pub record HasNoPlay (fault : ShowFault) (left : Option Text) : Type 0 where
  pub scenario : declared.Scenario
  pub read : IfSome left (λ text. Reads text (Ok scenario))
  pub why : PlayFault
  pub named : fault ≡ fault_of_play why
  pub unplayed : IsWhyNone scenario.net scenario.scripts scenario.operator why

-- why a scenario has no play
abbrev pub IsUnplayed : ShowFault → (left : Option Text) → Type 0
IsUnplayed fault left = IsUnread fault left ⊎ HasNoPlay fault left

-- why a play isn't shown, and what went out: nothing, or what was told of a play
abbrev pub EndsBy : ShowFault → (left old new : Option Text) → Type 0
EndsBy fault left old new = (IsUnplayed fault left × Keeps old new) ⊎ IsUntold fault left old new
