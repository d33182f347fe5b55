-- Texts that are written to files of their own, and events that are written so, as a scenario.
use Rattle.std.specs.Prelude.{◌≡◌, ◌⊎◌, ⊤, List, Option, Some, MatchOption}
use Rattle.abt_text.specs.Text.{Text}
use Rattle.abt_files.specs.Calls.{IsWritten}
use Rattle.abt_files.specs.declared.calls.OutCall.{OutCall}
use Rattle.abt_files.specs.declared.why.OutFault.{OutFault}
use Rattle.abt_files.specs.declared.why.OutFault.TheVariants as file
use Rattle.abt_files.specs.declared.why.Why.{Why}
use Rattle.abt_files.specs.declared.why.Why.TheVariants as why
use Rattle.abt_commands.specs.Unwritten.{TellsUnwritten}
use Rattle.abt_net.specs.Topology.{Topology}
use Rattle.abt_model.specs.declared.event.Event.{Event}
use Rattle.abt_perform.specs.Plans.{Tells}
use Rattle.abt_scenario.specs.Faults.{IsWhyNone, fault_line}
use Rattle.abt_scenario.specs.Samples.{IsSample}
use Rattle.abt_scenario.specs.declared.text_fault.EventsFault.{EventsFault}
use Rattle.abt_scenario.specs.declared.text_fault.EventsFault.TheVariants.{Open, Write, Memory}

-- The text went to a file, all of it and no more, which then was given its name.
pub record IsFiled (text : Text) : Type 0 where
  pub calls : List OutCall
  pub written : IsWritten text calls

-- A scenario with this net and these events went to a file.
pub record IsSaved (net : Topology) (events : List Event) : Type 0 where
  pub text : Text
  pub sample : IsSample net events text
  pub filed : IsFiled text

-- the fault of events whose file isn't written
abbrev pub fault_of_file : OutFault → EventsFault
fault_of_file (file.Open why.Memory) = Memory
fault_of_file (file.Open _) = Open
fault_of_file (file.Write _) = Write

-- why it isn't written
abbrev pub why_of_file : OutFault → Why
why_of_file (file.Open why) = why
why_of_file (file.Write why) = why

-- There is no such scenario, which is told.
pub record IsNone (net : Topology) (events : List Event) (told_old told_new : Option Text) : Type 0 where
  pub fault : EventsFault
  pub why : IsWhyNone net events fault
  pub told : Tells (fault_line fault) told_old told_new

-- There is such a scenario, whose file isn't written: that is told, with the file's name and the reason.
pub record IsUnfiled (net : Topology) (events : List Event) (name : Text) (told_old told_new : Option Text) : Type 0 where
  pub text : Text
  pub sample : IsSample net events text
  pub why : OutFault
  pub told : TellsUnwritten (fault_line (fault_of_file why)) name (why_of_file why) told_old told_new

-- the events are in the file for them, if one is named
abbrev pub IsSavedIfNamed : (name : Option Text) → Topology → List Event → Type 0
IsSavedIfNamed name net events = MatchOption name ⊤ (λ file. IsSaved net events)

-- One is named, and they aren't in it, which is told.
pub record IsUnsavedIfNamed (name : Option Text) (net : Topology) (events : List Event) (told_old told_new : Option Text) : Type 0 where
  pub file : Text
  pub named : name ≡ Some file
  pub unsaved : IsNone net events told_old told_new ⊎ IsUnfiled net events file told_old told_new
