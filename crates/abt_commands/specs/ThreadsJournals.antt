-- What a run in threads leaves whose journals are written.
use Rattle.std.specs.Prelude.{◌⊎◌, ⊤, ℕ, List, Option, Some, IfSome, Ok, string_bytes}
use Rattle.std.specs.Option.{option_map}
use Rattle.std.specs.Io.KnownBytes.{Keeps}
use Rattle.abt_text.specs.Text.{Text}
use Rattle.abt_scenario.specs.Engine.{Explains}
use Rattle.abt_scenario.specs.Scenarios.{Reads}
use Rattle.abt_scenario.specs.declared.engine.EngineFault.{EngineFault}
use Rattle.abt_scenario.specs.declared.scenario.Scenario.{Scenario}
use Rattle.abt_perform.specs.Names.{fault_line, fault_of_engine}
use Rattle.abt_perform.specs.Plans.{Tells}
use Rattle.abt_perform.specs.declared.fault.Fault.{Fault}
use Rattle.abt_perform.specs.declared.fault.Fault.TheVariants as fault
use Rattle.abt_perform_threads.specs.Kept.{EndsKeepingBy, IsCutOff, IsKept, IsLeft, IsTold, unwritten_line}
use Rattle.abt_perform_threads.specs.declared.keeping.KeepFault.{KeepFault}
use Rattle.abt_perform_threads.specs.declared.keeping.KeepFault.TheVariants.{Unshown}
use Rattle.abt_files.specs.Calls.{IsBegun, octets_of}
use Rattle.abt_files.specs.Calls as out
use Rattle.abt_files.specs.declared.calls.OutCall.{OutCall}
use Rattle.abt_files.specs.declared.why.Why.{Why}
use Rattle.abt_files.specs.declared.why.Why.TheVariants.{Memory}
use Rattle.abt_journal_text.specs.declared.write_fault.WriteFault.TheVariants as unwritten
use Rattle.abt_cli.specs.declared.command.ThreadsCommand.{ThreadsCommand}
use Rattle.abt_commands.specs.Ends.{Ends, EndsOver, Quietly, TakesText}
use Rattle.abt_commands.specs.Opening.{TellsUnopened, open_line}
use Rattle.abt_commands.specs.Unwritten.{TellsReason, TellsUnwritten}

-- An output is given its name.
pub record IsNamed (calls : List OutCall) : Type 0 where
  pub ended : List OutCall
  pub named : out.IsKept calls ended

-- An output can't be given its name, which is told, and there is no such file.
pub record IsUnnamed (journals : Text) (calls : List OutCall) (told_old told_new : Option Text) : Type 0 where
  pub ended : List OutCall
  pub gone : out.IsGone calls ended
  pub why : Why
  pub told : TellsUnwritten (unwritten_line unwritten.Write) journals why told_old told_new

-- An output is removed, and it is told why, if a write failed.
pub record IsRemoved (journals : Text) (calls : List OutCall) (told_old told_new : Option Text) : Type 0 where
  pub more : Keeps told_old told_new ⊎ TellsReason journals told_old told_new
  pub ended : List OutCall
  pub gone : out.IsGone calls ended

-- One run of a scenario: all its lines went out, and the text of its journals to the output, which then was given its name.
pub record IsRunKept (workers : ℕ) (scenario : Scenario) (begun : List OutCall) (old new : Option Text) : Type 0 where
  pub calls : List OutCall
  pub kept : IsKept workers scenario old new (Some (octets_of begun)) (Some (octets_of calls))
  pub named : IsNamed calls

-- All its lines went out, and the text of its journals, and the output can't be given its name.
pub record IsRunUnnamed (workers : ℕ) (journals : Text) (scenario : Scenario) (begun : List OutCall) (old new told_old told_new : Option Text) : Type 0 where
  pub calls : List OutCall
  pub kept : IsKept workers scenario old new (Some (octets_of begun)) (Some (octets_of calls))
  pub between : Option Text
  pub quiet : Keeps told_old between
  pub unnamed : IsUnnamed journals calls between told_new

-- Not all its lines went out, which is told; the text of its journals did, and the output is given its name, if it can be.
pub record IsRunUnshown (workers : ℕ) (journals : Text) (scenario : Scenario) (begun : List OutCall) (old new told_old told_new : Option Text) : Type 0 where
  pub calls : List OutCall
  pub fault : Fault
  pub left : IsLeft workers scenario (IsCutOff fault old new) (Ok tt) (Some (octets_of begun)) (Some (octets_of calls))
  pub between : Option Text
  pub told : Tells (fault_line fault) told_old between
  pub named : (IsNamed calls × Keeps between told_new) ⊎ IsUnnamed journals calls between told_new

-- the text of the journals isn't whole
abbrev pub IsUnwhole : KeepFault → Type 0
IsUnwhole (Unshown fault) = ⊥
IsUnwhole other = ⊤

-- The text of the journals isn't written whole, or there is no run: that is told, and behind it why; and there is no such file.
pub record IsRunUnwritten (workers : ℕ) (journals : Text) (scenario : Scenario) (begun : List OutCall) (old new told_old told_new : Option Text) : Type 0 where
  pub calls : List OutCall
  pub fault : KeepFault
  pub unwhole : IsUnwhole fault
  pub ends : EndsKeepingBy workers scenario fault old new (Some (octets_of begun)) (Some (octets_of calls))
  pub between : Option Text
  pub told : IsTold fault told_old between
  pub removed : IsRemoved journals calls between told_new

abbrev pub IsRunUnkept : (workers : ℕ) → (journals : Text) → Scenario → (begun : List OutCall) → (old new told_old told_new : Option Text) → Type 0
IsRunUnkept workers journals scenario begun old new told_old told_new =
    IsRunUnwritten workers journals scenario begun old new told_old told_new
    ⊎ IsRunUnshown workers journals scenario begun old new told_old told_new
    ⊎ IsRunUnnamed workers journals scenario begun old new told_old told_new

-- The scenario is what a reader had left, and its run is kept in a file to which nothing went out before.
pub record IsKeptOver (workers : ℕ) (left old new : Option Text) : Type 0 where
  pub scenario : Scenario
  pub read : IfSome left (λ text. Reads text (Ok scenario))
  pub begun : List OutCall
  pub is_begun : IsBegun begun
  pub kept : IsRunKept workers scenario begun old new

-- No scenario was read: nothing is run, and no file is made.
pub record IsNoScenario (left old new told_old told_new : Option Text) : Type 0 where
  pub fault : EngineFault
  pub explains : IfSome left (Explains fault)
  pub silent : Keeps old new
  pub told : Tells (fault_line (fault_of_engine fault)) told_old told_new

-- what is told if the file can't be made
abbrev pub unmade_line : Why → Text
unmade_line Memory = fault_line fault.Memory
unmade_line _ = open_line

-- The file for the journals can't be made: that is told, with the reason, there is no run, and nothing goes out.
pub record IsUnmade (journals : Text) (left old new told_old told_new : Option Text) : Type 0 where
  pub scenario : Scenario
  pub read : IfSome left (λ text. Reads text (Ok scenario))
  pub why : Why
  pub silent : Keeps old new
  pub told : TellsUnwritten (unmade_line why) journals why told_old told_new

-- There is a run, which isn't kept.
pub record IsRunUnkeptOver (workers : ℕ) (journals : Text) (left old new told_old told_new : Option Text) : Type 0 where
  pub scenario : Scenario
  pub read : IfSome left (λ text. Reads text (Ok scenario))
  pub begun : List OutCall
  pub is_begun : IsBegun begun
  pub unkept : IsRunUnkept workers journals scenario begun old new told_old told_new

abbrev pub IsUnkeptOver : (workers : ℕ) → (journals : Text) → (left old new told_old told_new : Option Text) → Type 0
IsUnkeptOver workers journals left old new told_old told_new =
    IsNoScenario left old new told_old told_new
    ⊎ IsUnmade journals left old new told_old told_new
    ⊎ IsRunUnkeptOver workers journals left old new told_old told_new

-- what such a run leaves over one reader
abbrev pub EndsKeptOver : (workers : ℕ) → (journals : Text) → (status : ℕ) → (left_old left_new old new told_old told_new : Option Text) → Type 0
EndsKeptOver workers journals = Ends TakesText (Quietly (IsKeptOver workers)) (IsUnkeptOver workers journals)

abbrev pub KeepsJournals : ThreadsCommand → (journals : Text) → (status : ℕ) → (left_old left_new old new told_old told_new : Option Text) → Type 0
KeepsJournals command journals =
    EndsOver (option_map string_bytes command.file) TellsUnopened TakesText (Quietly (IsKeptOver command.workers)) (IsUnkeptOver command.workers journals)
