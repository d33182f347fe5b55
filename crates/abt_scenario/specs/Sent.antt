-- The outcome of writing a net and events as a scenario.
use Rattle.std.specs.Prelude.{List, Option}
use Rattle.std.specs.Io.KnownBytes.{Appends, Keeps}
use Rattle.std.specs.declared.io.ErrorKind.{ErrorKind}
use Rattle.std.specs.declared.io.ErrorKind.TheVariants.{OutOfMemory}
use Rattle.abt_net.specs.Topology.{Topology}
use Rattle.abt_model.specs.declared.event.Event.{Event}
use Rattle.abt_text.specs.Text.{Text}
use Rattle.abt_text.specs.Streams.{AppendsPrefix}
use Rattle.abt_scenario.specs.Faults.{IsWhyNone}
use Rattle.abt_scenario.specs.Samples.{IsSample}
use Rattle.abt_scenario.specs.declared.text_fault.EventsFault.{EventsFault}
use Rattle.abt_scenario.specs.declared.text_fault.EventsFault.TheVariants.{Open, Write, Memory}

-- The sample of this net and these events went out, all of it.
pub record IsSent (net : Topology) (events : List Event) (old new : Option Text) : Type 0 where
  pub text : Text
  pub sample : IsSample net events text
  pub written : Appends old new text

-- A part of it went out, from its beginning, and not all of it.
pub record IsPartlySent (net : Topology) (events : List Event) (old new : Option Text) : Type 0 where
  pub text : Text
  pub sample : IsSample net events text
  pub written : AppendsPrefix old new text

-- why not all of it went out, and what did: a part, if the writer failed; else nothing, since there is no sample
abbrev pub IsUnsent : Topology → List Event → EventsFault → (old new : Option Text) → Type 0
IsUnsent net events Write old new = IsPartlySent net events old new
IsUnsent net events fault old new = IsWhyNone net events fault × Keeps old new

-- They went out to some writer, which stands for the file.
pub record IsSaved (net : Topology) (events : List Event) : Type 0 where
  pub old : Option Text
  pub new : Option Text
  pub sent : IsSent net events old new

-- There is a sample, which went to no file, since none could be made.
pub record IsUnmade (net : Topology) (events : List Event) : Type 0 where
  pub text : Text
  pub sample : IsSample net events text

-- A part of a sample went out to some writer, which stands for the file.
pub record IsPartlySaved (net : Topology) (events : List Event) : Type 0 where
  pub old : Option Text
  pub new : Option Text
  pub sent : IsPartlySent net events old new

-- why no file has all of it: there is no sample; or there is one, and no file can be made, or it can't be written to its end; or memory was
-- refused
abbrev pub IsUnsaved : Topology → List Event → EventsFault → Type 0
IsUnsaved net events Open = IsUnmade net events
IsUnsaved net events Write = IsPartlySaved net events
IsUnsaved net events fault = IsWhyNone net events fault

-- why a file can't be made, by what the error is to the system
abbrev pub unmade : ErrorKind → EventsFault
unmade OutOfMemory = Memory
unmade kind = Open
