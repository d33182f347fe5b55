-- What a port's try to serve a message is to a link worker (docs/RULES.md, "Workers").
use Rattle.std.specs.Prelude.{Option, None, Some, Result, Ok, Err}
use Rattle.abt_journal.specs.declared.fault.ServeFault.{ServeFault}
use Rattle.abt_journal.specs.declared.fault.ServeFault.TheVariants.{Wound, Memory}

-- What the worker goes on with: nothing if memory was refused. A Wound ends the worker.
abbrev pub served_in : {A : Type 0} → Result A ServeFault → Result (Option A) ServeFault
served_in (Ok served) = Ok (Some served)
served_in (Err Memory) = Ok None
served_in (Err (Wound seen found)) = Err (Wound seen found)
