-- Requests and answers among what comes to a port.
use Rattle.std.specs.Prelude.{◌≡◌}
use Rattle.abt_cell.specs.declared.message.Rm.{Rm}
use Rattle.abt_journal.specs.declared.entry.Receipt.{Receipt}
use Rattle.abt_serving.specs.Messages.{input_of}

-- The receipt is one for a request or an answer, and not for a data cell.
abbrev pub IsMessage : Receipt → Type 0
IsMessage r = (message : Rm) × (r.entry.input ≡ input_of message)
