-- When a link worker has been told to stop (docs/RULES.md, "Workers").
use Rattle.std.specs.Prelude.{Bool, true, false, Result, Ok, Err}
use Rattle.crossbeam_channel.specs.declared.err.SendError.{SendError}
use Rattle.crossbeam_channel.specs.declared.err.SendError.TheVariants.{Disconnected, OutOfMemory}

-- A stop that was refused memory is sent again, and no other.
abbrev pub is_done : {A : Type 0} → Result (Unit {0}) (SendError A) → Bool
is_done (Ok sent) = true
is_done (Err (Disconnected parcel)) = true
is_done (Err (OutOfMemory parcel)) = false
