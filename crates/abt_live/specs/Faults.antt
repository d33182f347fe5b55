-- The faults of lines (docs/LIVE.md, "Faults of lines").
use Rattle.std.specs.Prelude.{codes}
use Rattle.abt_text.specs.Text.{Text, ◌⋅◌, newline}
use Rattle.abt_perform.specs.Names as perform
use Rattle.abt_live.specs.declared.fault.LiveFault.{LiveFault}
use Rattle.abt_live.specs.declared.fault.LiveFault.TheVariants.{TooLong, NotUtf8, Words, Cell, Cut, Port, UnknownVc, Request, Store, Clock, ClockBack, TimeRange}

abbrev pub fault_name : LiveFault → Text
fault_name TooLong = codes "TooLong"
fault_name NotUtf8 = codes "NotUtf8"
fault_name Words = codes "words"
fault_name (Cell fault) = perform.fault_name fault
fault_name Cut = codes "cut"
fault_name Port = codes "port"
fault_name UnknownVc = codes "UnknownVc"
fault_name Request = codes "request"
fault_name Store = codes "store"
fault_name Clock = codes "clock"
fault_name ClockBack = codes "ClockBack"
fault_name TimeRange = codes "TimeRange"

-- the line that answers a line with a fault
abbrev pub fault_line : LiveFault → Text
fault_line fault = codes "fault " ⋅ fault_name fault ⋅ newline
