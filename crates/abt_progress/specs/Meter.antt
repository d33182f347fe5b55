-- When the line is drawn anew: after so many octets, and at the end of an input that was long.
use Rattle.std.specs.Prelude.{ℕ, ◌+◌, ◌-◌, ◌^◌, ◌==◌, nat_le, nat_lt, min, Bool, if◌then◌else◌}

-- how many octets are read between a line and the next
abbrev pub pace : ℕ
pace = 262144

-- how many octets have been read once so many more are; no more are counted than fit
abbrev pub counted : (octets more : ℕ) → ℕ
counted octets more = min (octets + more) (2 ^ 64 - 1)

-- Whether a read of so many octets is to be told, if so many had been read, and so many were told last: at the end of an input if
-- any were told, and else if the pace is reached.
abbrev pub is_due : (octets told more : ℕ) → Bool
is_due octets told more = if more == 0 then nat_lt 0 told else nat_le pace (counted octets more - told)
