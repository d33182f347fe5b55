-- What an ask has to have kept, and when it writes (docs/RULES.md, "Source").
use Rattle.std.specs.Prelude.{ℕ, ◌+◌, ◌==◌, ◌||◌, nat_lt, Bool, if◌then◌else◌, max, min}
use Rattle.abt_rate.specs.Limits.{number_max}
use Rattle.abt_rate.specs.Rate.{spacing_of}
use Rattle.abt_keep.specs.Record.{KeptRecord}

-- how many numbers one write keeps: that of the ask and 63 after it
abbrev pub stride : ℕ
stride = 64

-- the spacing that a rate counts for: a rate of zero isn't counted
abbrev pub counted : ℕ → ℕ
counted rate = if rate == 0 then 0 else spacing_of rate

-- The need of an ask: the greatest of the gap that is running, the spacings of the present rate and of the rate that an open request
-- asks for, and that of the newly asked rate. After a crash no cell leaves for as long as any of them.
abbrev pub need_by : (gap rate awaited ask : ℕ) → ℕ
need_by gap rate awaited ask = max gap (max (counted rate) (max (counted awaited) (counted ask)))

-- An ask after number `last` writes if its number or its need is above what is kept.
abbrev pub writes_by : KeptRecord → (last need : ℕ) → Bool
writes_by kept last need = nat_lt kept.number (last + 1) || nat_lt kept.spacing need

-- What it writes: its number and 63 more, but none above the last of all numbers, and its need.
abbrev pub written_by : (last need : ℕ) → KeptRecord
written_by last need = record { number = min (last + stride) number_max; spacing = need }
