-- The limits, each once, as numbers (docs/RULES.md, "Limits"). Rates and capacities are units of 1/512 cell per second, moments
-- and durations picoseconds. That the code's constants are these is proved in the crate that has the constant.
use Rattle.std.specs.Prelude.{ℕ, ◌-◌, ◌^◌, ◌≤◌}

-- the last of all numbers of requests
abbrev pub number_max : ℕ
number_max = 4294967295

-- the greatest capacity of a port
abbrev pub capacity_max : ℕ
capacity_max = 2 ^ 60

-- the most connections of a port
abbrev pub port_connections_max : ℕ
port_connections_max = 1024

-- the most ports and the most connections of a net
abbrev pub ports_max : ℕ
ports_max = 256

abbrev pub net_connections_max : ℕ
net_connections_max = 1024

-- the most hops of a path
abbrev pub hops_max : ℕ
hops_max = 16

-- the most link workers of a run
abbrev pub workers_max : ℕ
workers_max = 64

-- There are link workers, and not too many.
abbrev pub AreWorkers : ℕ → Type 0
AreWorkers workers = (1 ≤ workers) × (workers ≤ workers_max)

-- the greatest tolerance of a connection or a policer
abbrev pub tau_max : ℕ
tau_max = 10 ^ 12

-- the greatest delay of an access line
abbrev pub delay_max : ℕ
delay_max = 10 ^ 13

-- the least spacing that a rate has
abbrev pub spacing_min : ℕ
spacing_min = 234

-- the greatest spacing that a rate has, that is handed to a policer, and that a store keeps
abbrev pub spacing_max : ℕ
spacing_max = 10 ^ 12

-- the greatest moment of an emission
abbrev pub emit_max : ℕ
emit_max = 2 ^ 61

-- the greatest moment of a start: the longest hold-off, a second, then ends at the last moment at which a cell may leave
abbrev pub start_max : ℕ
start_max = 2 ^ 61 - 10 ^ 12

-- the greatest moment of an arrival
abbrev pub arrive_max : ℕ
arrive_max = 2 ^ 62
