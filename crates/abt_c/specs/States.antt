-- What the states that a C program keeps stand for. Each has a kind, which tells it from those of another kind.
use Rattle.std.specs.Prelude.{◌≡◌, ◌≢◌, ℕ, ◌+◌, ◌≤◌, ◌==◌, Some, None, if◌then◌else◌}
use Rattle.abt_rate.specs.Limits.{spacing_max, tau_max}
use Rattle.abt_gcra.specs.Policing.{Policing, IsKept, IsLevelAt}
use Rattle.abt_shaper.specs.Shaping.{Shaping, IsKept as IsShaping}
use Rattle.abt_c.specs.declared.state.AbtPolicing.{AbtPolicing}
use Rattle.abt_c.specs.declared.state.AbtBucket.{AbtBucket}
use Rattle.abt_c.specs.declared.state.AbtShaper.{AbtShaper}

-- The kinds: eight letters each, "abt gcra", "abt poli", "abt buck" and "abt shap".
abbrev pub gcra_kind : ℕ
gcra_kind = 0x6162742067637261

abbrev pub policer_kind : ℕ
policer_kind = 0x61627420706f6c69

abbrev pub bucket_kind : ℕ
bucket_kind = 0x616274206275636b

abbrev pub shaper_kind : ℕ
shaper_kind = 0x6162742073686170

-- ---- virtual scheduling, and the policer

-- A theoretical arrival time of 0 stands for none: a cell that was taken leaves a later one.
abbrev pub policing_of : AbtPolicing → Policing
policing_of s = record { tau = s.tau; tat = if s.tat == 0 then None else Some s.tat; clock = s.clock }

-- The state is one of that kind.
abbrev pub IsPolicing : (kind : ℕ) → AbtPolicing → Type 0
IsPolicing kind s = (s.kind ≡ kind) × IsKept (policing_of s)

-- the state of no kind
abbrev pub no_policer : AbtPolicing
no_policer = record { kind = 0; tau = 0; tat = 0; clock = 0 }

-- a spacing that is handed in with a cell
abbrev pub IsChecked : ℕ → Type 0
IsChecked spacing = (1 ≤ spacing) × (spacing ≤ spacing_max)

-- ---- the leaky bucket

-- The last conformance time and the level add up to the theoretical arrival time.
abbrev pub bucket_of : AbtBucket → Policing
bucket_of s = record { tau = s.tau; tat = if s.has_level == 0 then None else Some (s.last + s.level); clock = s.clock }

abbrev pub IsBucket : AbtBucket → Type 0
IsBucket s =
    (s.kind ≡ bucket_kind) × (s.tau ≤ tau_max) × (s.has_level ≢ 0 → IsLevelAt s.clock s.last s.level)

-- ---- the shaper

abbrev pub shaping_of : AbtShaper → Shaping
shaping_of s = record { next = s.next; emitted = if s.has_emitted == 0 then None else Some s.emitted }

abbrev pub IsShaper : AbtShaper → Type 0
IsShaper s = (s.kind ≡ shaper_kind) × IsShaping (shaping_of s)
