-- The results of the searches of `build`.
use Rattle.std.specs.Prelude.{◌≡◌, ℕ, ◌<◌, ◌⊎◌, Option, MatchOption}
use Rattle.abt_net.specs.declared.fault.NetFault.{NetFault}
use Rattle.abt_net.specs.declared.fault.NetFault.TheVariants.{Memory}
use Rattle.abt_net.specs.Faults.{IsFirstFault}
use Rattle.abt_net.specs.Topology.{Topology, IsWithinRules}

-- P holds of n, and of none below.
abbrev pub IsLeastPlace : (ℕ → Type 0) → ℕ → Type 0
IsLeastPlace P n = P n × ((m : ℕ) → m < n → ¬ P m)

-- The result is the least number with P, or there is none.
abbrev pub NamesLeast : (ℕ → Type 0) → Option ℕ → Type 0
NamesLeast P answer = MatchOption answer ((n : ℕ) → ¬ P n) (IsLeastPlace P)

-- The fault is the first one, or it is want of memory, and the lists are a net.
abbrev pub IsAnswered : Topology → NetFault → Type 0
IsAnswered net fault = IsFirstFault net fault ⊎ ((fault ≡ Memory) × IsWithinRules net)
