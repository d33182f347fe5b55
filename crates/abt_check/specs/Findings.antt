-- What of a text's findings is told, and limits along which they are found.
use Rattle.std.specs.Prelude.{◌≡◌, ℕ, ◌<◌, ◌≤◌, ◌*◌, ◌^◌, ◌++◌, ◌∷◌, [], List, length}
use Rattle.abt_rate.specs.Limits.{hops_max}

-- the most faults, and the most warnings, that are told
abbrev pub found_max : ℕ
found_max = 100

-- One finding more stands behind those before it; if these are as many as are told, it is let go.
pub record IsKept {F : Type 0} (before : List F) (more : F) (after : List F) : Type 0 where
  pub room : length before < found_max → after ≡ before ++ more ∷ []
  pub full : found_max ≤ length before → after ≡ before

-- A path may have so many hops.
pub record IsPathLength (hops : ℕ) : Type 0 where
  pub least : 1 ≤ hops
  pub most : hops ≤ hops_max

-- The two numbers name a channel.
pub record NameChannel (vpi vci : ℕ) : Type 0 where
  pub path : vpi < 2 ^ 12
  pub channel : vci < 2 ^ 16

-- A word was meant that is so many letters away: they are at most two, and fewer than half of the longer word's octets; and each word that
-- was taken for meant before is farther away.
pub record IsNearer (distance least longest : ℕ) : Type 0 where
  pub before : distance < least
  pub near : distance ≤ 2
  pub half : distance * 2 < longest
