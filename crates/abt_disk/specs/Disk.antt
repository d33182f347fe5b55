-- A disk of blocks, and what a crash may leave of it (docs/RULES.md, "A store on a disk").
use Rattle.std.specs.Prelude.{◌≡◌, ◌≢◌, ◌⊎◌, ◌≤◌, ℕ, List}

-- the octets of each block
abbrev pub Blocks : Type 0
Blocks = ℕ → List ℕ

-- Two disks have the same octets in each block.
abbrev pub AreSame : Blocks → Blocks → Type 0
AreSame a b = (block : ℕ) → a block ≡ b block

-- All blocks but one are as they were; of that one nothing is known.
abbrev pub Torn : (block : ℕ) → (old new : Blocks) → Type 0
Torn block old new = (other : ℕ) → other ≢ block → new other ≡ old other

-- What a crash may leave now is what one might have left before, after a step.
abbrev pub Follows : (Blocks → Blocks → Type 0) → (old new : Blocks → Type 0) → Type 0
Follows step old new = (c : Blocks) → new c → (d : Blocks) × old d × step d c

-- A crash leaves nothing now that one couldn't have left before.
abbrev pub NoMore : (old new : Blocks → Type 0) → Type 0
NoMore old new = (c : Blocks) → new c → old c

-- A crash leaves these blocks and nothing else.
abbrev pub Only : Blocks → (Blocks → Type 0) → Type 0
Only blocks may_leave = (c : Blocks) → may_leave c → AreSame c blocks

-- Time goes on by a call: a crash at some moment since t left what one might have left until then, or what one may leave now.
pub record Elapses (before now : ℕ) (past since : ℕ → Blocks → Type 0) (may_leave : Blocks → Type 0) : Type 0 where
  pub later : before ≤ now
  pub nothing_else : (t : ℕ) (c : Blocks) → t ≤ before → since t c → past t c ⊎ may_leave c
  pub keeps : (t : ℕ) (c : Blocks) → t ≤ before → past t c → since t c

-- A crash at any moment since `old` leaves blocks that have P.
pub record LeavesOnly {D : Type 0} (moment : D → ℕ) (left_since : D → ℕ → Blocks → Type 0) (old new : D)
    (P : Blocks → Type 0) : Type 0 where
  pub later : moment old ≤ moment new
  pub each : (c : Blocks) → left_since new (moment old) c → P c
  -- and so it is of what began earlier
  pub before : (t : ℕ) (c : Blocks) → t ≤ moment old → left_since new t c → left_since old t c ⊎ P c
