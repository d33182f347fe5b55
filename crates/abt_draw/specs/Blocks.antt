-- The stack of a port: a block for each connection, one upon the other, in tenths of a unit above the line at which the band begins.
use Rattle.std.specs.Prelude.{◌≡◌, ℕ, ◌+◌, ◌*◌, ◌/◌, ◌==◌, ◌≤◌, if◌then◌else◌, List, length, take, sum, Some, slice_get}
use Rattle.abt_draw.specs.declared.block.Block.{Block}

-- how high a band is drawn
abbrev pub band_height : ℕ
band_height = 600

-- how high a rate is drawn in a band that has room for so much
abbrev pub height_of : (value most : ℕ) → ℕ
height_of value most = if most == 0 then 0 else value * band_height / most

-- the block of a connection stands upon those of the connections before it
pub record IsBlock (stack : List ℕ) (most c : ℕ) (block : Block) : Type 0 where
  pub bottom : block.bottom ≡ height_of (sum (take c stack)) most
  pub top : block.top ≡ height_of (sum (take (c + 1) stack)) most

pub record AreBlocks (stack : List ℕ) (most : ℕ) (blocks : List Block) : Type 0 where
  pub count_is : length blocks ≡ length stack
  pub each : (c : ℕ) (block : Block) → slice_get blocks c ≡ Some block → IsBlock stack most c block

-- No block stands above the height of a capacity that the stack doesn't exceed.
pub record AreBelow (blocks : List Block) (line : ℕ) : Type 0 where
  pub each : (c : ℕ) (block : Block) → slice_get blocks c ≡ Some block → block.top ≤ line
