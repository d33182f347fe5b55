-- The text that `abt code` prints (docs/FORMATS.md, "Rates in words").
use Rattle.std.specs.Prelude.{◌≡◌, ℕ, Option, Some, None, codes}
use Rattle.abt_text.specs.Text.{Text, ◌⋅◌}
use Rattle.abt_perform.specs.RateText.{rate_line}
use Rattle.abt_codes.specs.Nearest.{IsAbove, IsBelow}
use Rattle.abt_codes.specs.declared.quantity.Quantity.{Quantity}

abbrev pub above_line : Option ℕ → Text
above_line (Some units) = codes "above " ⋅ rate_line units
above_line None = codes "above none\n"

-- Two lines of a quantity: the greatest rate that isn't above it, and the least that isn't below it.
pub record IsCodeText (quantity : Quantity) (text : Text) : Type 0 where
  pub below : ℕ
  pub above : Option ℕ
  pub is_below : IsBelow quantity below
  pub is_above : IsAbove quantity above
  pub lines : text ≡ codes "below " ⋅ rate_line below ⋅ above_line above
