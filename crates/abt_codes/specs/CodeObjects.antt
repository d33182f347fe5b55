-- The objects that `abt code --json` and `abt write --json` print (docs/FORMATS.md, "JSON").
use Rattle.std.specs.Prelude.{◌≡◌, ℕ, List, [], ◌∷◌, ◌++◌, Option, Some, None, codes}
use Rattle.json.specs.Token.{Token, key, null}
use Rattle.abt_cell.specs.declared.message.Rm.{Rm}
use Rattle.abt_entry.specs.ObjectMembers.{text_member}
use Rattle.abt_json.specs.Kinds.{kind_object}
use Rattle.abt_json.specs.Objects.{rate_members}
use Rattle.abt_perform.specs.CellText.{message_hex}
use Rattle.abt_text.specs.Text.{Text, ◌⋅◌}
use Rattle.abt_codes.specs.Nearest.{IsAbove, IsBelow}
use Rattle.abt_codes.specs.declared.quantity.Quantity.{Quantity}

abbrev pub null_member : Text → List Token
null_member name = key name ∷ null ∷ []

-- the members of a rate, of which there is none
abbrev pub no_rate_members : List Token
no_rate_members = null_member (codes "code") ++ null_member (codes "units") ++ null_member (codes "spacing")

abbrev pub below_object : ℕ → Text
below_object units = kind_object (codes "below") (rate_members units)

abbrev pub above_members : Option ℕ → List Token
above_members (Some units) = rate_members units
above_members None = no_rate_members

abbrev pub above_object : Option ℕ → Text
above_object above = kind_object (codes "above") (above_members above)

-- Two objects of a quantity: the greatest rate that isn't above it, and the least that isn't below it.
pub record AreCodeObjects (quantity : Quantity) (text : Text) : Type 0 where
  pub below : ℕ
  pub above : Option ℕ
  pub is_below : IsBelow quantity below
  pub is_above : IsAbove quantity above
  pub lines : text ≡ below_object below ⋅ above_object above

-- the one cell that is written for a message
abbrev pub written_object : Rm → Text
written_object rm = kind_object (codes "written") (text_member (codes "cell") (message_hex rm))
