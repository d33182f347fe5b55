-- When a line is drawn at all.
use Rattle.std.specs.Prelude.{◌≢◌, Bool, IsTrue, Option, Some, IsSome, codes}
use Rattle.abt_text.specs.Text.{Text}

-- The line is wanted, and there is a terminal, whose kind is known and isn't `dumb`.
pub record IsDrawn (is_wanted is_terminal : Bool) (kind : Option Text) : Type 0 where
  pub wanted : IsTrue is_wanted
  pub terminal : IsTrue is_terminal
  pub known : IsSome kind
  pub able : kind ≢ Some (codes "dumb")
