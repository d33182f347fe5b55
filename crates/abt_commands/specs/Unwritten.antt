-- What is told of a file that isn't written (docs/FORMATS.md, "Files").
use Rattle.std.specs.Prelude.{◌≡◌, ◌⊎◌, Option}
use Rattle.abt_text.specs.Text.{Text, ◌⋅◌}
use Rattle.abt_files.specs.Shown.{line_of}
use Rattle.abt_files.specs.Why.{unwritten_words}
use Rattle.abt_files.specs.declared.why.Why.{Why}
use Rattle.abt_perform.specs.Plans.{Tells}

-- The file's name and a reason were told.
pub record TellsReason (name : Text) (old new : Option Text) : Type 0 where
  pub why : Why
  pub told : Tells (line_of name (unwritten_words why)) old new

-- The line of a fault was told, and behind it the file's name and the reason, unless memory was refused.
pub record TellsUnwritten (line name : Text) (why : Why) (old new : Option Text) : Type 0 where
  pub text : Text
  pub words : (text ≡ line ⋅ line_of name (unwritten_words why)) ⊎ (text ≡ line)
  pub told : Tells text old new
