-- Pictures that go to a file, or to the standard output (docs/PICTURES.md, "Drawing").
use Rattle.std.specs.Prelude.{Bool, true, false, Option, codes, string_bytes}
use Rattle.std.specs.Io.KnownBytes.{Appends, Keeps}
use Rattle.std.specs.Str.{bytes_eq}
use Rattle.abt_text.specs.Streams.{AppendsPrefix}
use Rattle.abt_text.specs.Text.{Text}
use Rattle.abt_plans.specs.declared.picture.PicturePlan.{PicturePlan}
use Rattle.abt_commands.specs.Saved.{IsFiled}

-- `-` is the standard output
abbrev pub is_printed : PicturePlan → Bool
is_printed picture = bytes_eq (string_bytes picture.out) (codes "-")

-- All of a text went out, or it went to a file and nothing went out.
abbrev pub Delivers : (printed : Bool) → Text → (old new : Option Text) → Type 0
Delivers true text old new = Appends old new text
Delivers false text old new = IsFiled text × Keeps old new

-- A part of it went out, or nothing did.
abbrev pub BreaksOff : (printed : Bool) → Text → (old new : Option Text) → Type 0
BreaksOff true text old new = AppendsPrefix old new text
BreaksOff false text old new = Keeps old new
