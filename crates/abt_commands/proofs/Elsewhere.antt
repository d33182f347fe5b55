-- What a command leaves over a file.
use Rattle.std.proofs.Common.{◌≡◌, ℕ, Option, None, Some, inr, subst}
use Rattle.std.specs.Prelude.{IsSome}
use Rattle.std.specs.Io.KnownBytes.{Keeps}
use Rattle.std.proofs.KnownBytes.{Keeps-refl}
use Rattle.abt_text.specs.Text.{Text}
use Rattle.abt_commands.specs.Ends.{Ends, EndsOver, IsInputOf}
use Rattle.abt_commands.specs.declared.input.Input.{Input}
use Rattle.abt_commands.specs.declared.input.Input.TheVariants.{Here, File}

over_name : (file : Option Text) → IsSome file → (Unopened : (name : Text) → (old new : Option Text) → Type 0)
    (Takes : (old new : Option Text) → Type 0) (Done Refused : (left old new told_old told_new : Option Text) → Type 0)
    (status : ℕ) (left file_old file_new old new told_old told_new : Option Text)
    → Ends Takes Done Refused status file_old file_new old new told_old told_new
    → EndsOver file Unopened Takes Done Refused status left left old new told_old told_new
over_name None some Unopened Takes Done Refused status left file_old file_new old new told_old told_new ends = absurd (cc)
over_name (Some name) some Unopened Takes Done Refused status left file_old file_new old new told_old told_new ends = record {
  ends = inr (record { untaken = Keeps-refl left; file_old = file_old; file_new = file_new; ends = ends });
}

pub over_file : {F : Type 0} (file : Option Text) (opened : F) (input : Input F) → input ≡ File opened → IsInputOf file input
    → (Unopened : (name : Text) → (old new : Option Text) → Type 0)
    (Takes : (old new : Option Text) → Type 0) (Done Refused : (left old new told_old told_new : Option Text) → Type 0)
    (status : ℕ) (left file_old file_new old new told_old told_new : Option Text)
    → Ends Takes Done Refused status file_old file_new old new told_old told_new
    → EndsOver file Unopened Takes Done Refused status left left old new told_old told_new
over_file file opened input is kind Unopened Takes Done Refused status left file_old file_new old new told_old told_new ends =
    over_name file (rw is at kind) Unopened Takes Done Refused status left file_old file_new old new told_old told_new ends
