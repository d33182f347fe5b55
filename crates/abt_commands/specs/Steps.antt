-- What `abt step` leaves.
use Rattle.std.specs.Prelude.{◌⊎◌, ℕ, Option}
use Rattle.std.specs.Io.KnownBytes.{Keeps}
use Rattle.abt_text.specs.Text.{Text}
use Rattle.abt_step.specs.Answered.{IsAnsweredAs, IsRefusedAs}
use Rattle.abt_plans.specs.declared.answer_form.AnswerForm.{AnswerForm}
use Rattle.abt_commands.specs.Ends.{Ends, TakesAny}
use Rattle.abt_commands.specs.Opening.{TellsUnopened}

-- The scenario is that of some reader, which is there in place of the file; its net answers the lines of the input, and nothing is told.
pub record IsStepped (form : AnswerForm) (left old new told_old told_new : Option Text) : Type 0 where
  pub net : Option Text
  pub answered : IsAnsweredAs form net left old new
  pub quiet : Keeps told_old told_new

-- The file isn't opened: that is told, and nothing goes out.
pub record IsNetUnopened (file : Text) (old new told_old told_new : Option Text) : Type 0 where
  pub silent : Keeps old new
  pub told : TellsUnopened file told_old told_new

-- Lines that aren't all answered over some reader in place of the file.
pub record IsStepRefused (form : AnswerForm) (left old new told_old told_new : Option Text) : Type 0 where
  pub net : Option Text
  pub left_new : Option Text
  pub refused : IsRefusedAs form net left left_new old new told_old told_new

-- there is a fault, which is told
abbrev pub IsUnstepped : (file : Text) → AnswerForm → (left old new told_old told_new : Option Text) → Type 0
IsUnstepped file form left old new told_old told_new =
    IsNetUnopened file old new told_old told_new ⊎ IsStepRefused form left old new told_old told_new

abbrev pub Steps : (file : Text) → AnswerForm → (status : ℕ) → (left_old left_new old new told_old told_new : Option Text) → Type 0
Steps file form = Ends TakesAny (IsStepped form) (IsUnstepped file form)
