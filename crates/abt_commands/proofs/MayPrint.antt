-- What may have gone out of a picture that was delivered, or wasn't drawn.
use Rattle.std.proofs.Common.{◌≡◌, ◌∙◌, ◌⊎◌, inl, inr, sym, ℕ, List, [], ◌∷◌, ◌++◌, take, Bool, true, false, Option, None, Some}
use Rattle.std.proofs.lemmas.List.{append-nil}
use Rattle.std.specs.Io.KnownBytes.{Appends, Keeps}
use Rattle.abt_text.specs.Text.{Text}
use Rattle.abt_commands.specs.Delivered.{Delivers, BreaksOff}
use Rattle.abt_commands.specs.DrawsThreads.{MayPrint}

whole_out : (printed : Bool) (text : Text) (old new : Option Text) → Delivers printed text old new → MayPrint printed old new
whole_out true text old new out = (text, out)
whole_out false text old new out = out.1

part_out : (printed : Bool) (text : Text) (old new : Option Text) → BreaksOff printed text old new → MayPrint printed old new
part_out true text old new out = (take out.count text, out.front)
part_out false text old new out = out

-- of a picture that was delivered
pub delivered : (status : ℕ) (printed : Bool) (text : Text) (old new : Option Text) → (status ≡ 0) ⊎ (status ≡ 1)
    → (status ≡ 0 → Delivers printed text old new) → (status ≡ 1 → BreaksOff printed text old new) → MayPrint printed old new
delivered status printed text old new (inl is) whole part = whole_out printed text old new (whole is)
delivered status printed text old new (inr is) whole part = part_out printed text old new (part is)

-- where nothing went out
pub none_out : (printed : Bool) (old new : Option Text) → Keeps old new → MayPrint printed old new
none_out true None new is = ([], is)
none_out true (Some xs) None is = absurd is
none_out true (Some xs) (Some ys) is = ([], is ∙ sym (append-nil xs))
none_out false old new is = is
