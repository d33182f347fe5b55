-- How many places are left, counted down, and events that have come to their end.
use Rattle.std.proofs.Common.{◌≡◌, ℕ, suc, ◌+◌, ◌-◌, ◌<◌, ◌≤◌, min, List, [], ◌∷◌, length, refl, arith}
use Rattle.abt_text.specs.Text.{Text}
use Rattle.abt_chart.specs.declared.crossings.Crossing.{Crossing}
use Rattle.abt_chart.specs.declared.told.Told.{Told}
use Rattle.abt_draw.specs.Ladders.{events_text}
use Rattle.abt_draw.specs.declared.sheet.Sheet.{Sheet}

pub left_with : (n m : ℕ) → m < n → n - m ≡ suc (n - (m + 1))
left_with n m low = omega (arith, low)

pub events_end : (sheet : Sheet) (tolds : List Told) (crossings : List Crossing) (words : Text) → min (length tolds) (length crossings) ≤ 0
    → events_text sheet tolds crossings words ≡ []
events_end sheet [] crossings words h = refl
events_end sheet (told ∷ tolds) [] words h = refl
events_end sheet (told ∷ tolds) (crossing ∷ crossings) words h = absurd (omega arith)
