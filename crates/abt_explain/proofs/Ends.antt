-- Where the lines of events end.
use Rattle.std.proofs.Common.{◌≡◌, ℕ, ◌≤◌, min, List, [], ◌∷◌, length, refl, arith}
use Rattle.abt_model.specs.declared.event.Event.{Event}
use Rattle.abt_text.specs.Text.{Text}
use Rattle.abt_explain.specs.Written.{lines_from}

pub lines_end : (source : Text) (n : ℕ) (places : List ℕ) (events : List Event) → min (length places) (length events) ≤ 0
    → lines_from source n places events ≡ []
lines_end source n [] events h = refl
lines_end source n (at ∷ places) [] h = refl
lines_end source n (at ∷ places) (event ∷ events) h = absurd (omega arith)
