use Rattle.std.proofs.Common.{◌≡◌, ℕ, ◌+◌, ◌-◌, ◌++◌, [], ◌∷◌, List, inl, inr, subst, sym, ap, ◌∙◌, arith}
use Rattle.std.specs.Prelude.{Option, Some, slice_get}
use Rattle.std.proofs.lemmas.List.{length_push}
use Rattle.abt_chart.specs.declared.arrow.Departure.{Departure}
use Rattle.abt_chart.specs.declared.told.Told.{Told}
use Rattle.abt_chart.specs.Behind.{AreNext, IsSending, AreSendings}
use Rattle.abt_chart.proofs.Numbered.{at_push}
use Rattle.abt_chart.proofs.behind.departures_of.Goals as goal

each_more : (told : List Told) (end i : ℕ) (xs : List (Option Departure)) (x : Option Departure) → AreSendings told end i xs → IsSending told (end - 1 - i) x →
    (k : ℕ) (y : Option Departure) → slice_get (xs ++ x ∷ []) k ≡ Some y → IsSending told (end - 1 - k) y
each_more told end i xs x are is k y at = elim (at_push xs x k y at) [
  | inl there ↦ are.each k y there
  | inr last ↦ (
      let place : k ≡ i = last.0 ∙ are.count_is in
      subst (λ n. IsSending told (end - 1 - n) y) (sym place) (subst (λ (z : Option Departure). IsSending told (end - 1 - i) z) (sym last.1) is))
]

sendings_more : (told : List Told) (end i : ℕ) (xs : List (Option Departure)) (x : Option Departure) → AreSendings told end i xs → IsSending told (end - 1 - i) x →
    AreSendings told end (i + 1) (xs ++ x ∷ [])
sendings_more told end i xs x are is =
    record { count_is = length_push xs x ∙ ap (λ n. n + 1) are.count_is; each = each_more told end i xs x are is }

pub loop-back-preserved : goal.loop-back-preserved
loop-back-preserved c =
    let told = c.args.told.now in
    let end = c.args.end in
    let i = c.loop-back.back in
    let earlier : end - 1 - i ≡ end - (i + 1) = omega arith in (
      subst (λ n. AreNext told n c.note.new.places) earlier c.in_ok-note.ensures,
      subst (λ (xs : List (Option Departure)). AreSendings told end (i + 1) xs) (sym c.in_ok-push.ensures.ok)
          (sendings_more told end i c.loop-back.departures c.departure_at.result c.loop-back.invariant.1 c.departure_at.ensures),
    )
