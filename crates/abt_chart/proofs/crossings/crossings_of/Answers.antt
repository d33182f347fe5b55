use Rattle.std.proofs.Common.{◌≡◌, ◌+◌, ◌-◌, ◌<◌, length, get_or, refl, arith, ◌++◌, ℕ, [], ◌∷◌, List, Some, inl, inr, subst, sym, ap, ◌∙◌}
use Rattle.std.specs.Prelude.{slice_get, Option, None}
use Rattle.std.proofs.lemmas.Option.{slice_get-get_or}
use Rattle.abt_chart.specs.Before.{IsBefore}
use Rattle.abt_chart.specs.Behind.{IsSending, AreSendings}
use Rattle.abt_chart.specs.declared.arrow.Departure.{Departure}
use Rattle.std.proofs.lemmas.List.{length_push}
use Rattle.abt_chart.specs.declared.told.Told.{Told}
use Rattle.abt_chart.specs.declared.crossings.Crossing.{Crossing}
use Rattle.abt_chart.specs.Charts.{IsCrossing, AreCrossings}
use Rattle.abt_chart.proofs.Numbered.{at_push}
use Rattle.abt_chart.proofs.crossings.crossings_of.Goals as goal

each_more : (told : List Told) (first i : ℕ) (xs : List Crossing) (x : Crossing) → AreCrossings told first i xs → IsCrossing told (first + i) x →
    (k : ℕ) (y : Crossing) → slice_get (xs ++ x ∷ []) k ≡ Some y → IsCrossing told (first + k) y
each_more told first i xs x are is k y at = elim (at_push xs x k y at) [
  | inl there ↦ are.each k y there
  | inr last ↦ (
      let place : k ≡ i = last.0 ∙ are.count_is in
      subst (λ n. IsCrossing told (first + n) y) (sym place) (subst (λ (z : Crossing). IsCrossing told (first + i) z) (sym last.1) is))
]

crossings_more : (told : List Told) (first i : ℕ) (xs : List Crossing) (x : Crossing) → AreCrossings told first i xs → IsCrossing told (first + i) x →
    AreCrossings told first (i + 1) (xs ++ x ∷ [])
crossings_more told first i xs x are is =
    record { count_is = length_push xs x ∙ ap (λ n. n + 1) are.count_is; each = each_more told first i xs x are is }

-- what an event of those that are read sends
sending_at : (told : List Told) (first count i : ℕ) (ds all : List (Option Departure)) (d : Option Departure) → i < count → all ≡ ds
    → AreSendings told (first + count) count ds → IsSending told (first + i) (get_or all (count - 1 - i) d)
sending_at told first count i ds all d low same are =
    let place : first + count - 1 - (count - 1 - i) ≡ first + i = omega (arith, low) in
    let within : count - 1 - i < length ds = omega (arith, low, are.count_is) in
    subst (λ (ys : List (Option Departure)). IsSending told (first + i) (get_or ys (count - 1 - i) d)) (sym same)
    (subst (λ n. IsSending told n (get_or ds (count - 1 - i) d)) place (are.each (count - 1 - i) (get_or ds (count - 1 - i) d) (slice_get-get_or ds (count - 1 - i) d within)))

pub loop-index-init : goal.loop-index-init
loop-index-init c =
    let told = c.args.told.now in
    let first = c.args.first in
    let none : c.new-crossings.result ≡ [] = c.new-crossings.ensures in
    let start : first ≡ first + 0 = omega arith in (
      subst (λ n. IsBefore told n c.in_ok-before.before) start c.in_ok-before.ensures,
      subst (AreCrossings told first 0) (sym none) (record { count_is = refl; each = λ k y at. absurd (cc) }),
    )

pub loop-index-preserved : goal.loop-index-preserved
loop-index-preserved c =
    let told = c.args.told.now in
    let first = c.args.first in
    let i = c.loop-index.index in
    let next : first + i + 1 ≡ first + (i + 1) = omega arith in
    let low : i < c.args.count = c.loop-index-test.true in
    let sending = sending_at told first c.args.count i c.in_ok-departures.departures c.as_slice-departures.result.now None low c.as_slice-departures.ensures c.in_ok-departures.ensures in
    let crossing : IsCrossing told (first + i) (record { arrival = c.arrival_at.result; departure = get_or c.as_slice-departures.result.now (c.args.count - 1 - i) None }) =
    record { arrival = c.arrival_at.ensures.some; no_arrival = c.arrival_at.ensures.none; departure = sending.departs; no_departure = sending.nothing } in (
      subst (λ n. IsBefore told n c.note.new.self) next c.in_ok-note.ensures,
      subst (λ (xs : List Crossing). AreCrossings told first (i + 1) xs) (sym c.in_ok-push.ensures.ok)
          (crossings_more told first i c.loop-index.crossings _ c.loop-index.invariant.1 crossing),
    )
