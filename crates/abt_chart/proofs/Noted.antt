-- What is known of the messages before one event more.
use Rattle.std.proofs.Common.{◌≡◌, ◌≢◌, ◌↔◌, ◌⊎◌, inl, inr, ℕ, ◌+◌, ◌<◌, List, length, get_or, refl, sym, ap, subst, arith}
use Rattle.std.specs.Prelude.{Option, None, Some, IfSome, IfNone, IsTrue, is_some, Result, Ok, Err, OnOk, slice_get, option_and_then}
use Rattle.std.proofs.lemmas.Bool.{cases_eq}
use Rattle.std.proofs.lemmas.Option.{slice_get-get_or}
use Rattle.abt_chart.specs.declared.message.Message.{Message}
use Rattle.abt_chart.specs.declared.told.Told.{Told}
use Rattle.abt_chart.specs.Arrows.{sent_at, brought_at, IsNewestSending, IsUnsent, CameBefore, IsOvertaken}
use Rattle.abt_chart.specs.Before.{SendsNewer, RequestsView, BeforeView, IsBefore, has_newer}
use Rattle.abt_chart.specs.Places.{PlacesView, place_in}
use Rattle.abt_chart.proofs.Same.{has_cases}

-- what an event that is read has
pub has_at : (of : Told → Option Message) (told : List Told) (n : ℕ) (d : Told) → n < length told → option_and_then of (slice_get told n) ≡ of (get_or told n d)
has_at of told n d within = ap (option_and_then of) (slice_get-get_or told n d within)

-- the place of this message is taken down, and no other
abbrev pub Notes : Option Message → ℕ → (old new : PlacesView) → Type 0
Notes here n old new = ((m : Message) → here ≡ Some m → place_in new m ≡ Some n) × ((m : Message) → here ≢ Some m → place_in new m ≡ place_in old m)

sent_before : (told : List Told) (n : ℕ) (m : Message) → sent_at told n ≢ Some m → (o : Option ℕ) → IfSome o (IsNewestSending told m n) → IfSome o (IsNewestSending told m (n + 1))
sent_before told n m other None is = tt
sent_before told n m other (Some s) is =
    record {
      before = omega (arith, is.before);
      sends = is.sends;
      none_since = λ k low high sends. elim (cases_eq k n) [
        | inl same ↦ other (subst (λ j. sent_at told j ≡ Some m) same sends)
        | inr differ ↦ is.none_since k low (omega (arith, high, differ)) sends
      ];
    }

pub sent_next : (told : List Told) (n : ℕ) (old new : PlacesView) → Notes (sent_at told n) n old new → (m : Message)
    → IfSome (place_in old m) (IsNewestSending told m n) → IfSome (place_in new m) (IsNewestSending told m (n + 1))
sent_next told n old new notes m is = elim (has_cases (sent_at told n) m) [
  | inl own ↦ subst (λ o. IfSome o (IsNewestSending told m (n + 1))) (sym (notes.0 m own)) (
      record { before = omega arith; sends = own; none_since = λ k low high. absurd (omega (arith, low, high)) })
  | inr other ↦ subst (λ o. IfSome o (IsNewestSending told m (n + 1))) (sym (notes.1 m other)) (sent_before told n m other (place_in old m) is)
]

unsent_before : (told : List Told) (n : ℕ) (m : Message) → sent_at told n ≢ Some m → (o : Option ℕ) → IfNone o (IsUnsent told m n) → IfNone o (IsUnsent told m (n + 1))
unsent_before told n m other (Some s) is = tt
unsent_before told n m other None is =
    record {
      none = λ k high sends. elim (cases_eq k n) [
        | inl same ↦ other (subst (λ j. sent_at told j ≡ Some m) same sends)
        | inr differ ↦ is.none k (omega (arith, high, differ)) sends
      ];
    }

pub unsent_next : (told : List Told) (n : ℕ) (old new : PlacesView) → Notes (sent_at told n) n old new → (m : Message)
    → IfNone (place_in old m) (IsUnsent told m n) → IfNone (place_in new m) (IsUnsent told m (n + 1))
unsent_next told n old new notes m is = elim (has_cases (sent_at told n) m) [
  | inl own ↦ subst (λ o. IfNone o (IsUnsent told m (n + 1))) (sym (notes.0 m own)) tt
  | inr other ↦ subst (λ o. IfNone o (IsUnsent told m (n + 1))) (sym (notes.1 m other)) (unsent_before told n m other (place_in old m) is)
]

came_more : (told : List Told) (n : ℕ) (m : Message) → CameBefore told m n → CameBefore told m (n + 1)
came_more told n m came = record { k = came.k; before = omega (arith, came.before); brings = came.brings }

came_less : (told : List Told) (n : ℕ) (m : Message) → brought_at told n ≢ Some m → CameBefore told m (n + 1) → CameBefore told m n
came_less told n m other came = elim (cases_eq came.k n) [
  | inl same ↦ absurd (other (subst (λ j. brought_at told j ≡ Some m) same came.brings))
  | inr differ ↦ record { k = came.k; before = omega (arith, came.before, differ); brings = came.brings }
]

pub came_next : (told : List Told) (n : ℕ) (old new : PlacesView) → Notes (brought_at told n) n old new → (m : Message)
    → (IsTrue (is_some (place_in old m)) ↔ CameBefore told m n) → IsTrue (is_some (place_in new m)) ↔ CameBefore told m (n + 1)
came_next told n old new notes m is = elim (has_cases (brought_at told n) m) [
  | inl own ↦ subst (λ o. IsTrue (is_some o) ↔ CameBefore told m (n + 1)) (sym (notes.0 m own)) (
    λ yes. record { k = n; before = omega arith; brings = own },
    λ came. refl,
  )
  | inr other ↦ subst (λ o. IsTrue (is_some o) ↔ CameBefore told m (n + 1)) (sym (notes.1 m other)) (
    λ yes. came_more told n m (is.0 yes),
    λ came. is.1 (came_less told n m other came),
  )
]

overtaken_by : (told : List Told) (n : ℕ) (m : Message) → IsOvertaken told m n ⊎ SendsNewer (sent_at told n) m → IsOvertaken told m (n + 1)
overtaken_by told n m (inl is) = record { k = is.k; newer = is.newer; before = omega (arith, is.before); sends = is.sends; is_newer = is.is_newer }
overtaken_by told n m (inr here) = record { k = n; newer = here.newer; before = omega arith; sends = here.sends; is_newer = here.is_newer }

overtakes : (told : List Told) (n : ℕ) (m : Message) → IsOvertaken told m (n + 1) → IsOvertaken told m n ⊎ SendsNewer (sent_at told n) m
overtakes told n m is = elim (cases_eq is.k n) [
  | inl same ↦ inr (record { newer = is.newer; sends = subst (λ j. sent_at told j ≡ Some is.newer) same is.sends; is_newer = is.is_newer })
  | inr differ ↦ inl (record { k = is.k; newer = is.newer; before = omega (arith, is.before, differ); sends = is.sends; is_newer = is.is_newer })
]

pub overtaken_next : (told : List Told) (n : ℕ) (old new : RequestsView) (m : Message)
    → (IsTrue (has_newer new m) ↔ (IsTrue (has_newer old m) ⊎ SendsNewer (sent_at told n) m))
    → (IsTrue (has_newer old m) ↔ IsOvertaken told m n) → IsTrue (has_newer new m) ↔ IsOvertaken told m (n + 1)
overtaken_next told n old new m notes is = (
  λ yes. overtaken_by told n m (elim (notes.0 yes) [ inl before ↦ inl (is.0 before) | inr here ↦ inr here ]),
  λ over. notes.1 (elim (overtakes told n m over) [ inl before ↦ inl (is.1 before) | inr here ↦ inr here ]),
)

-- what was taken down is what the event had
pub notes_at : (here message : Option Message) (n : ℕ) (old new : PlacesView) → here ≡ message → Notes message n old new → Notes here n old new
notes_at here message n old new is notes = subst (λ (o : Option Message). Notes o n old new) (sym is) notes

pub on_ok_more : {A E : Type 0} {P Q : Type 0} (r : Result A E) → OnOk r P → (P → Q) → OnOk r Q
on_ok_more (Ok x) p f = f p
on_ok_more (Err y) p f = tt

pub on_ok_both : {A E : Type 0} {P Q R : Type 0} (r : Result A E) → OnOk r P → OnOk r Q → (P → Q → R) → OnOk r R
on_ok_both (Ok x) p q f = f p q
on_ok_both (Err y) p q f = tt

-- what is taken down of an event that sent and brought these
pub record BeforeNotes (sent brought again : Option Message) (n : ℕ) (old new : BeforeView) : Type 0 where
  pub sent_places : Notes sent n old.sent new.sent
  pub came_places : Notes brought n old.came new.came
  pub newest : (m : Message) → IsTrue (has_newer new.requests m) ↔ (IsTrue (has_newer old.requests m) ⊎ SendsNewer again m)

pub before_next : (told : List Told) (n : ℕ) (old new : BeforeView) (sent brought again : Option Message) → sent_at told n ≡ sent → brought_at told n ≡ brought
    → sent_at told n ≡ again → BeforeNotes sent brought again n old new → IsBefore told n old → IsBefore told (n + 1) new
before_next told n old new sent brought again sent_is brought_is again_is notes before =
    let sends = notes_at (sent_at told n) sent n old.sent new.sent sent_is notes.sent_places in
    let brings = notes_at (brought_at told n) brought n old.came new.came brought_is notes.came_places in
    record {
      sent = λ m. sent_next told n old.sent new.sent sends m (before.sent m);
      unsent = λ m. unsent_next told n old.sent new.sent sends m (before.unsent m);
      came = λ m. came_next told n old.came new.came brings m (before.came m);
      overtaken = λ m. overtaken_next told n old.requests new.requests m
          (subst (λ (o : Option Message). IsTrue (has_newer new.requests m) ↔ (IsTrue (has_newer old.requests m) ⊎ SendsNewer o m)) (sym again_is) (notes.newest m)) (before.overtaken m);
    }
