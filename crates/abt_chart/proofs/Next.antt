-- Where messages are sent or brought next, from one event earlier.
use Rattle.std.proofs.Common.{◌≡◌, ◌≢◌, ◌⊎◌, inl, inr, ℕ, zero, suc, ◌+◌, ◌<◌, ◌≤◌, List, [], ◌∷◌, length, sym, ◌∙◌, subst, arith}
use Rattle.std.specs.Prelude.{Option, None, Some, IfSome, IfNone, slice_get, option_and_then}
use Rattle.std.proofs.lemmas.Bool.{cases_eq}
use Rattle.abt_chart.specs.declared.message.Message.{Message}
use Rattle.abt_chart.specs.declared.told.Told.{Told}
use Rattle.abt_chart.specs.Arrows.{sent_at, brought_at}
use Rattle.abt_chart.specs.Behind.{IsNext, IsGone, AreNext}
use Rattle.abt_chart.specs.Places.{PlacesView, place_in}
use Rattle.abt_chart.proofs.Noted.{Notes}
use Rattle.abt_chart.proofs.Same.{has_cases}

-- of an event that has another message, or none
passes : (of : ℕ → Option Message) (n : ℕ) (m : Message) → of n ≢ Some m → (k : ℕ) → n ≤ k → (n + 1 ≤ k → of k ≢ Some m) → of k ≢ Some m
passes of n m other k low rest is = elim (cases_eq k n) [
  | inl same ↦ other (subst (λ j. of j ≡ Some m) same is)
  | inr differ ↦ rest (omega (arith, low, differ)) is
]

-- where it was
module _ (told : List Told) (n : ℕ) (m : Message) (unsent : sent_at told n ≢ Some m) (unbrought : brought_at told n ≢ Some m) where
  next_still : (o : Option ℕ) → IfSome o (IsNext told m (n + 1)) → IfSome o (IsNext told m n)
  next_still None is = tt
  next_still (Some i) is =
      record {
        from = omega (arith, is.from);
        within = is.within;
        has = is.has;
        none_sends = λ k low high. passes (sent_at told) n m unsent k low (λ above. is.none_sends k above high);
        none_brings = λ k low high. passes (brought_at told) n m unbrought k low (λ above. is.none_brings k above high);
      }

  gone_still : (o : Option ℕ) → IfNone o (IsGone told m (n + 1)) → IfNone o (IsGone told m n)
  gone_still (Some i) is = tt
  gone_still None is =
      record {
        none_sends = λ k low. passes (sent_at told) n m unsent k low (is.none_sends k);
        none_brings = λ k low. passes (brought_at told) n m unbrought k low (is.none_brings k);
      }

-- here
next_here : (told : List Told) (n : ℕ) (m : Message) → n < length told → (sent_at told n ≡ Some m) ⊎ (brought_at told n ≡ Some m) → IsNext told m n n
next_here told n m within has =
    record {
      from = omega arith;
      within = within;
      has = has;
      none_sends = λ k low high. absurd (omega (arith, low, high));
      none_brings = λ k low high. absurd (omega (arith, low, high));
    }

-- what is known of a message
abbrev Knows : List Told → ℕ → Message → Option ℕ → Type 0
Knows told n m o = IfSome o (IsNext told m n) × IfNone o (IsGone told m n)

knows_more : (told : List Told) (n : ℕ) (old mid new : PlacesView) → n < length told → Notes (sent_at told n) n old mid → Notes (brought_at told n) n mid new
    → (m : Message) → Knows told (n + 1) m (place_in old m) → Knows told n m (place_in new m)
knows_more told n old mid new within sends brings m is = elim (has_cases (brought_at told n) m) [
  | inl came ↦ subst (Knows told n m) (sym (brings.0 m came)) (next_here told n m within (inr came), tt)
  | inr unbrought ↦ elim (has_cases (sent_at told n) m) [
    | inl sent ↦ subst (Knows told n m) (sym (brings.1 m unbrought ∙ sends.0 m sent)) (next_here told n m within (inl sent), tt)
    | inr unsent ↦ subst (Knows told n m) (sym (brings.1 m unbrought ∙ sends.1 m unsent)) (
      next_still told n m unsent unbrought (place_in old m) is.0,
      gone_still told n m unsent unbrought (place_in old m) is.1,
    )
  ]
]

pub next_more : (told : List Told) (n : ℕ) (old mid new : PlacesView) → n < length told → Notes (sent_at told n) n old mid → Notes (brought_at told n) n mid new
    → AreNext told (n + 1) old → AreNext told n new
next_more told n old mid new within sends brings are =
    let knows = λ (m : Message). knows_more told n old mid new within sends brings m (are.next m, are.gone m) in
    record { next = λ m. (knows m).0; gone = λ m. (knows m).1 }

-- an event that has a message is one of the run
within_of : (of : Told → Option Message) (told : List Told) (k : ℕ) (m : Message) → option_and_then of (slice_get told k) ≡ Some m → k < length told
within_of of [] k m is = absurd (cc)
within_of of (t ∷ told) zero m is = omega arith
within_of of (t ∷ told) (suc k) m is = let rest = within_of of told k m is in omega (arith, rest)

-- behind the last there is none
pub none_next : (told : List Told) (places : PlacesView) (n : ℕ) → length told ≤ n → ((m : Message) → place_in places m ≡ None) → AreNext told n places
none_next told places n over none =
    record {
      next = λ m. subst (λ o. IfSome o (IsNext told m n)) (sym (none m)) tt;
      gone = λ m. subst (λ o. IfNone o (IsGone told m n)) (sym (none m)) (record {
        none_sends = λ k low is. absurd (omega (arith, over, low, within_of (λ (t : Told). t.sent) told k m is));
        none_brings = λ k low is. absurd (omega (arith, over, low, within_of (λ (t : Told). t.brought) told k m is));
      });
    }
