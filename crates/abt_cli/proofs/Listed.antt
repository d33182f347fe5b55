-- Lists of numbers in words.
use Rattle.std.proofs.Common.{◌≡◌, ◌<◌, ◌⊎◌, inl, inr, ℕ, zero, suc, List, [], ◌∷◌, length, get_or, map, arith}
use Rattle.std.specs.Prelude.{◌^◌, None}
use Rattle.std.specs.Borrow.{Bor}
use Rattle.abt_perform.specs.declared.plan.WordsFault.{WordsFault}
use Rattle.abt_perform.specs.declared.plan.WordsFault.TheVariants.{Memory}
use Rattle.abt_text.specs.Words.{number_below}
use Rattle.abt_cli.specs.Words.{AreNumbers}

-- a list with a word that is no number has no numbers
pub no_numbers : (words : List (Bor (List ℕ))) (i : ℕ) (word : Bor (List ℕ)) (only : List ℕ) → i < length words
    → number_below (2 ^ 16) (get_or words i word).now ≡ None → AreNumbers (map (λ (w : Bor (List ℕ)). w.now) words) only → ⊥
no_numbers [] i word only low none are = omega (arith, low)
no_numbers (first ∷ words) i word [] low none are = let e = are in cc
no_numbers (first ∷ words) zero word (conn ∷ only) low none are = let e = are in let n = none in cc
no_numbers (first ∷ words) (suc i) word (conn ∷ only) low none are = no_numbers words i word only (omega (arith, low)) none (let e = are in cc)

pub no_word : (words : List (Bor (List ℕ))) (i : ℕ) (word : Bor (List ℕ)) (fault : WordsFault) → i < length words
    → (fault ≡ Memory) ⊎ (number_below (2 ^ 16) (get_or words i word).now ≡ None)
    → (fault ≡ Memory) ⊎ ((only : List ℕ) → AreNumbers (map (λ (w : Bor (List ℕ)). w.now) words) only → ⊥)
no_word words i word fault low told = elim told [
  | inl memory ↦ inl memory
  | inr none ↦ inr (λ only are. no_numbers words i word only low none are)
]
