-- Items of lists of lists, and lines one after the other.
use Rattle.std.proofs.Common.{◌≡◌, ◌∙◌, ℕ, zero, suc, ◌++◌, List, [], ◌∷◌, map, refl, ap, append_assoc}
use Rattle.std.specs.Prelude.{slice_get}
use Rattle.std.specs.Option.{option_map}

pub got_map : {A B : Type 0} (f : A → B) (xs : List A) (n : ℕ) → slice_get (map f xs) n ≡ option_map f (slice_get xs n)
got_map f [] n = refl
got_map f (x ∷ xs) zero = refl
got_map f (x ∷ xs) (suc n) = got_map f xs n

pub joined : (a b c d new : List ℕ) → new ≡ ((a ++ b) ++ c) ++ d → new ≡ a ++ (b ++ (c ++ d))
joined a b c d new is = is ∙ append_assoc (a ++ b) c d ∙ append_assoc a b (c ++ d)

-- three texts, one after the other
pub three_joined : (none a b c one two new : List ℕ) → none ≡ [] → one ≡ none ++ a → two ≡ one ++ b → new ≡ two ++ c → new ≡ a ++ (b ++ c)
three_joined none a b c one two new is first second third =
    third ∙ ap (λ (t : List ℕ). t ++ c) (second ∙ ap (λ (t : List ℕ). t ++ b) (first ∙ ap (λ (t : List ℕ). t ++ a) is)) ∙ append_assoc a b c
