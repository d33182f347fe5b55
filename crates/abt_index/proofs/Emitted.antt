-- Moments of cells, by their numbers.
use Rattle.std.proofs.Common.{◌≡◌, ℕ, zero, suc, ◌+◌, ◌<◌, ◌≤◌, List, [], ◌∷◌, ◌++◌, refl, sym, ap, ◌∙◌, length, arith}
use Rattle.std.specs.Prelude.{reverse, slice_get, slice_index_or, unwrap_or}
use Rattle.std.specs.List.{enumerate_from}
use Rattle.std.proofs.lemmas.List.{reverse-append, append_assoc, length-reverse, append-nil}
use Rattle.std.proofs.lemmas.List.FromFn.{length-enumerate_from}
use Rattle.std.proofs.lemmas.Option.{slice_get-get_or, slice_get_past}
use Rattle.std.proofs.lemmas.Bool.{cond-true, cond-false, eq-eqb, ne_eqb}
use Rattle.abt_index.specs.Index.{moment_in}

numbered_append : (k at : ℕ) (xs : List ℕ) → enumerate_from k (xs ++ at ∷ []) ≡ enumerate_from k xs ++ (k + length xs, at) ∷ []
numbered_append k at [] = (let here : k ≡ k + 0 = omega arith in ap (λ n. (n, at) ∷ []) here)
numbered_append k at (x ∷ xs) =
    let more : k + 1 + length xs ≡ k + suc (length xs) = omega arith in
    ap (λ l. (k, x) ∷ l) (numbered_append (k + 1) at xs ∙ ap (λ n. enumerate_from (k + 1) xs ++ (n, at) ∷ []) more)

numbered_length : (xs : List ℕ) → length xs ≡ length (reverse (enumerate_from 0 xs))
numbered_length xs = sym (length-reverse (enumerate_from 0 xs) ∙ length-enumerate_from 0 xs)

from_0 : (n : ℕ) → 0 + n ≡ n
from_0 n = omega arith

-- the next cell has the number of those before it
pub next_moment : (xs : List ℕ) (at : ℕ) →
    reverse (enumerate_from 0 (xs ++ at ∷ [])) ≡ (length (reverse (enumerate_from 0 xs)), at) ∷ reverse (enumerate_from 0 xs)
next_moment xs at =
    ap reverse (numbered_append 0 at xs) ∙ reverse-append (enumerate_from 0 xs) ((0 + length xs, at) ∷ [])
    ∙ ap (λ n. (n, at) ∷ reverse (enumerate_from 0 xs)) (from_0 (length xs) ∙ numbered_length xs)

turned : (k x : ℕ) (xs : List ℕ) (rest : List (ℕ × ℕ)) → reverse (enumerate_from k (x ∷ xs)) ++ rest ≡ reverse (enumerate_from (k + 1) xs) ++ (k, x) ∷ rest
turned k x xs rest =
    ap (λ l. l ++ rest) (reverse-append ((k, x) ∷ []) (enumerate_from (k + 1) xs)) ∙ append_assoc (reverse (enumerate_from (k + 1) xs)) ((k, x) ∷ []) rest

-- a cell before the first of these isn't among them
moment_before : (k n : ℕ) (xs : List ℕ) (rest : List (ℕ × ℕ)) → n < k → moment_in (reverse (enumerate_from k xs) ++ rest) n ≡ moment_in rest n
moment_before k n [] rest low = refl
moment_before k n (x ∷ xs) rest low =
    ap (λ l. moment_in l n) (turned k x xs rest) ∙ moment_before (k + 1) n xs ((k, x) ∷ rest) (omega arith)
    ∙ cond-false _ _ _ (ne_eqb k n (λ e. omega arith))

moment_among : (k i : ℕ) (xs : List ℕ) (rest : List (ℕ × ℕ)) → moment_in (reverse (enumerate_from k xs) ++ rest) (k + i) ≡ unwrap_or (slice_get xs i) (moment_in rest (k + i))
moment_among k i [] rest = refl
moment_among k zero (x ∷ xs) rest =
    ap (λ l. moment_in l (k + 0)) (turned k x xs rest) ∙ moment_before (k + 1) (k + 0) xs ((k, x) ∷ rest) (omega arith)
    ∙ cond-true _ _ _ (eq-eqb k (k + 0) (omega arith))
moment_among k (suc i) (x ∷ xs) rest =
    let further : k + suc i ≡ k + 1 + i = omega arith in
    ap (λ l. moment_in l (k + suc i)) (turned k x xs rest) ∙ ap (moment_in (reverse (enumerate_from (k + 1) xs) ++ (k, x) ∷ rest)) further
    ∙ moment_among (k + 1) i xs ((k, x) ∷ rest)
    ∙ ap (unwrap_or (slice_get xs i)) (cond-false _ _ _ (ne_eqb k (k + 1 + i) (λ e. omega arith)) ∙ ap (moment_in rest) (sym further))

moment_there : (xs : List ℕ) (n : ℕ) → moment_in (reverse (enumerate_from 0 xs)) n ≡ unwrap_or (slice_get xs n) 0
moment_there xs n =
    sym (ap (λ l. moment_in l n) (append-nil (reverse (enumerate_from 0 xs))))
    ∙ ap (moment_in (reverse (enumerate_from 0 xs) ++ [])) (sym (from_0 n)) ∙ moment_among 0 n xs []
    ∙ ap (λ k. unwrap_or (slice_get xs n) k) (ap (moment_in []) (from_0 n))

-- a cell is found at the place of its number
pub moment_at : (xs : List ℕ) (n d : ℕ) → n < length xs → moment_in (reverse (enumerate_from 0 xs)) n ≡ slice_index_or xs n d
moment_at xs n d low = moment_there xs n ∙ ap (λ o. unwrap_or o 0) (slice_get-get_or xs n d low)

-- or it isn't there
pub no_moment : (xs : List ℕ) (n : ℕ) → length xs ≤ n → moment_in (reverse (enumerate_from 0 xs)) n ≡ 0
no_moment xs n high = moment_there xs n ∙ ap (λ o. unwrap_or o 0) (slice_get_past xs n high)
