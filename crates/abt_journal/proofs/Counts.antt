-- Counts of entries, and callers that differ.
use Rattle.std.proofs.Common.{◌≡◌, ℕ, ◌+◌, ◌<◌, List, [], ◌∷◌, length, sum_by, get_or, refl, sym, ap, ◌∙◌, arith}
use Rattle.std.proofs.lemmas.List.{get_or_default}
use Rattle.std.proofs.lemmas.List.Sums.{sum_by-cons}
use Rattle.abt_journal.specs.Journaled.{Journaled}
use Rattle.abt_journal.specs.Receipts.{Seated}
use Rattle.abt_journal.specs.Gathered.{journals_of, entries_in, AreDistinct}

-- the entries of the journals are those of the states
pub entries_in-journals_of : (states : List Journaled) → entries_in (journals_of states) ≡ sum_by (λ s. length s.entries) states
entries_in-journals_of [] = refl
entries_in-journals_of (s ∷ states) =
    sum_by-cons length s.entries (journals_of states) ∙ ap (λ n. length s.entries + n) (entries_in-journals_of states)
    ∙ sym (sum_by-cons (λ (x : Journaled). length x.entries) s states)

-- two seats of one caller
pub same_caller : (seats : List Seated) (i j : ℕ) (s t : Seated) → i < j → j < length seats → s ≡ get_or seats i s → t ≡ get_or seats j t → s.caller ≡ t.caller → ¬ AreDistinct seats
same_caller seats i j s t order below first second same distinct =
    distinct i j t order below
    (ap (λ (x : Seated). x.caller) (get_or_default seats i t s (omega arith) ∙ sym first) ∙ same ∙ ap (λ (x : Seated). x.caller) second)
