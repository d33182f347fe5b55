-- Cells that conform are all taken, one after another.
use Rattle.std.proofs.Common.{◌≡◌, ℕ, List, [], ◌∷◌, ◌++◌, ap, sym, subst, refl, ◌∙◌, reverse, append_assoc}
use Rattle.std.specs.Prelude.{All}
use Rattle.std.proofs.lemmas.List.{append-nil, reverse-append, reverse-reverse}
use Rattle.std.proofs.lemmas.List.Elements.{All-nil, All-cons}
use Rattle.abt_gcra.specs.declared.verdict.Verdict.{Verdict}
use Rattle.abt_gcra.specs.declared.verdict.Verdict.TheVariants.{Conforming, TooEarly, NoRate}
use Rattle.abt_gcra.specs.Windows.{Arrival, Conforms, AreVerdicts}
use Rattle.abt_gcra.proofs.WindowsLemmas.{conforms_older}

-- the older ones of cells that conform
older_conform : (tau : ℕ) (newer older : List Arrival) → Conforms tau (newer ++ older) → Conforms tau older
older_conform tau [] older conform = conform
older_conform tau (newest ∷ newer) older conform = older_conform tau newer older (conforms_older tau newest (newer ++ older) conform)

reversed_first : (cell : Arrival) (cells taken : List Arrival) → reverse (cell ∷ cells) ++ taken ≡ reverse cells ++ (cell ∷ taken)
reversed_first cell cells taken = ap (λ r. r ++ taken) (reverse-append (cell ∷ []) cells) ∙ append_assoc (reverse cells) (cell ∷ []) taken

newest_conforms : (tau : ℕ) (cell : Arrival) (cells taken : List Arrival) → Conforms tau (reverse (cell ∷ cells) ++ taken) → Conforms tau (cell ∷ taken)
newest_conforms tau cell cells taken conform = older_conform tau (reverse cells) (cell ∷ taken) (subst (Conforms tau) (reversed_first cell cells taken) conform)

pub all_taken : (tau : ℕ) (taken cells : List Arrival) (verdicts : List Verdict) → Conforms tau (reverse cells ++ taken) → AreVerdicts tau taken cells verdicts → All (λ verdict. verdict ≡ Conforming) verdicts
all_taken tau taken [] verdicts conform none = rw none (All-nil (λ verdict. verdict ≡ Conforming))
all_taken tau taken (cell ∷ cells) [] conform are = absurd are
all_taken tau taken (cell ∷ cells) (Conforming ∷ verdicts) conform are =
    let rest = all_taken tau (cell ∷ taken) cells verdicts (subst (Conforms tau) (reversed_first cell cells taken) conform) are.1 in
    All-cons (λ verdict. verdict ≡ Conforming) Conforming verdicts refl rest
all_taken tau taken (cell ∷ cells) (TooEarly ∷ verdicts) conform are = absurd (are.0 (newest_conforms tau cell cells taken conform))
all_taken tau taken (cell ∷ cells) (NoRate ∷ verdicts) conform are = absurd are.0

pub reversed_taken : (tau : ℕ) (cells : List Arrival) (verdicts : List Verdict) → Conforms tau cells → AreVerdicts tau [] (reverse cells) verdicts → All (λ verdict. verdict ≡ Conforming) verdicts
reversed_taken tau cells verdicts conform are =
    let whole : reverse (reverse cells) ++ [] ≡ cells = append-nil (reverse (reverse cells)) ∙ reverse-reverse cells in
    all_taken tau [] (reverse cells) verdicts (subst (Conforms tau) (sym whole) conform) are
