-- Windows, one cell at a time, and the theoretical arrival time that bounds them.
use Rattle.std.proofs.Common.{◌≡◌, ℕ, ◌+◌, ◌≤◌, ◌⊎◌, List, [], ◌∷◌, ◌++◌, Option, Some, None, inl, inr, arith, ap, sym, subst, refl, max, unwrap_or}
use Rattle.std.proofs.lemmas.Bool.{cases_lt}
use Rattle.std.proofs.lemmas.List.Sums.{sum_by-cons}
use Rattle.abt_rate.specs.Extremes.{IsGreatest}
use Rattle.abt_gcra.specs.Windows.{Arrival, spacings, Conforms}
use Rattle.abt_gcra.specs.Standing.{IsOwed, TatStandsFor}

-- a later cell keeps the windows with all cells of a list before it
abbrev pub KeepsWindows : ℕ → List Arrival → Type 0
KeepsWindows limit cells =
    (between older : List Arrival) (earlier : Arrival) →
    cells ≡ between ++ (earlier ∷ older) →
    earlier.at + (earlier.spacing + spacings between) ≤ limit

pub conforms_none : (tau : ℕ) → Conforms tau []
conforms_none tau [] between older later earlier is = cc
conforms_none tau (newest ∷ newer) between older later earlier is = cc

-- one more cell
pub conforms_more : (tau : ℕ) (cell : Arrival) (cells : List Arrival) → Conforms tau cells → KeepsWindows (cell.at + tau) cells → Conforms tau (cell ∷ cells)
conforms_more tau cell cells conform keeps [] between older later earlier is =
    let head : cell ≡ later = cc in
    let tail : cells ≡ between ++ (earlier ∷ older) = cc in
    subst (λ c. earlier.at + (earlier.spacing + spacings between) ≤ c.at + tau) head (keeps between older earlier tail)
conforms_more tau cell cells conform keeps (newest ∷ newer) between older later earlier is =
    let tail : cells ≡ newer ++ (later ∷ (between ++ (earlier ∷ older))) = cc in
    conform newer between older later earlier tail

pub conforms_older : (tau : ℕ) (cell : Arrival) (cells : List Arrival) → Conforms tau (cell ∷ cells) → Conforms tau cells
conforms_older tau cell cells conform newer between older later earlier is =
    conform (cell ∷ newer) between older later earlier (ap (λ rest. cell ∷ rest) is)

pub conforms_keeps : (tau : ℕ) (cell : Arrival) (cells : List Arrival) → Conforms tau (cell ∷ cells) → KeepsWindows (cell.at + tau) cells
conforms_keeps tau cell cells conform between older earlier is =
    conform [] between older cell earlier (ap (λ rest. cell ∷ rest) is)

-- the windows in terms of the greatest moment that is owed
pub keeps_below : (limit tat : ℕ) (cells : List Arrival) → IsGreatest (IsOwed cells) tat → tat ≤ limit → KeepsWindows limit cells
keeps_below limit tat cells stands le between older earlier is =
    let owed = stands.greatest _ (between, earlier, older, is, refl) in
    omega (arith, owed)

pub keeps_only_below : (limit tat : ℕ) (cells : List Arrival) → IsGreatest (IsOwed cells) tat → KeepsWindows limit cells → tat ≤ limit
keeps_only_below limit tat cells stands keeps =
    let owed = stands.holds in
    let kept = keeps owed.0 owed.2 owed.1 owed.3 in
    let is = owed.4 in
    omega (arith, kept, is)

-- ---- one more cell is taken

owed_first : (cell : Arrival) (cells : List Arrival) → IsOwed (cell ∷ cells) (cell.at + cell.spacing)
owed_first cell cells = ([], cell, cells, refl, omega arith)

pub spacings-cons : (cell : Arrival) (cells : List Arrival) → spacings (cell ∷ cells) ≡ cell.spacing + spacings cells
spacings-cons cell cells = sum_by-cons (λ c. c.spacing) cell cells

owed_later : (cell : Arrival) (cells : List Arrival) (moment : ℕ) → IsOwed cells moment → IsOwed (cell ∷ cells) (moment + cell.spacing)
owed_later cell cells moment owed =
    let is = owed.4 in
    let more = spacings-cons cell owed.0 in
    (cell ∷ owed.0, owed.1, owed.2, ap (λ rest. cell ∷ rest) owed.3, omega arith)

owed_cases : (cell : Arrival) (cells : List Arrival) (moment : ℕ) → IsOwed (cell ∷ cells) moment → (moment ≡ cell.at + cell.spacing) ⊎ ((before : ℕ) × IsOwed cells before × (moment ≡ before + cell.spacing))
owed_cases cell cells moment ([], first, older, is, at) =
    let head : cell ≡ first = cc in
    inl (rw head (omega arith))
owed_cases cell cells moment (newest ∷ newer, first, older, is, at) =
    let head : cell ≡ newest = cc in
    let tail : cells ≡ newer ++ (first ∷ older) = cc in
    let more = spacings-cons newest newer in
    inr (first.at + (first.spacing + spacings newer), (newer, first, older, tail, refl), rw head (omega arith))

-- none was taken
pub owed_none : (moment : ℕ) → IsOwed [] moment → ⊥
owed_none moment ([], first, older, is, at) = cc
owed_none moment (newest ∷ newer, first, older, is, at) = cc

pub tat_first : (cell : Arrival) → IsGreatest (IsOwed (cell ∷ [])) (cell.at + cell.spacing)
tat_first cell = record {
  holds = owed_first cell [];
  greatest = λ moment owed.
      elim (owed_cases cell [] moment owed) as (λ _. moment ≤ cell.at + cell.spacing) [
        | inl first ↦ omega arith
        | inr before ↦ absurd (owed_none before.0 before.1)
      ];
}

pub tat_next : (tat : ℕ) (cell : Arrival) (cells : List Arrival) → IsGreatest (IsOwed cells) tat → IsGreatest (IsOwed (cell ∷ cells)) (max cell.at tat + cell.spacing)
tat_next tat cell cells stands = record {
  holds =
      elim (cases_lt cell.at tat) as (λ _. IsOwed (cell ∷ cells) (max cell.at tat + cell.spacing)) [
        | inl below ↦
            let is : max cell.at tat ≡ tat = omega arith in
            rw is (owed_later cell cells tat stands.holds)
        | inr above ↦
            let is : max cell.at tat ≡ cell.at = omega arith in
            rw is (owed_first cell cells)
      ];
  greatest = λ moment owed.
      elim (owed_cases cell cells moment owed) as (λ _. moment ≤ max cell.at tat + cell.spacing) [
        | inl first ↦ omega arith
        | inr before ↦
            let le = stands.greatest before.0 before.1 in
            let is = before.2 in
            omega arith
      ];
}

pub keeps_none : (limit : ℕ) → KeepsWindows limit []
keeps_none limit [] older earlier is = cc
keeps_none limit (newest ∷ between) older earlier is = cc

pub keeps_within : (low high : ℕ) (cells : List Arrival) → KeepsWindows low cells → low ≤ high → KeepsWindows high cells
keeps_within low high cells keeps le between older earlier is = let kept = keeps between older earlier is in omega (arith, kept)

pub keeps_more : (limit : ℕ) (cell : Arrival) (cells : List Arrival) → KeepsWindows limit cells → cell.at ≤ limit → KeepsWindows (limit + cell.spacing) (cell ∷ cells)
keeps_more limit cell cells keeps le [] older earlier is =
    let head : cell ≡ earlier = cc in
    rw (← head) (omega arith)
keeps_more limit cell cells keeps le (newest ∷ between) older earlier is =
    let head : cell ≡ newest = cc in
    let tail : cells ≡ between ++ (earlier ∷ older) = cc in
    let kept = keeps between older earlier tail in
    let more = spacings-cons newest between in
    let same : cell.spacing ≡ newest.spacing = ap (λ c. c.spacing) head in
    omega (arith, kept)

-- ---- what the theoretical arrival time says of the next cell

pub due_conforms : (tau : ℕ) (tat : Option ℕ) (cell : Arrival) (cells : List Arrival) → Conforms tau cells → TatStandsFor tat cells → unwrap_or tat cell.at ≤ cell.at + tau → Conforms tau (cell ∷ cells)
due_conforms tau None cell cells conform none le =
    let keeps : KeepsWindows (cell.at + tau) cells = subst (KeepsWindows (cell.at + tau)) (sym none) (keeps_none (cell.at + tau)) in
    conforms_more tau cell cells conform keeps
due_conforms tau (Some tat) cell cells conform stands le =
    conforms_more tau cell cells conform (keeps_below (cell.at + tau) tat cells stands le)

pub conforms_due : (tau : ℕ) (tat : Option ℕ) (cell : Arrival) (cells : List Arrival) → TatStandsFor tat cells → Conforms tau (cell ∷ cells) → unwrap_or tat cell.at ≤ cell.at + tau
conforms_due tau None cell cells none conform = omega arith
conforms_due tau (Some tat) cell cells stands conform = keeps_only_below (cell.at + tau) tat cells stands (conforms_keeps tau cell cells conform)

pub due_stands : (tat : Option ℕ) (cell : Arrival) (cells : List Arrival) → TatStandsFor tat cells → TatStandsFor (Some (max cell.at (unwrap_or tat cell.at) + cell.spacing)) (cell ∷ cells)
due_stands None cell cells none =
    let is : max cell.at cell.at ≡ cell.at = omega arith in
    rw (none, is) (tat_first cell)
due_stands (Some tat) cell cells stands = tat_next tat cell cells stands
