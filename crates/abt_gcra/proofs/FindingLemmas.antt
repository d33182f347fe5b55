-- The verdict that is found is the one of the windows.
use Rattle.std.proofs.Common.{◌≡◌, ◌≢◌, ℕ, ◌+◌, ◌≤◌, List, [], ◌∷◌, ◌++◌, true, false, inl, inr, arith, ap, sym, subst, refl}
use Rattle.std.specs.Prelude.{nat_le}
use Rattle.std.proofs.lemmas.Bool.{and_parts, and_from, leb-true, le-leb, cases_Bool, cases_eq, ne_eqb}
use Rattle.abt_rate.specs.Rate.{spacing_of}
use Rattle.abt_gcra.specs.declared.verdict.Verdict.{Verdict}
use Rattle.abt_gcra.specs.declared.verdict.Verdict.TheVariants.{Conforming, TooEarly, NoRate}
use Rattle.abt_gcra.specs.Windows.{Arrival, Conforms, spacings, IsVerdict, IsVerdictAt}
use Rattle.abt_gcra.specs.Finding.{keeps, conforms, verdict_of, verdict_at}
use Rattle.abt_gcra.proofs.WindowsLemmas.{KeepsWindows, conforms_none, conforms_more, conforms_older, conforms_keeps, spacings-cons}

-- the windows that end by a limit, with the spacings that are owed after the newest of the cells
abbrev KeepsOwed : (limit owed : ℕ) → List Arrival → Type 0
KeepsOwed limit owed cells =
    (between older : List Arrival) (earlier : Arrival) →
    cells ≡ between ++ (earlier ∷ older) →
    earlier.at + (earlier.spacing + spacings between) + owed ≤ limit

keeps_parts : (limit owed : ℕ) (cell : Arrival) (cells : List Arrival) → keeps limit owed (cell ∷ cells) ≡ true → (cell.at + (cell.spacing + owed) ≤ limit) × (keeps limit (cell.spacing + owed) cells ≡ true)
keeps_parts limit owed cell cells test =
    let parts = and_parts (nat_le (cell.at + (cell.spacing + owed)) limit) (keeps limit (cell.spacing + owed) cells) test in
    (leb-true (cell.at + (cell.spacing + owed)) limit parts.0, parts.1)

keeps_holds : (limit owed : ℕ) (cells : List Arrival) → keeps limit owed cells ≡ true → KeepsOwed limit owed cells
keeps_holds limit owed [] test [] older earlier is = cc
keeps_holds limit owed [] test (newest ∷ between) older earlier is = cc
keeps_holds limit owed (cell ∷ cells) test [] older earlier is =
    let le = (keeps_parts limit owed cell cells test).0 in
    let head : cell ≡ earlier = cc in
    rw (← head) (omega arith)
keeps_holds limit owed (cell ∷ cells) test (newest ∷ between) older earlier is =
    let head : cell ≡ newest = cc in
    let tail : cells ≡ between ++ (earlier ∷ older) = cc in
    let kept = keeps_holds limit (cell.spacing + owed) cells (keeps_parts limit owed cell cells test).1 between older earlier tail in
    let more = spacings-cons newest between in
    let same : cell.spacing ≡ newest.spacing = ap (λ c. c.spacing) head in
    omega (arith, kept)

keeps_found : (limit owed : ℕ) (cells : List Arrival) → KeepsOwed limit owed cells → keeps limit owed cells ≡ true
keeps_found limit owed [] holds = refl
keeps_found limit owed (cell ∷ cells) holds =
    let first = holds [] cells cell refl in
    let le : cell.at + (cell.spacing + owed) ≤ limit = omega arith in
    and_from _ _ (le-leb _ _ le) (
    keeps_found limit (cell.spacing + owed) cells (
    λ between older earlier is.
    let kept = holds (cell ∷ between) older earlier (ap (λ rest. cell ∷ rest) is) in
    let more = spacings-cons cell between in
    omega (arith, kept)
    )
    )

owed_windows : (limit : ℕ) (cells : List Arrival) → KeepsOwed limit 0 cells → KeepsWindows limit cells
owed_windows limit cells owed between older earlier is = let kept = owed between older earlier is in omega (arith, kept)

windows_owed : (limit : ℕ) (cells : List Arrival) → KeepsWindows limit cells → KeepsOwed limit 0 cells
windows_owed limit cells keeps between older earlier is = let kept = keeps between older earlier is in omega (arith, kept)

pub conforms_holds : (tau : ℕ) (cells : List Arrival) → conforms tau cells ≡ true → Conforms tau cells
conforms_holds tau [] test = conforms_none tau
conforms_holds tau (cell ∷ cells) test =
    let parts = and_parts (keeps (cell.at + tau) 0 cells) (conforms tau cells) test in
    conforms_more tau cell cells (conforms_holds tau cells parts.1) (owed_windows (cell.at + tau) cells (keeps_holds (cell.at + tau) 0 cells parts.0))

pub conforms_found : (tau : ℕ) (cells : List Arrival) → Conforms tau cells → conforms tau cells ≡ true
conforms_found tau [] conform = refl
conforms_found tau (cell ∷ cells) conform =
    and_from _ _ (keeps_found (cell.at + tau) 0 cells (windows_owed (cell.at + tau) cells (conforms_keeps tau cell cells conform))) (conforms_found tau cells (conforms_older tau cell cells conform))

-- ---- verdicts

verdict_conforming : (tau : ℕ) (taken : List Arrival) (cell : Arrival) → Conforms tau (cell ∷ taken) → verdict_of tau taken cell ≡ Conforming
verdict_conforming tau taken cell conform = rw (conforms_found tau (cell ∷ taken) conform)

verdict_early : (tau : ℕ) (taken : List Arrival) (cell : Arrival) → conforms tau (cell ∷ taken) ≡ false → verdict_of tau taken cell ≡ TooEarly
verdict_early tau taken cell early = rw early

pub verdict-is : (tau : ℕ) (taken : List Arrival) (cell : Arrival) → IsVerdict tau taken cell (verdict_of tau taken cell)
verdict-is tau taken cell =
    elim (cases_Bool (conforms tau (cell ∷ taken))) as (λ _. IsVerdict tau taken cell (verdict_of tau taken cell)) [
      | inl yes_it_does ↦
          let conform = conforms_holds tau (cell ∷ taken) yes_it_does in
          subst (IsVerdict tau taken cell) (sym (verdict_conforming tau taken cell conform)) conform
      | inr early ↦
          subst (IsVerdict tau taken cell) (sym (verdict_early tau taken cell early)) (
          λ conform. let test = conforms_found tau (cell ∷ taken) conform in absurd (cc)
          )
    ]

pub verdict_only : (tau : ℕ) (taken : List Arrival) (cell : Arrival) (verdict : Verdict) → IsVerdict tau taken cell verdict → verdict ≡ verdict_of tau taken cell
verdict_only tau taken cell Conforming is = sym (verdict_conforming tau taken cell is)
verdict_only tau taken cell TooEarly is =
    elim (cases_Bool (conforms tau (cell ∷ taken))) as (λ _. TooEarly ≡ verdict_of tau taken cell) [
      | inl test ↦ absurd (is (conforms_holds tau (cell ∷ taken) test))
      | inr early ↦ sym (verdict_early tau taken cell early)
    ]
verdict_only tau taken cell NoRate is = absurd is

-- ---- where a rate is held

at_rate : (tau : ℕ) (taken : List Arrival) (at held : ℕ) (verdict : Verdict) → held ≢ 0 → IsVerdict tau taken (record { at = at; spacing = spacing_of held }) verdict → IsVerdictAt tau taken at held verdict
at_rate tau taken at held Conforming some is = (some, is)
at_rate tau taken at held TooEarly some is = (some, is)
at_rate tau taken at held NoRate some is = absurd is

pub verdict_at-is : (tau : ℕ) (taken : List Arrival) (at held : ℕ) → IsVerdictAt tau taken at held (verdict_at tau taken at held)
verdict_at-is tau taken at held =
    elim (cases_eq held 0) as (λ _. IsVerdictAt tau taken at held (verdict_at tau taken at held)) [
      | inl none ↦ rw none refl
      | inr some ↦
          rw (ne_eqb held 0 some) (at_rate tau taken at held _ some (verdict-is tau taken (record { at = at; spacing = spacing_of held })))
    ]

pub verdict_at_only : (tau : ℕ) (taken : List Arrival) (at held : ℕ) (verdict : Verdict) → IsVerdictAt tau taken at held verdict → verdict ≡ verdict_at tau taken at held
verdict_at_only tau taken at held NoRate none = rw none
verdict_at_only tau taken at held Conforming (some, conform) = rw (ne_eqb held 0 some) (verdict_only tau taken _ Conforming conform)
verdict_at_only tau taken at held TooEarly (some, early) = rw (ne_eqb held 0 some) (verdict_only tau taken _ TooEarly early)
