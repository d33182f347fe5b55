-- What a policer keeps stands for the cells that it took, and its verdicts are those of the windows.
use Rattle.std.proofs.Common.{◌≡◌, ◌≢◌, ℕ, ◌+◌, ◌<◌, ◌≤◌, List, [], ◌∷◌, Some, inl, inr, arith, sym, subst, refl, max}
use Rattle.std.proofs.lemmas.Bool.{cases_lt, cases_eq}
use Rattle.std.proofs.lemmas.Bool.Decides.{nat_tests}
use Rattle.abt_rate.specs.Rate.{spacing_of}
use Rattle.abt_gcra.specs.declared.verdict.Verdict.{Verdict}
use Rattle.abt_gcra.specs.declared.verdict.Verdict.TheVariants.{Conforming, TooEarly, NoRate}
use Rattle.abt_gcra.specs.Windows.{Arrival, Conforms, IsVerdict, IsVerdictAt, taken_after}
use Rattle.abt_gcra.specs.Policing.{Policing, fresh_policing, checked, policed, due_at}
use Rattle.abt_gcra.specs.Standing.{StandsFor}
use Rattle.abt_gcra.proofs.WindowsLemmas.{conforms_none, due_conforms, conforms_due, due_stands}

-- the two ways that a check goes
pub checked_early : (p : Policing) (at spacing : ℕ) → at + p.tau < due_at p at → checked p at spacing ≡ (TooEarly, record p { clock = at })
unfolding checked
checked_early p at spacing early = grind (arith, nat_tests)

pub checked_due : (p : Policing) (at spacing : ℕ) → due_at p at ≤ at + p.tau → checked p at spacing ≡ (Conforming, record p { tat = Some (max at (due_at p at) + spacing); clock = at })
unfolding checked
checked_due p at spacing due = grind (arith, nat_tests)

-- what a check leaves of the tolerance and the clock
abbrev LeavesClock : Policing → ℕ → (Verdict × Policing) → Type 0
LeavesClock p at out = (out.1.tau ≡ p.tau) × (out.1.clock ≡ at)

pub checked-clock : (old new : Policing) (verdict : Verdict) (at spacing : ℕ) → (verdict, new) ≡ checked old at spacing → (new.tau ≡ old.tau) × (new.clock ≡ at)
checked-clock old new verdict at spacing is =
    subst (LeavesClock old at) (sym is) (
    elim (cases_lt (at + old.tau) (due_at old at)) as (λ _. LeavesClock old at (checked old at spacing)) [
      | inl early ↦ subst (LeavesClock old at) (sym (checked_early old at spacing early)) (refl, refl)
      | inr due ↦ subst (LeavesClock old at) (sym (checked_due old at spacing due)) (refl, refl)
    ]
    )

-- What a cell's verdict is after the cells that were taken, and that what is kept then stands for them and it.
abbrev Follows : Policing → List Arrival → Arrival → (Verdict × Policing) → Type 0
Follows p taken cell out = IsVerdict p.tau taken cell out.0 × StandsFor out.1 (taken_after taken cell out.0)

pub checked_follows : (p : Policing) (taken : List Arrival) (cell : Arrival) → StandsFor p taken → Follows p taken cell (checked p cell.at cell.spacing)
checked_follows p taken cell stands =
    elim (cases_lt (cell.at + p.tau) (due_at p cell.at)) as (λ _. Follows p taken cell (checked p cell.at cell.spacing)) [
      | inl early ↦
          subst (Follows p taken cell) (sym (checked_early p cell.at cell.spacing early)) (
            λ conform. let due = conforms_due p.tau p.tat cell taken stands.tat conform in omega arith,
            record { conform = stands.conform; tat = stands.tat },
          )
      | inr due ↦
          let conform : Conforms p.tau (cell ∷ taken) = due_conforms p.tau p.tat cell taken stands.conform stands.tat due in
          subst (Follows p taken cell) (sym (checked_due p cell.at cell.spacing due)) (
            conform,
            record { conform = conform; tat = due_stands p.tat cell taken stands.tat },
          )
    ]

-- the verdict that a call returns and the state that it leaves
pub checked_windows : (old new : Policing) (verdict : Verdict) (at spacing : ℕ) (taken : List Arrival) → (verdict, new) ≡ checked old at spacing → StandsFor old taken → IsVerdict old.tau taken (record { at = at; spacing = spacing }) verdict × StandsFor new (taken_after taken (record { at = at; spacing = spacing }) verdict)
checked_windows old new verdict at spacing taken is stands =
    subst (Follows old taken (record { at = at; spacing = spacing })) (sym is) (checked_follows old taken (record { at = at; spacing = spacing }) stands)

abbrev FollowsAt : Policing → List Arrival → (at held : ℕ) → (Verdict × Policing) → Type 0
FollowsAt p taken at held out =
    IsVerdictAt p.tau taken at held out.0 × StandsFor out.1 (taken_after taken (record { at = at; spacing = spacing_of held }) out.0)

held_follows : (p : Policing) (taken : List Arrival) (at held : ℕ) (out : Verdict × Policing) → held ≢ 0 → Follows p taken (record { at = at; spacing = spacing_of held }) out → FollowsAt p taken at held out
held_follows p taken at held (Conforming, after) holds follows = ((holds, follows.0), follows.1)
held_follows p taken at held (TooEarly, after) holds follows = ((holds, follows.0), follows.1)
held_follows p taken at held (NoRate, after) holds follows = absurd follows.0

pub policed_windows : (old new : Policing) (verdict : Verdict) (at held : ℕ) (taken : List Arrival) → (verdict, new) ≡ policed old at held → StandsFor old taken → IsVerdictAt old.tau taken at held verdict × StandsFor new (taken_after taken (record { at = at; spacing = spacing_of held }) verdict)
unfolding policed
policed_windows old new verdict at held taken is stands =
    elim (cases_eq held 0) as (λ _. FollowsAt old taken at held (verdict, new)) [
      | inl none ↦
          let out : (verdict, new) ≡ (NoRate, record old { clock = at }) = grind (arith, nat_tests) in
          subst (FollowsAt old taken at held) (sym out) (none, record { conform = stands.conform; tat = stands.tat })
      | inr some ↦
          let out : (verdict, new) ≡ checked old at (spacing_of held) = grind (arith, nat_tests) in
          subst (FollowsAt old taken at held) (sym out) (held_follows old taken at held _ some (checked_follows old taken (record { at = at; spacing = spacing_of held }) stands))
    ]

-- none was taken at first
pub fresh_stands : (policing : Policing) (tau : ℕ) → policing ≡ fresh_policing tau → StandsFor policing []
fresh_stands policing tau fresh =
    let P : Policing → Type 0 = λ p. StandsFor p [] in
    subst P (sym fresh) (record { conform = conforms_none tau; tat = refl })
