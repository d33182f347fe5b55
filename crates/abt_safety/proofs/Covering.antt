-- Where one port of a path changed, the others go on to cover a rate that isn't raised.
use Rattle.std.proofs.Common.{◌≡◌, ◌≢◌, ℕ, ◌<◌, ◌≤◌, Bool, true, false, List, [], ◌∷◌, refl, sym, subst, ap, ◌∙◌, arith, inl, inr, length, ◌==◌}
use Rattle.std.specs.Prelude.{Option, None, Some, IsSome, unwrap_or, nat_le, slice_get, slice_index_or}
use Rattle.std.specs.List.{list_all}
use Rattle.std.proofs.lemmas.Bool.{and_parts, cases_Bool, eqb-true, eqb-false, le-leb, leb-true, false≢true}
use Rattle.std.proofs.lemmas.Option.{slice_get_within, get_or_from_slice_get}
use Rattle.std.proofs.lemmas.List.Folds.{list_all_at}
use Rattle.abt_cell.specs.Channel.{Channel}
use Rattle.abt_node.specs.Table.{Table}
use Rattle.abt_safety.specs.Holding.{held_by_port, is_held_along, is_held_at, ChangesOne}

none_some : (p : ℕ) → None ≢ Some p
none_some p e = false≢true (subst IsSome (sym e) refl)

apart : (p q : ℕ) → p ≢ q → Some p ≢ Some q
apart p q other e = other (ap (λ o. unwrap_or o p) e)

-- a port that holds an earlier rate, or that was asked, holds this one
covers : (before after : List Table) (vc : Channel) (rate earlier q : ℕ) (port : Option ℕ) → rate ≤ earlier →
    ((p : ℕ) → port ≢ Some p → held_by_port vc after p ≡ held_by_port vc before p) → is_held_at rate vc after port ≡ true →
    nat_le earlier (held_by_port vc before q) ≡ true → nat_le rate (held_by_port vc after q) ≡ true
covers before after vc rate earlier q None low others asked was =
    let same = others q (none_some q) in
    let held = leb-true earlier (held_by_port vc before q) was in
    le-leb rate (held_by_port vc after q) (omega (arith, same, held))
covers before after vc rate earlier q (Some p) low others asked was = elim (cases_Bool (p == q)) [
  | inl is ↦ subst (λ n. nat_le rate (held_by_port vc after n) ≡ true) (eqb-true p q is) asked
  | inr other ↦ (
      let same = others q (apart p q (eqb-false p q other)) in
      let held = leb-true earlier (held_by_port vc before q) was in
      le-leb rate (held_by_port vc after q) (omega (arith, same, held)))
]

pub still_held : (before after : List Table) (vc : Channel) (path : List ℕ) (rate earlier : ℕ) (port : Option ℕ) → rate ≤ earlier →
    ((p : ℕ) → port ≢ Some p → held_by_port vc after p ≡ held_by_port vc before p) → is_held_at rate vc after port ≡ true →
    is_held_along earlier vc before path ≡ true → is_held_along rate vc after path ≡ true
still_held before after vc [] rate earlier port low others asked was = refl
still_held before after vc (q ∷ path) rate earlier port low others asked was =
    let parts = and_parts (nat_le earlier (held_by_port vc before q)) (is_held_along earlier vc before path) was in
    rw (covers before after vc rate earlier q port low others asked parts.0) (still_held before after vc path rate earlier port low others asked parts.1)

fails_there : (after : List Table) (vc : Channel) (path : List ℕ) (rate : ℕ) (port : Option ℕ) → ((p : ℕ) → port ≡ Some p → (i : ℕ) × (slice_get path i ≡ Some p)) →
    is_held_at rate vc after port ≡ false → is_held_along rate vc after path ≡ false
fails_there after vc path rate None on_path asked = absurd (false≢true (sym asked))
fails_there after vc path rate (Some p) on_path asked =
    let at = on_path p refl in
    let here = get_or_from_slice_get path at.0 p 0 at.1 in
    list_all_at (λ port. nat_le rate (held_by_port vc after port)) path at.0 0 (slice_get_within path at.0 p at.1)
    (subst (λ n. nat_le rate (held_by_port vc after n) ≡ false) (sym here) asked)

-- the port that may have changed tells for all of them
pub one_tells : (before after : List Table) (vc : Channel) (path : List ℕ) (rate earlier : ℕ) (port : Option ℕ) → rate ≤ earlier → ChangesOne port vc path before after →
    is_held_along earlier vc before path ≡ true → is_held_at rate vc after port ≡ is_held_along rate vc after path
one_tells before after vc path rate earlier port low changes was = elim (cases_Bool (is_held_at rate vc after port)) [
  | inl held ↦ held ∙ sym (still_held before after vc path rate earlier port low changes.others held was)
  | inr short ↦ short ∙ sym (fails_there after vc path rate port changes.on_path short)
]
