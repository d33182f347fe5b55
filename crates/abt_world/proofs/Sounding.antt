-- A tally counts nothing exactly if nothing is wrong in its world.
use Rattle.std.proofs.Common.{◌≡◌, ℕ, zero, suc, ◌≤◌, Bool, true, false, not, List, [], ◌∷◌, refl, sym, subst, ap, ◌∙◌, arith, map}
use Rattle.std.specs.Prelude.{◌==◌, ◌&&◌, Some, unwrap_or, nat_le, slice_get}
use Rattle.std.specs.List.{zip, list_all}
use Rattle.std.proofs.lemmas.Bool.{and_parts, eqb-true}
use Rattle.std.proofs.lemmas.Bool.Decides.{nat_tests}
use Rattle.abt_net.specs.Topology.{Topology}
use Rattle.abt_node.specs.Table.{Table}
use Rattle.abt_safety.specs.Holding.{held_by_port}
use Rattle.abt_safety.specs.Tallies.{one_if, count_of, is_above}
use Rattle.abt_safety.specs.declared.violations.Violations.{Violations}
use Rattle.abt_model.specs.declared.event.Event.{Event}
use Rattle.abt_world.specs.declared.connection_state.ConnectionState.{ConnectionState}
use Rattle.abt_world.specs.ConnectionStates.{ConnectionView}
use Rattle.abt_world.specs.Seen.{seen}
use Rattle.abt_world.specs.Sound.{IsSound}
use Rattle.abt_world.specs.Tallied.{shapes_above, is_broken, IsTallied}
use Rattle.abt_world.proofs.Final.{AreOfPast, all_pass, le_passes, rates_pass, sums_pass, cells_pass}
use Rattle.abt_world.proofs.Tallying.{counted_one, uncounted, none_above, none_over, none_broken}

-- one of a list that passes
all_at : {A : Type 0} (test : A → Bool) (xs : List A) (i : ℕ) (x : A) → list_all test xs ≡ true → slice_get xs i ≡ Some x → test x ≡ true
all_at test [] i x all at = absurd (let e = at in cc)
all_at test (y ∷ xs) zero x all at =
    let is : y ≡ x = ap (λ o. unwrap_or o y) at in
    subst (λ z. test z ≡ true) is (and_parts _ _ all).0
all_at test (y ∷ xs) (suc i) x all at = all_at test xs i x (and_parts _ _ all).1 at

-- no item of a list passes a test that counts none
none_at : {A : Type 0} (test : A → Bool) (xs : List A) (i : ℕ) (x : A) → count_of test xs ≡ 0 → slice_get xs i ≡ Some x → test x ≡ false
none_at test xs i x none at = sym (uncounted (test x) (omega (arith, none, counted_one test xs i x at)))

none_at_both : {A B : Type 0} (test : A × B → Bool) (xs : List A) (ys : List B) (i : ℕ) (x : A) (y : B) → count_of test (zip xs ys) ≡ 0 →
    slice_get xs i ≡ Some x → slice_get ys i ≡ Some y → test (x, y) ≡ false
none_at_both test [] ys i x y none at there = absurd (let e = at in cc)
none_at_both test (a ∷ xs) [] i x y none at there = absurd (let e = there in cc)
none_at_both test (a ∷ xs) (b ∷ ys) zero x y none at there =
    let first : a ≡ x = ap (λ o. unwrap_or o a) at in
    let second : b ≡ y = ap (λ o. unwrap_or o b) there in
    subst (λ z. test (x, z) ≡ false) second (subst (λ z. test (z, b) ≡ false) first (sym (uncounted (test (a, b)) (omega arith))))
none_at_both test (a ∷ xs) (b ∷ ys) (suc i) x y none at there = none_at_both test xs ys i x y (omega arith) at there

-- none is counted where each fails
none_counted : {A : Type 0} (test : A → Bool) (xs : List A) → ((i : ℕ) (x : A) → slice_get xs i ≡ Some x → test x ≡ false) → count_of test xs ≡ 0
none_counted test [] fails = refl
none_counted test (x ∷ xs) fails =
    let first = ap one_if (fails 0 x refl) in
    let rest = none_counted test xs (λ i y at. fails (suc i) y at) in
    omega arith

none_counted_both : {A B : Type 0} (test : A × B → Bool) (xs : List A) (ys : List B) →
    ((i : ℕ) (x : A) (y : B) → slice_get xs i ≡ Some x → slice_get ys i ≡ Some y → test (x, y) ≡ false) → count_of test (zip xs ys) ≡ 0
none_counted_both test [] ys fails = refl
none_counted_both test (x ∷ xs) [] fails = refl
none_counted_both test (x ∷ xs) (y ∷ ys) fails =
    let first = ap one_if (fails 0 x y refl refl) in
    let rest = none_counted_both test xs ys (λ i a b at there. fails (suc i) a b at there) in
    omega arith

not_not : (b : Bool) → not b ≡ false → b ≡ true
not_not true none = refl
not_not false none = sym none

le_tested : (m n : ℕ) → nat_le m n ≡ true → m ≤ n
le_tested m n passes = grind (arith, nat_tests)

-- three counts of nothing
pub record CountsNothing (violations : Violations) : Type 0 where
  pub above : violations.above ≡ 0
  pub over : violations.over ≡ 0
  pub broken : violations.broken ≡ 0

pub nothing_said : (violations : Violations) → (violations.above == 0 && violations.over == 0 && violations.broken == 0) ≡ true → CountsNothing violations
nothing_said violations all =
    let parts = and_parts (violations.above == 0 && violations.over == 0) (violations.broken == 0) all in
    let first = and_parts (violations.above == 0) (violations.over == 0) parts.0 in
    record { above = eqb-true _ _ first.0; over = eqb-true _ _ first.1; broken = eqb-true _ _ parts.1 }

pub nothing_tells : (violations : Violations) → CountsNothing violations → (violations.above == 0 && violations.over == 0 && violations.broken == 0) ≡ true
nothing_tells violations none =
    ap (λ (n : ℕ). n == 0 && violations.over == 0 && violations.broken == 0) none.above
    ∙ ap (λ (n : ℕ). n == 0 && violations.broken == 0) none.over ∙ ap (λ (n : ℕ). n == 0) none.broken

pub sound_counted :
    (net : Topology) (ports : List Table) (connections : List ConnectionView) (looks : ℕ) (violations : Violations) → IsTallied net ports connections violations →
    CountsNothing violations → IsSound (record { net = net; ports = ports; connections = connections; looks = looks })
sound_counted net ports connections looks violations kept none = record {
  rates = λ c i p conn connection known at there. le_tested _ _ (all_at (λ port. nat_le connection.actor.source.rate (held_by_port conn.vc ports port)) conn.path i p
      (not_not _ (none_at_both (shapes_above ports) net.conns connections c conn connection (sym kept.above ∙ none.above) known at)) there);
  sums = λ p table at. le_tested _ _ (not_not _ (none_at is_above ports p table (sym kept.over ∙ none.over) at));
  cells = λ c connection at. not_not _ (none_at is_broken connections c connection (sym kept.broken ∙ none.broken) at);
}

pub counted_sound :
    (net : Topology) (ports : List Table) (connections : List ConnectionView) (looks : ℕ) (violations : Violations) → IsTallied net ports connections violations →
    IsSound (record { net = net; ports = ports; connections = connections; looks = looks }) → CountsNothing violations
counted_sound net ports connections looks violations kept sound = record {
  above = kept.above ∙ none_counted_both (shapes_above ports) net.conns connections (λ c conn connection known at.
      ap not (all_pass (λ port. nat_le connection.actor.source.rate (held_by_port conn.vc ports port)) conn.path
      (λ i p there. le_passes _ _ (sound.rates c i p conn connection known at there))));
  over = kept.over ∙ none_counted is_above ports (λ p table at. ap not (le_passes _ _ (sound.sums p table at)));
  broken = kept.broken ∙ none_counted is_broken connections (λ c connection at. ap not (sound.cells c connection at));
}

-- a world that stands for events counts nothing
pub past_counts_nothing :
    (net : Topology) (events : List Event) (connections : List ConnectionState) (ports : List Table) (violations : Violations) → AreOfPast net events connections ports →
    IsTallied net ports (map seen connections) violations → CountsNothing violations
past_counts_nothing net events connections ports violations are kept = record {
  above = kept.above ∙ none_above net.conns connections ports (rates_pass net events connections ports are);
  over = kept.over ∙ none_over ports (sums_pass net events connections ports are);
  broken = kept.broken ∙ none_broken connections (cells_pass net events connections ports are);
}
