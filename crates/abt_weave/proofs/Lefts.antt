-- What actors have left.
use Rattle.std.proofs.Common.{◌≡◌, ℕ, zero, suc, ◌+◌, ◌<◌, ◌≤◌, refl, ap, List, [], ◌∷◌, ◌++◌, length, ◌∙◌, sym, arith, inl, inr}
use Rattle.std.specs.Prelude.{nat_lt}
use Rattle.std.proofs.lemmas.Bool.{cond-true, cases_Bool, cases_eq}
use Rattle.std.proofs.lemmas.Bool.Decides.{nat_tests}
use Rattle.std.proofs.lemmas.List.{append_assoc, append-nil}
use Rattle.abt_net.specs.Topology.{Topology}
use Rattle.abt_model.specs.declared.event.Event.{Event}
use Rattle.abt_weave.specs.declared.actor.Actor.{Actor}
use Rattle.abt_weave.specs.declared.actor.Stuck.{Stuck}
use Rattle.abt_weave.specs.Stuck.{RunJournals}
use Rattle.abt_weave.specs.Actors.{actor_count, actor_at, placed_on, entry_count}
use Rattle.abt_weave.specs.Faults.{left_at, left_below, source_left, port_left, all_left}
use Rattle.abt_weave.specs.OneFault.{AreJournalsOf}
use Rattle.abt_weave.proofs.Numbers.{source_at, port_at}

-- what the actor of a number has left
abbrev pub left_of : Topology → RunJournals → List Event → ℕ → List Stuck
left_of net js earlier number = left_at (actor_at net number) (placed_on net earlier (actor_at net number)) (entry_count js (actor_at net number))

below_same : (one other : ℕ → List Stuck) (n : ℕ) → ((i : ℕ) → i < n → one i ≡ other i) → left_below one n ≡ left_below other n
below_same one other zero same = refl
below_same one other (suc n) same = ap (λ l. l ++ one n) (below_same one other n (λ i low. same i (omega (arith, low)))) ∙ ap (λ l. left_below other n ++ l) (same n (omega arith))

-- what so many more have left stands behind
below_sum : (left : ℕ → List Stuck) (n m : ℕ) → left_below left (n + m) ≡ left_below left n ++ left_below (λ i. left (n + i)) m
below_sum left n zero = (let same : n + 0 ≡ n = omega arith in ap (λ k. left_below left k) same ∙ sym (append-nil (left_below left n)))
below_sum left n (suc m) =
    let same : n + suc m ≡ suc (n + m) = omega arith in
    ap (λ k. left_below left k) same ∙ ap (λ l. l ++ left (n + m)) (below_sum left n m) ∙ append_assoc (left_below left n) (left_below (λ i. left (n + i)) m) (left (n + m))

-- what all have left by their numbers is what sources and then ports have
pub lefts_all : (net : Topology) (js : RunJournals) (earlier : List Event) → AreJournalsOf net js → left_below (left_of net js earlier) (actor_count net) ≡ all_left net js earlier
lefts_all net js earlier are =
    let left = λ (actor : Actor). left_at actor (placed_on net earlier actor) (entry_count js actor) in
    let n = length net.conns in
    let m = length net.capacities in
    let sources : left_below (left_of net js earlier) n ≡ left_below (source_left net js earlier) (length js.sources) =
    below_same (left_of net js earlier) (source_left net js earlier) n (λ c low. ap left (source_at net c low)) ∙ ap (λ k. left_below (source_left net js earlier) k) (sym are.conns) in
    let ports : left_below (λ i. left_of net js earlier (n + i)) m ≡ left_below (port_left net js earlier) (length js.ports) =
    below_same (λ i. left_of net js earlier (n + i)) (port_left net js earlier) m (λ p low. ap left (port_at net p)) ∙ ap (λ k. left_below (port_left net js earlier) k) (sym are.ports) in
    below_sum (left_of net js earlier) n m ∙ ap (λ l. l ++ left_below (λ i. left_of net js earlier (n + i)) m) sources ∙ ap (λ l. left_below (source_left net js earlier) (length js.sources) ++ l) ports

-- where nothing is left, each place is at its end
append_none : {A : Type 0} → (xs ys : List A) → xs ++ ys ≡ [] → (xs ≡ []) × (ys ≡ [])
append_none [] ys h = (refl, h)
append_none (x ∷ xs) ys h = absurd (cc)

below_none : (left : ℕ → List Stuck) (n i : ℕ) → left_below left n ≡ [] → i < n → left i ≡ []
below_none left zero i none low = absurd (omega arith)
below_none left (suc n) i none low =
    let both = append_none (left_below left n) (left n) none in
    elim (cases_eq i n) [
      | inl same ↦ ap left same ∙ both.1
      | inr differ ↦ below_none left n i both.0 (omega arith)
    ]

pub at_end : (actor : Actor) (place entries : ℕ) → left_at actor place entries ≡ [] → entries ≤ place
at_end actor place entries none = elim (cases_Bool (nat_lt place entries)) [
  | inl less ↦ (let some = sym (cond-true (nat_lt place entries) (let one : List Stuck = record { actor = actor; place = place } ∷ [] in one) [] less) ∙ none in absurd (cc))
  | inr not_less ↦ grind (arith, nat_tests)
]

pub all_at_end : (one other : ℕ → List Stuck) (n m : ℕ) → left_below one n ++ left_below other m ≡ [] → ((i : ℕ) → i < n → one i ≡ []) × ((i : ℕ) → i < m → other i ≡ [])
all_at_end one other n m none =
    let both = append_none (left_below one n) (left_below other m) none in
    ((λ i low. below_none one n i both.0 low), (λ i low. below_none other m i both.1 low))
