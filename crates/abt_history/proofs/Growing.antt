-- Histories that grow.
use Rattle.std.proofs.Common.{◌≡◌, ◌≢◌, ℕ, ◌+◌, ◌-◌, ◌<◌, ◌≤◌, Bool, true, false, List, [], ◌∷◌, ◌++◌, length, reverse, map, refl, ap, sym, subst, ◌∙◌, arith, inl, inr, Some}
use Rattle.std.specs.Prelude.{◌==◌, nat_lt, if◌then◌else◌, All}
use Rattle.std.proofs.lemmas.Bool.{false≢true, cond-true, cond-false, cond_both, cases_eq, cases_Bool, eq-eqb, ne_eqb, ltb-true, ltb-false}
use Rattle.std.proofs.lemmas.List.{append-nil, append_assoc, length-append, reverse-append}
use Rattle.std.proofs.lemmas.List.Elements.{All-cons, All-nil}
use mathlib.Core.List.{IsPrefix}
use Rattle.abt_net.specs.Topology.{Topology}
use Rattle.abt_model.specs.declared.event.Event.{Event}
use Rattle.abt_model.specs.declared.event.Event.TheVariants.{Turn}
use Rattle.abt_model.specs.Events.{AsksRate}
use Rattle.abt_weave.specs.Projections.{Step, Visit, past_of, visit, step_at, steps_on}
use Rattle.abt_weave.specs.Stuck.{AreTurns, IsBeginning}
use Rattle.abt_weave.specs.Candidates.{is_own_of}
use Rattle.abt_weave.proofs.Growth.{steps_one, steps_other}
use Rattle.abt_weave.proofs.Replays.{no_visit}
use Rattle.abt_weave.proofs.Turns.{steps_turns}
use Rattle.abt_history.specs.declared.deed.Deed.{Deed}
use Rattle.abt_history.specs.declared.deed.Deed.TheVariants.{Happens, Goes, EndsPort, EndsSource, Comes}
use Rattle.abt_history.specs.Histories.{behind, happened, ends_of_port, is_of_source, turns_of_source, count_of}
use Rattle.abt_history.specs.Legal.{MayHappen, May, IsLegalFrom, IsLegal, with_turns}

behind_is : (earlier : List Event) (log : List Deed) → behind earlier log ≡ behind [] log ++ earlier
behind_is earlier [] = refl
behind_is earlier (Happens event ∷ log) = behind_is (event ∷ earlier) log ∙ sym (append_assoc (behind [] log) (event ∷ []) earlier) ∙ ap (λ (l : List Event). l ++ earlier) (sym (behind_is (event ∷ []) log))
behind_is earlier (Goes c ∷ log) = behind_is earlier log
behind_is earlier (EndsPort p ∷ log) = behind_is earlier log
behind_is earlier (EndsSource c ∷ log) = behind_is earlier log
behind_is earlier (Comes p input ∷ log) = behind_is earlier log

behind-append : (earlier : List Event) (xs ys : List Deed) → behind earlier (xs ++ ys) ≡ behind (behind earlier xs) ys
behind-append earlier [] ys = refl
behind-append earlier (Happens event ∷ xs) ys = behind-append (event ∷ earlier) xs ys
behind-append earlier (Goes c ∷ xs) ys = behind-append earlier xs ys
behind-append earlier (EndsPort p ∷ xs) ys = behind-append earlier xs ys
behind-append earlier (EndsSource c ∷ xs) ys = behind-append earlier xs ys
behind-append earlier (Comes p input ∷ xs) ys = behind-append earlier xs ys

-- what happened later stands in front
pub happened-append : (xs ys : List Deed) → happened (xs ++ ys) ≡ happened ys ++ happened xs
happened-append xs ys = behind-append [] xs ys ∙ behind_is (happened xs) ys

pub happened_more : (seen log : List Deed) → (pre : IsPrefix seen log) → happened log ≡ happened pre.0 ++ happened seen
happened_more seen log pre = ap happened (sym pre.1) ∙ happened-append seen pre.0

-- one more in a part is one more in the whole
one_of : (b : Bool) (all part rest : ℕ) → all ≡ part + rest → (if b then all + 1 else all) ≡ (if b then part + 1 else part) + rest
one_of true all part rest e = omega (arith, e)
one_of false all part rest e = e

pub ends-append : (p : ℕ) (xs ys : List Deed) → ends_of_port p (xs ++ ys) ≡ ends_of_port p xs + ends_of_port p ys
ends-append p [] ys = omega arith
ends-append p (Happens event ∷ xs) ys = ends-append p xs ys
ends-append p (Goes c ∷ xs) ys = ends-append p xs ys
ends-append p (EndsPort q ∷ xs) ys = one_of (q == p) (ends_of_port p (xs ++ ys)) (ends_of_port p xs) (ends_of_port p ys) (ends-append p xs ys)
ends-append p (EndsSource c ∷ xs) ys = ends-append p xs ys
ends-append p (Comes q input ∷ xs) ys = ends-append p xs ys

pub turns-append : (c : ℕ) (xs ys : List Deed) → turns_of_source c (xs ++ ys) ≡ turns_of_source c xs + turns_of_source c ys
turns-append c [] ys = omega arith
turns-append c (deed ∷ xs) ys = one_of (is_of_source c deed) (turns_of_source c (xs ++ ys)) (turns_of_source c xs) (turns_of_source c ys) (turns-append c xs ys)

-- the steps of a port begin those that it has later
pub steps_grow : (net : Topology) (more earlier : List Event) (p : ℕ) → IsBeginning (steps_on net p earlier) (steps_on net p (more ++ earlier))
steps_grow net [] earlier p = ([], sym (append-nil (steps_on net p earlier)))
steps_grow net (event ∷ more) earlier p =
    let rest = steps_grow net more earlier p in
    let added = step_at p (length (steps_on net p (more ++ earlier))) (visit net (past_of net (more ++ earlier)) event) in
    (rest.0 ++ added, ap (λ (l : List Step). l ++ added) rest.1 ∙ append_assoc (steps_on net p earlier) rest.0 added)

nothing_more : {A : Type 0} → (rest : List A) → length rest ≡ 0 → rest ≡ []
nothing_more [] e = refl
nothing_more (x ∷ rest) e = absurd (omega (arith, e))

-- a port whose word counts as much as what was seen of it has had no more steps, and hasn't ended
pub record IsAsSeen (net : Topology) (p : ℕ) (seen log : List Deed) : Type 0 where
  pub steps : steps_on net p (happened log) ≡ steps_on net p (happened seen)
  pub unended : ends_of_port p log ≡ ends_of_port p seen

pub count_at_port : (net : Topology) (p : ℕ) (log : List Deed) → p < length net.capacities → count_of net p log ≡ length (steps_on net p (happened log)) + ends_of_port p log
count_at_port net p log low = cond_both (nat_lt p (length net.capacities)) (length (steps_on net p (happened log)) + ends_of_port p log) (turns_of_source (p - length net.capacities) log) (λ (n : ℕ). n ≡ length (steps_on net p (happened log)) + ends_of_port p log) (λ e. refl) (λ e. absurd (let high = ltb-false p (length net.capacities) e in omega (arith, low, high)))

pub count_at_source : (net : Topology) (k : ℕ) (log : List Deed) → length net.capacities ≤ k → count_of net k log ≡ turns_of_source (k - length net.capacities) log
count_at_source net k log high = cond_both (nat_lt k (length net.capacities)) (length (steps_on net k (happened log)) + ends_of_port k log) (turns_of_source (k - length net.capacities) log) (λ (n : ℕ). n ≡ turns_of_source (k - length net.capacities) log) (λ e. absurd (let low = ltb-true k (length net.capacities) e in omega (arith, low, high))) (λ e. refl)

pub as_seen : (net : Topology) (p : ℕ) (seen log : List Deed) → p < length net.capacities → IsPrefix seen log → count_of net p log ≡ count_of net p seen → IsAsSeen net p seen log
as_seen net p seen log low pre same =
    let before = happened seen in
    let rest = pre.0 in
    let all = happened_more seen log pre in
    let grown = steps_grow net (happened rest) before p in
    let now : steps_on net p (happened log) ≡ steps_on net p before ++ grown.0 = ap (steps_on net p) all ∙ grown.1 in
    let ends : ends_of_port p log ≡ ends_of_port p seen + ends_of_port p rest = ap (ends_of_port p) (sym pre.1) ∙ ends-append p seen rest in
    let lengths : length (steps_on net p (happened log)) ≡ length (steps_on net p before) + length grown.0 = ap length now ∙ length-append (steps_on net p before) grown.0 in
    let one = count_at_port net p log low in
    let other = count_at_port net p seen low in
    let none : length grown.0 ≡ 0 = omega (arith, same, one, other, ends, lengths) in
    record {
      steps = now ∙ ap (λ (l : List Step). steps_on net p before ++ l) (nothing_more grown.0 none) ∙ append-nil (steps_on net p before);
      unended = omega (arith, same, one, other, ends, lengths, none);
    }

-- rates of a legal history can be named
rates_behind : (net : Topology) (before log : List Deed) → IsLegalFrom net before log → All AsksRate (happened before) → All AsksRate (happened (before ++ log))
rates_behind net before [] legal all = subst (λ (l : List Deed). All AsksRate (happened l)) (sym (append-nil before)) all
rates_behind net before (deed ∷ log) legal all =
    subst (λ (l : List Deed). All AsksRate (happened l)) (append_assoc before (deed ∷ []) log)
    (rates_behind net (before ++ deed ∷ []) log legal.1 (subst (All AsksRate) (sym (happened-append before (deed ∷ []))) (with_deed deed legal.0)))
  where
    with_deed : (d : Deed) → May net before d → All AsksRate (happened (d ∷ []) ++ happened before)
    with_deed (Happens event) may = All-cons AsksRate event (happened before) may.asks all
    with_deed (Goes c) may = all
    with_deed (EndsPort p) may = all
    with_deed (EndsSource c) may = all
    with_deed (Comes p input) may = absurd may

pub rates_of : (net : Topology) (log : List Deed) → IsLegal net log → All AsksRate (happened log)
rates_of net log legal = rates_behind net [] log legal (All-nil AsksRate)

pub legal_more : (net : Topology) (before log : List Deed) (deed : Deed) → IsLegalFrom net before log → May net (before ++ log) deed → IsLegalFrom net before (log ++ deed ∷ [])
legal_more net before [] deed legal may = (subst (λ (w : List Deed). May net w deed) (append-nil before) may, tt)
legal_more net before (x ∷ log) deed legal may =
    (legal.0, legal_more net (before ++ x ∷ []) log deed legal.1 (subst (λ (w : List Deed). May net w deed) (sym (append_assoc before (x ∷ []) log)) may))

-- Turns behind a history
abbrev pub turned : List Deed → List Event → List Deed
turned log turns = log ++ map Happens (reverse turns)

one_turned : (turn : Event) (turns : List Event) → map Happens (reverse (turn ∷ turns)) ≡ map Happens (reverse turns) ++ Happens turn ∷ []
one_turned turn turns = ap (map Happens) (reverse-append (turn ∷ []) turns) ∙ mapped (reverse turns) turn
  where
    mapped : (xs : List Event) (x : Event) → map Happens (xs ++ x ∷ []) ≡ map Happens xs ++ Happens x ∷ []
    mapped [] x = refl
    mapped (y ∷ xs) x = ap (λ (l : List Deed). Happens y ∷ l) (mapped xs x)

turned_one : (log : List Deed) (turn : Event) (turns : List Event) → turned log (turn ∷ turns) ≡ turned log turns ++ Happens turn ∷ []
turned_one log turn turns = ap (λ (l : List Deed). log ++ l) (one_turned turn turns) ∙ sym (append_assoc log (map Happens (reverse turns)) (Happens turn ∷ []))

pub happened_turned : (log : List Deed) (turns : List Event) → happened (turned log turns) ≡ turns ++ happened log
happened_turned log [] = ap happened (append-nil log)
happened_turned log (turn ∷ turns) = ap happened (turned_one log turn turns) ∙ happened-append (turned log turns) (Happens turn ∷ []) ∙ ap (λ (l : List Event). turn ∷ l) (happened_turned log turns)

-- a Turn may come
turn_may : (net : Topology) (log : List Deed) (c seq : ℕ) → MayHappen net log (Turn c seq)
turn_may net log c seq = record {
  asks = tt;
  own = λ d mine. absurd (false≢true mine);
  beside = λ d here. absurd (false≢true here);
  unended = λ v is. (let none = no_visit net (past_of net (happened log)) (Turn c seq) c refl (λ vc facts. refl) in absurd (cc));
}

pub legal_turned : (net : Topology) (log : List Deed) (turns : List Event) → IsLegal net log → AreTurns net (happened log) turns → IsLegal net (turned log turns)
legal_turned net log [] legal all = subst (IsLegal net) (sym (append-nil log)) legal
legal_turned net log (turn ∷ turns) legal all =
    subst (IsLegal net) (sym (turned_one log turn turns))
    (legal_more net [] (turned log turns) (Happens turn) (legal_turned net log turns legal all.1)
    (subst (λ (e : Event). MayHappen net (turned log turns) e) (sym all.0.is) (turn_may net (turned log turns) all.0.conn all.0.seq)))

-- and counts for no word
pub ends_turned : (p : ℕ) (log : List Deed) (turns : List Event) → ends_of_port p (turned log turns) ≡ ends_of_port p log
ends_turned p log turns =
    let all = ends-append p log (map Happens (reverse turns)) in
    let zero_more = none (reverse turns) in
    omega (arith, all, zero_more)
  where
    none : (xs : List Event) → ends_of_port p (map Happens xs) ≡ 0
    none [] = refl
    none (x ∷ xs) = none xs

pub turns_turned : (net : Topology) (c : ℕ) (log : List Deed) (earlier turns : List Event) → AreTurns net earlier turns → turns_of_source c (turned log turns) ≡ turns_of_source c log
turns_turned net c log earlier [] all = ap (turns_of_source c) (append-nil log)
turns_turned net c log earlier (turn ∷ turns) all =
    let all_of = ap (turns_of_source c) (turned_one log turn turns) ∙ turns-append c (turned log turns) (Happens turn ∷ []) in
    let none : turns_of_source c (Happens turn ∷ []) ≡ 0 = ap (λ (e : Event). if is_own_of c e then 0 + 1 else 0) all.0.is in
    let rest = turns_turned net c log earlier turns all.1 in
    omega (arith, all_of, none, rest)

-- with a deed behind them
pub with_turned : (log : List Deed) (turns : List Event) (deed : Deed) → log ++ with_turns turns deed ≡ turned log turns ++ deed ∷ []
with_turned log turns deed = sym (append_assoc log (map Happens (reverse turns)) (deed ∷ []))

-- A step of a port counts for its word alone.
pub counts_step : (net : Topology) (log : List Deed) (turns : List Event) (event : Event) (v : Visit) → AreTurns net (happened log) turns → visit net (past_of net (turns ++ happened log)) event ≡ Some v → v.port < length net.capacities →
    ((c : ℕ) → is_own_of c event ≡ false) → (k : ℕ) → count_of net k (log ++ with_turns turns (Happens event)) ≡ (if k == v.port then count_of net k log + 1 else count_of net k log)
counts_step net log turns event v all is low far k =
    let earlier = happened log in
    let more = turned log turns in
    let new = more ++ Happens event ∷ [] in
    let same : log ++ with_turns turns (Happens event) ≡ new = with_turned log turns (Happens event) in
    let now : happened new ≡ event ∷ (turns ++ earlier) = happened-append more (Happens event ∷ []) ∙ ap (λ (l : List Event). event ∷ l) (happened_turned log turns) in
    let Goal = count_of net k new ≡ (if k == v.port then count_of net k log + 1 else count_of net k log) in
    ap (count_of net k) same ∙ elim (cases_Bool (nat_lt k (length net.capacities))) as (λ _. Goal) [
      | inl e ↦ (
          let inside = ltb-true k (length net.capacities) e in
          let added = ends-append k more (Happens event ∷ []) in
          let kept = ends_turned k log turns in
          let ends : ends_of_port k new ≡ ends_of_port k log = omega (arith, added, kept) in
          let old = ap length (steps_turns net earlier turns all k) in
          let before = count_at_port net k log inside in
          let after : count_of net k new ≡ length (steps_on net k (event ∷ (turns ++ earlier))) + ends_of_port k new = count_at_port net k new inside ∙ ap (λ (l : List Event). length (steps_on net k l) + ends_of_port k new) now in
          elim (cases_eq k v.port) as (λ _. Goal) [
            | inl here ↦ (
                let one = steps_one net (turns ++ earlier) event k v is (sym here) in
                let up : count_of net k new ≡ count_of net k log + 1 = omega (arith, after, one, old, ends, before) in
                up ∙ sym (cond-true _ _ _ (eq-eqb k v.port here)))
            | inr differ ↦ (
                let other = ap length (steps_other net (turns ++ earlier) event k v is (λ h. differ (sym h))) in
                let level : count_of net k new ≡ count_of net k log = omega (arith, after, other, old, ends, before) in
                level ∙ sym (cond-false _ _ _ (ne_eqb k v.port differ)))
          ])
      | inr e ↦ (
          let high = ltb-false k (length net.capacities) e in
          let c = k - length net.capacities in
          let none : turns_of_source c (Happens event ∷ []) ≡ 0 = cond-false _ _ _ (far c) in
          let added = turns-append c more (Happens event ∷ []) in
          let kept = turns_turned net c log earlier turns all in
          let turns_same : turns_of_source c new ≡ turns_of_source c log = omega (arith, added, none, kept) in
          let differ : k ≢ v.port = λ h. omega (arith, h, low, high) in
          count_at_source net k new high ∙ turns_same ∙ sym (count_at_source net k log high) ∙ sym (cond-false _ _ _ (ne_eqb k v.port differ)))
    ]
