-- What a source does by itself may come next, as long as it has had no other turn.
use Rattle.std.proofs.Common.{◌≡◌, ℕ, ◌+◌, ◌-◌, Bool, true, false, List, [], ◌∷◌, ◌++◌, length, refl, ap, sym, subst, ◌∙◌, arith, inl, inr, Option, None, Some}
use Rattle.std.specs.Prelude.{◌==◌, ◌&&◌, ◌||◌, nat_lt, if◌then◌else◌}
use Rattle.std.proofs.lemmas.Bool.{false≢true, cond-true, cond-false, cases_Bool, cases_eq, eq-eqb, ne_eqb, ltb-true, ltb-false}
use Rattle.abt_net.specs.Topology.{Topology}
use Rattle.abt_model.specs.declared.event.Event.{Event}
use Rattle.abt_model.specs.declared.event.Event.TheVariants.{Start, Ask, Again, Crash, Emit, Told}
use Rattle.abt_model.specs.Events.{AsksRate}
use Rattle.abt_model.specs.Outcomes.{conn_of}
use Rattle.abt_weave.specs.Projections.{past_of, steps_on}
use Rattle.abt_weave.specs.Candidates.{is_own_of, is_beside}
use Rattle.abt_weave.proofs.Growth.{steps_none}
use Rattle.abt_weave.proofs.OwnEvents.{own_conn, own_visit}
use Rattle.abt_weave.proofs.PortEvents.{some_same}
use Rattle.abt_history.specs.declared.deed.Deed.{Deed}
use Rattle.abt_history.specs.declared.deed.Deed.TheVariants.{Happens, Goes, EndsPort, EndsSource, Comes}
use Rattle.abt_history.specs.Histories.{happened, is_of_source, turns_of_source, count_of, is_beside_of, is_out, has_ended}
use Rattle.abt_history.specs.Legal.{MayHappen, IsStep, with_turns}
use Rattle.abt_history.proofs.Growing.{happened-append, ends-append, turns-append, count_at_port, count_at_source, legal_more}
use Rattle.abt_history.proofs.Turning.{StaysHome}
use Rattle.abt_history.proofs.Turning.{away_still}

-- a source that has had no turn hasn't ended
pub ended_more : (c : ℕ) (seen rest : List Deed) → turns_of_source c rest ≡ 0 → has_ended c (seen ++ rest) ≡ has_ended c seen
ended_more c [] rest none = ended_none rest none
  where
    none_of : (b : Bool) (n : ℕ) → (if b then n + 1 else n) ≡ 0 → (b ≡ false) × (n ≡ 0)
    none_of true n e = absurd (omega (arith, e))
    none_of false n e = (refl, e)

    ended_none : (l : List Deed) → turns_of_source c l ≡ 0 → has_ended c l ≡ false
    ended_none [] h = refl
    ended_none (Happens event ∷ l) h = ended_none l (none_of (is_of_source c (Happens event)) (turns_of_source c l) h).1
    ended_none (Goes d ∷ l) h = ended_none l (none_of (is_of_source c (Goes d)) (turns_of_source c l) h).1
    ended_none (EndsPort p ∷ l) h = ended_none l h
    ended_none (Comes p input ∷ l) h = ended_none l h
    ended_none (EndsSource d ∷ l) h = (let both = none_of (d == c) (turns_of_source c l) h in ap (λ b. b || has_ended c l) both.0 ∙ ended_none l both.1)
ended_more c (Happens event ∷ seen) rest none = ended_more c seen rest none
ended_more c (Goes d ∷ seen) rest none = ended_more c seen rest none
ended_more c (EndsPort p ∷ seen) rest none = ended_more c seen rest none
ended_more c (Comes p input ∷ seen) rest none = ended_more c seen rest none
ended_more c (EndsSource d ∷ seen) rest none = ap (λ b. d == c || b) (ended_more c seen rest none)

-- what a source has done is its own, and of no other
own_of_one : (c d : ℕ) (event : Event) → is_own_of c event ≡ true → is_own_of d event ≡ true → d ≡ c
own_of_one c d event mine other = some_same (sym (own_conn d event other) ∙ own_conn c event mine)

own_far : (c : ℕ) (event : Event) → is_own_of c event ≡ true → is_beside event ≡ false
own_far c (Start d now) mine = refl
own_far c (Ask d rate plan) mine = refl
own_far c (Again d) mine = refl
own_far c (Crash d) mine = refl
own_far c (Emit d now) mine = refl
own_far c (Told d seq granted) mine = refl
own_far c other mine = absurd (false≢true mine)

not_met : (d : ℕ) (event : Event) (o : Option ℕ) → is_beside event ≡ false → is_beside_of d event o ≡ false
not_met d event None far = refl
not_met d event (Some c) far = ap (λ b. b && c == d) far

pub home_open : (net : Topology) (c : ℕ) (seen log : List Deed) → StaysHome net c seen log → has_ended c log ≡ false
home_open net c seen log home =
    let count = ap (turns_of_source c) (sym home.pre.1) ∙ turns-append c seen home.pre.0 in
    let same = home.turns in
    let none : turns_of_source c home.pre.0 ≡ 0 = omega (arith, count, same) in
    ap (has_ended c) (sym home.pre.1) ∙ ended_more c seen home.pre.0 none ∙ home.unended

counts_own : (net : Topology) (c : ℕ) (log : List Deed) (event : Event) → is_own_of c event ≡ true → (k : ℕ) →
    count_of net k (log ++ Happens event ∷ []) ≡ (if k == length net.capacities + c then count_of net k log + 1 else count_of net k log)
counts_own net c log event mine k =
    let new = log ++ Happens event ∷ [] in
    let ports = length net.capacities in
    let now : happened new ≡ event ∷ happened log = happened-append log (Happens event ∷ []) in
    let Goal = count_of net k new ≡ (if k == ports + c then count_of net k log + 1 else count_of net k log) in
    elim (cases_Bool (nat_lt k ports)) as (λ _. Goal) [
      | inl e ↦ (
          let low = ltb-true k ports e in
          let silent = own_visit net (past_of net (happened log)) c event mine in
          let steps = ap length (ap (steps_on net k) now ∙ steps_none net (happened log) event k silent) in
          let ends = ends-append k log (Happens event ∷ []) in
          let after = count_at_port net k new low in
          let before = count_at_port net k log low in
          let level : count_of net k new ≡ count_of net k log = omega (arith, after, before, ends, steps) in
          level ∙ sym (cond-false _ _ _ (ne_eqb k (ports + c) (λ h. omega (arith, h, low)))))
      | inr e ↦ (
          let high = ltb-false k ports e in
          let d = k - ports in
          let all = turns-append d log (Happens event ∷ []) in
          let after = count_at_source net k new high in
          let before = count_at_source net k log high in
          elim (cases_eq d c) as (λ _. Goal) [
            | inl same ↦ (
                let one : turns_of_source d (Happens event ∷ []) ≡ 1 = cond-true _ _ _ (subst (λ n. is_own_of n event ≡ true) (sym same) mine) in
                let here : k ≡ ports + c = omega (arith, same, high) in
                let up : count_of net k new ≡ count_of net k log + 1 = omega (arith, after, before, all, one) in
                up ∙ sym (cond-true _ _ _ (eq-eqb k (ports + c) here)))
            | inr differ ↦ (
                let off : is_own_of d event ≡ false = elim (cases_Bool (is_own_of d event)) [ inr nay ↦ nay | inl aye ↦ absurd (differ (own_of_one c d event mine aye)) ] in
                let none : turns_of_source d (Happens event ∷ []) ≡ 0 = cond-false _ _ _ off in
                let level : count_of net k new ≡ count_of net k log = omega (arith, after, before, all, none) in
                level ∙ sym (cond-false _ _ _ (ne_eqb k (ports + c) (λ h. differ (omega (arith, h, high))))))
          ])
    ]

-- so what it does may come next
pub own_step : (net : Topology) (c : ℕ) (seen log : List Deed) → StaysHome net c seen log → (event : Event) → AsksRate event → is_own_of c event ≡ true → IsStep net (length net.capacities + c) log (with_turns [] (Happens event))
own_step net c seen log home event asks mine =
    let away = away_still net c seen log home.pre home.legal home.out home.turns in
    let unended = home_open net c seen log home in
    let may : MayHappen net log event = record {
      asks = asks;
      own = λ d other. (let same = own_of_one c d event mine other in (subst (λ n. is_out n log ≡ false) (sym same) away.1, subst (λ n. has_ended n log ≡ false) (sym same) unended));
      beside = λ d beside. absurd (false≢true (sym (not_met d event (conn_of event) (own_far c event mine)) ∙ beside));
      unended = λ v is. (let none = sym (own_visit net (past_of net (happened log)) c event mine) ∙ is in absurd (cc));
    } in
    record { legal = legal_more net [] log (Happens event) home.legal may; counts = counts_own net c log event mine }
