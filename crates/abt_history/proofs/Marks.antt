-- Marks may come next: that a source goes to its first port, and that a source or a port ends.
use Rattle.std.proofs.Common.{◌≡◌, ◌≢◌, ℕ, ◌+◌, ◌-◌, ◌<◌, true, false, List, [], ◌∷◌, ◌++◌, length, refl, ap, sym, subst, ◌∙◌, arith, inl, inr}
use Rattle.std.specs.Prelude.{◌==◌, nat_lt, if◌then◌else◌}
use Rattle.std.proofs.lemmas.Bool.{cond-true, cond-false, cases_Bool, cases_eq, eq-eqb, ne_eqb, ltb-true, ltb-false}
use Rattle.abt_net.specs.Topology.{Topology}
use Rattle.abt_model.specs.declared.event.Event.{Event}
use Rattle.abt_weave.specs.Projections.{steps_on}
use Rattle.abt_history.specs.declared.deed.Deed.{Deed}
use Rattle.abt_history.specs.declared.deed.Deed.TheVariants.{Goes, EndsPort, EndsSource}
use Rattle.abt_history.specs.Histories.{happened, ends_of_port, is_of_source, turns_of_source, count_of}
use Rattle.abt_history.specs.Legal.{IsLegal, IsStep, with_turns}
use Rattle.abt_history.proofs.Growing.{happened-append, ends-append, turns-append, count_at_port, count_at_source, legal_more}
use Rattle.abt_history.proofs.Turning.{away_still}
use Rattle.abt_history.proofs.Turning.{StaysHome}
use Rattle.abt_history.proofs.Own.{home_open}

-- a mark of a source: no event, no end of a port, and a turn of this source alone
record IsMarkOf (c : ℕ) (deed : Deed) : Type 0 where
  silent : (log : List Deed) → happened (log ++ deed ∷ []) ≡ happened log
  endless : (p : ℕ) → ends_of_port p (deed ∷ []) ≡ 0
  mine : is_of_source c deed ≡ true
  alone : (d : ℕ) → d ≢ c → is_of_source d deed ≡ false

counts_mark : (net : Topology) (c : ℕ) (log : List Deed) (deed : Deed) → IsMarkOf c deed → (k : ℕ) →
    count_of net k (log ++ deed ∷ []) ≡ (if k == length net.capacities + c then count_of net k log + 1 else count_of net k log)
counts_mark net c log deed its k =
    let new = log ++ deed ∷ [] in
    let ports = length net.capacities in
    let Goal = count_of net k new ≡ (if k == ports + c then count_of net k log + 1 else count_of net k log) in
    elim (cases_Bool (nat_lt k ports)) as (λ _. Goal) [
      | inl e ↦ (
          let low = ltb-true k ports e in
          let steps = ap (λ (l : List Event). length (steps_on net k l)) (its.silent log) in
          let ends = ends-append k log (deed ∷ []) in
          let none = its.endless k in
          let after = count_at_port net k new low in
          let before = count_at_port net k log low in
          let level : count_of net k new ≡ count_of net k log = omega (arith, after, before, ends, none, steps) in
          level ∙ sym (cond-false _ _ _ (ne_eqb k (ports + c) (λ h. omega (arith, h, low)))))
      | inr e ↦ (
          let high = ltb-false k ports e in
          let d = k - ports in
          let all = turns-append d log (deed ∷ []) in
          let after = count_at_source net k new high in
          let before = count_at_source net k log high in
          elim (cases_eq d c) as (λ _. Goal) [
            | inl same ↦ (
                let one : turns_of_source d (deed ∷ []) ≡ 1 = cond-true _ _ _ (subst (λ n. is_of_source n deed ≡ true) (sym same) its.mine) in
                let here : k ≡ ports + c = omega (arith, same, high) in
                let up : count_of net k new ≡ count_of net k log + 1 = omega (arith, after, before, all, one) in
                up ∙ sym (cond-true _ _ _ (eq-eqb k (ports + c) here)))
            | inr differ ↦ (
                let none : turns_of_source d (deed ∷ []) ≡ 0 = cond-false _ _ _ (its.alone d differ) in
                let level : count_of net k new ≡ count_of net k log = omega (arith, after, before, all, none) in
                level ∙ sym (cond-false _ _ _ (ne_eqb k (ports + c) (λ h. differ (omega (arith, h, high))))))
          ])
    ]

goes_mark : (c : ℕ) → IsMarkOf c (Goes c)
goes_mark c = record {
  silent = λ log. happened-append log (Goes c ∷ []);
  endless = λ p. refl;
  mine = eq-eqb c c refl;
  alone = λ d differ. ne_eqb c d (λ h. differ (sym h));
}

ends_mark : (c : ℕ) → IsMarkOf c (EndsSource c)
ends_mark c = record {
  silent = λ log. happened-append log (EndsSource c ∷ []);
  endless = λ p. refl;
  mine = eq-eqb c c refl;
  alone = λ d differ. ne_eqb c d (λ h. differ (sym h));
}

-- a source at home may go to its first port, or end
pub goes_step : (net : Topology) (c : ℕ) (seen log : List Deed) → StaysHome net c seen log → IsStep net (length net.capacities + c) log (with_turns [] (Goes c))
goes_step net c seen log home =
    let away = away_still net c seen log home.pre home.legal home.out home.turns in
    record { legal = legal_more net [] log (Goes c) home.legal (away.1, home_open net c seen log home); counts = counts_mark net c log (Goes c) (goes_mark c) }

pub source_ends : (net : Topology) (c : ℕ) (seen log : List Deed) → StaysHome net c seen log → IsStep net (length net.capacities + c) log (with_turns [] (EndsSource c))
source_ends net c seen log home =
    let away = away_still net c seen log home.pre home.legal home.out home.turns in
    record { legal = legal_more net [] log (EndsSource c) home.legal (away.1, home_open net c seen log home); counts = counts_mark net c log (EndsSource c) (ends_mark c) }

-- a port may end at any time
pub port_ends : (net : Topology) (p : ℕ) (log : List Deed) → p < length net.capacities → IsLegal net log → IsStep net p log (with_turns [] (EndsPort p))
port_ends net p log low legal = record {
  legal = legal_more net [] log (EndsPort p) legal tt;
  counts = λ k. (
      let new = log ++ EndsPort p ∷ [] in
      let ports = length net.capacities in
      let Goal = count_of net k new ≡ (if k == p then count_of net k log + 1 else count_of net k log) in
      elim (cases_Bool (nat_lt k ports)) as (λ _. Goal) [
        | inl e ↦ (
            let inside = ltb-true k ports e in
            let steps = ap (λ (l : List Event). length (steps_on net k l)) (happened-append log (EndsPort p ∷ [])) in
            let ends = ends-append k log (EndsPort p ∷ []) in
            let after = count_at_port net k new inside in
            let before = count_at_port net k log inside in
            elim (cases_eq k p) as (λ _. Goal) [
              | inl same ↦ (
                  let one : ends_of_port k (EndsPort p ∷ []) ≡ 1 = cond-true _ _ _ (eq-eqb p k (sym same)) in
                  let up : count_of net k new ≡ count_of net k log + 1 = omega (arith, after, before, ends, one, steps) in
                  up ∙ sym (cond-true _ _ _ (eq-eqb k p same)))
              | inr differ ↦ (
                  let none : ends_of_port k (EndsPort p ∷ []) ≡ 0 = cond-false _ _ _ (ne_eqb p k (λ h. differ (sym h))) in
                  let level : count_of net k new ≡ count_of net k log = omega (arith, after, before, ends, none, steps) in
                  level ∙ sym (cond-false _ _ _ (ne_eqb k p differ)))
            ])
        | inr e ↦ (
            let high = ltb-false k ports e in
            let d = k - ports in
            let all = turns-append d log (EndsPort p ∷ []) in
            let after = count_at_source net k new high in
            let before = count_at_source net k log high in
            let none : turns_of_source d (EndsPort p ∷ []) ≡ 0 = refl in
            let level : count_of net k new ≡ count_of net k log = omega (arith, after, before, all, none) in
            level ∙ sym (cond-false _ _ _ (ne_eqb k p (λ h. omega (arith, h, low, high)))))
      ]);
}
