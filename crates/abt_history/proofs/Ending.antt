-- What has ended stays as it is.
use Rattle.std.proofs.Common.{◌≡◌, ℕ, ◌<◌, Bool, true, false, List, [], ◌∷◌, ◌++◌, reverse, refl, ap, sym, subst, ◌∙◌, arith, inl, inr}
use Rattle.std.specs.Prelude.{◌==◌, ◌||◌, All}
use Rattle.std.proofs.lemmas.Bool.{false≢true, cases_Bool, cases_eq, eqb-true}
use Rattle.std.proofs.lemmas.List.{append-nil, append_assoc, reverse-reverse}
use mathlib.Core.List.{IsPrefix}
use Rattle.abt_net.specs.Topology.{Topology}
use Rattle.abt_model.specs.Events.{AsksRate}
use Rattle.abt_model.specs.Outcomes.{conn_of}
use Rattle.abt_model.proofs.Worlds.{cases_option}
use Rattle.abt_journal.specs.declared.entry.Entry.{Entry}
use Rattle.abt_model.specs.declared.journal.SourceJournal.{SourceJournal}
use Rattle.abt_weave.specs.Projections.{past_of, visit, steps_on, entries_on}
use Rattle.abt_weave.specs.Woven.{IsWoven}
use Rattle.abt_weave.specs.Candidates.{is_own_of}
use Rattle.abt_weave.proofs.Growth.{steps_none, steps_other}
use Rattle.abt_weave.proofs.Leavings.{all_reversed}
use Rattle.abt_history.specs.declared.deed.Deed.{Deed}
use Rattle.abt_history.specs.declared.deed.Deed.TheVariants.{Happens, Goes, EndsPort, EndsSource, Comes}
use Rattle.abt_history.specs.Histories.{happened, ends_of_port, is_beside_of, out_after, is_out, has_ended}
use Rattle.abt_history.specs.Legal.{May, IsLegal, IsLegalFrom}
use Rattle.abt_history.specs.Ended.{AreEnded}
use Rattle.abt_history.proofs.Growing.{happened-append, ends-append, rates_of}
use Rattle.abt_history.proofs.Quiet.{quiet}
use Rattle.abt_history.proofs.Turning.{legal_rest, out-append}

-- to a port that ended nothing comes
one_more : (net : Topology) (p : ℕ) (before : List Deed) (deed : Deed) → May net before deed → 0 < ends_of_port p before → steps_on net p (happened (before ++ deed ∷ [])) ≡ steps_on net p (happened before)
one_more net p before (Happens event) may ended =
    let now : happened (before ++ Happens event ∷ []) ≡ event ∷ happened before = happened-append before (Happens event ∷ []) in
    ap (steps_on net p) now ∙ elim (cases_option (visit net (past_of net (happened before)) event)) [
      | inl none ↦ steps_none net (happened before) event p none
      | inr some ↦ (elim (cases_eq some.0.port p) [
        | inr differ ↦ steps_other net (happened before) event p some.0 some.1 differ
        | inl same ↦ (let unended = may.unended some.0 some.1 in let zero : ends_of_port p before ≡ 0 = subst (λ q. ends_of_port q before ≡ 0) same unended in absurd (omega (arith, zero, ended)))
      ])
    ]
one_more net p before (Goes c) may ended = ap (steps_on net p) (happened-append before (Goes c ∷ []))
one_more net p before (EndsPort q) may ended = ap (steps_on net p) (happened-append before (EndsPort q ∷ []))
one_more net p before (EndsSource c) may ended = ap (steps_on net p) (happened-append before (EndsSource c ∷ []))
one_more net p before (Comes q input) may ended = absurd may

steps_ended : (net : Topology) (p : ℕ) (before rest : List Deed) → IsLegalFrom net before rest → 0 < ends_of_port p before → steps_on net p (happened (before ++ rest)) ≡ steps_on net p (happened before)
steps_ended net p before [] legal ended = ap (λ (l : List Deed). steps_on net p (happened l)) (append-nil before)
steps_ended net p before (deed ∷ rest) legal ended =
    let next = before ++ deed ∷ [] in
    let grown = ends-append p before (deed ∷ []) in
    ap (λ (l : List Deed). steps_on net p (happened l)) (sym (append_assoc before (deed ∷ []) rest))
    ∙ steps_ended net p next rest legal.1 (omega (arith, grown, ended))
    ∙ one_more net p before deed legal.0 ended

-- a source that ended does nothing
ended-append : (c : ℕ) (xs ys : List Deed) → has_ended c xs ≡ true → has_ended c (xs ++ ys) ≡ true
ended-append c [] ys h = absurd (false≢true h)
ended-append c (Happens event ∷ xs) ys h = ended-append c xs ys h
ended-append c (Goes d ∷ xs) ys h = ended-append c xs ys h
ended-append c (EndsPort p ∷ xs) ys h = ended-append c xs ys h
ended-append c (Comes p input ∷ xs) ys h = ended-append c xs ys h
ended-append c (EndsSource d ∷ xs) ys h = one_or (d == c) (has_ended c xs) (has_ended c (xs ++ ys)) (ended-append c xs ys) h
  where
    one_or : (a x y : Bool) → (x ≡ true → y ≡ true) → (a || x) ≡ true → (a || y) ≡ true
    one_or true x y go h = refl
    one_or false x y go h = go h

record IsSilent (net : Topology) (c : ℕ) (before : List Deed) (deed : Deed) : Type 0 where
  entries : entries_on net c (happened (before ++ deed ∷ [])) ≡ entries_on net c (happened before)
  out : is_out c (before ++ deed ∷ []) ≡ false

silent : (net : Topology) (c : ℕ) (before : List Deed) (deed : Deed) → May net before deed → has_ended c before ≡ true → is_out c before ≡ false → IsSilent net c before deed
silent net c before (Happens event) may ended out =
    let now : happened (before ++ Happens event ∷ []) ≡ event ∷ happened before = happened-append before (Happens event ∷ []) in
    let mine : is_own_of c event ≡ false = elim (cases_Bool (is_own_of c event)) [
      | inr nay ↦ nay
      | inl aye ↦ (let unended = may.own c aye in absurd (false≢true (sym unended.1 ∙ ended)))
    ] in
    let off : is_beside_of c event (conn_of event) ≡ false = elim (cases_Bool (is_beside_of c event (conn_of event))) [
      | inr nay ↦ nay
      | inl aye ↦ (let there = may.beside c aye in absurd (false≢true (sym out ∙ there.0)))
    ] in
    let its = quiet net c (happened before) event mine off in
    record {
      entries = ap (entries_on net c) now ∙ its.entries;
      out = out-append c false before (Happens event ∷ []) ∙ ap (λ b. out_after c b (Happens event ∷ [])) out;
    }
silent net c before (Goes d) may ended out = record {
  entries = ap (entries_on net c) (happened-append before (Goes d ∷ []));
  out = out-append c false before (Goes d ∷ []) ∙ ap (λ b. out_after c b (Goes d ∷ [])) out ∙ elim (cases_Bool (d == c)) as (λ _. (d == c || false) ≡ false) [
    | inl same ↦ (let unended = subst (λ n. has_ended n before ≡ false) (eqb-true d c same) may.1 in absurd (false≢true (sym unended ∙ ended)))
    | inr differ ↦ ap (λ b. b || false) differ
  ];
}
silent net c before (EndsPort p) may ended out = record {
  entries = ap (entries_on net c) (happened-append before (EndsPort p ∷ []));
  out = out-append c false before (EndsPort p ∷ []) ∙ out;
}
silent net c before (EndsSource d) may ended out = record {
  entries = ap (entries_on net c) (happened-append before (EndsSource d ∷ []));
  out = out-append c false before (EndsSource d ∷ []) ∙ out;
}
silent net c before (Comes p input) may ended out = absurd may

entries_ended : (net : Topology) (c : ℕ) (before rest : List Deed) → IsLegalFrom net before rest → has_ended c before ≡ true → is_out c before ≡ false → entries_on net c (happened (before ++ rest)) ≡ entries_on net c (happened before)
entries_ended net c before [] legal ended out = ap (λ (l : List Deed). entries_on net c (happened l)) (append-nil before)
entries_ended net c before (deed ∷ rest) legal ended out =
    let next = before ++ deed ∷ [] in
    let one = silent net c before deed legal.0 ended out in
    ap (λ (l : List Deed). entries_on net c (happened l)) (sym (append_assoc before (deed ∷ []) rest))
    ∙ entries_ended net c next rest legal.1 (ended-append c before (deed ∷ []) ended) one.out
    ∙ one.entries

later : (net : Topology) (front log : List Deed) → (pre : IsPrefix front log) → IsLegal net log → IsLegalFrom net front pre.0
later net front log pre legal = legal_rest net [] front pre.0 (subst (IsLegal net) (sym pre.1) legal)

pub ended_woven : (net : Topology) (journals : List (List Entry)) (sources : List SourceJournal) (log : List Deed) → IsLegal net log → AreEnded net journals sources log → IsWoven net journals sources (reverse (happened log))
ended_woven net journals sources log legal ended =
    let twice = reverse-reverse (happened log) in
    record {
      ports = λ p entries is.
          (let its = ended.ports p entries is in
          ap (steps_on net p) twice
          ∙ ap (λ (l : List Deed). steps_on net p (happened l)) (sym its.1.1)
          ∙ steps_ended net p its.0 its.1.0 (later net its.0 log its.1 legal) its.2.ended
          ∙ its.2.steps);
      conns = λ c journal is.
          (let its = ended.conns c journal is in
          ap (entries_on net c) twice
          ∙ ap (λ (l : List Deed). entries_on net c (happened l)) (sym its.1.1)
          ∙ entries_ended net c its.0 its.1.0 (later net its.0 log its.1 legal) its.2.ended its.2.home
          ∙ its.2.did);
    }

pub ended_rates : (net : Topology) (log : List Deed) → IsLegal net log → All AsksRate (reverse (happened log))
ended_rates net log legal = all_reversed AsksRate (happened log) (rates_of net log legal)
