-- The verdicts on a list of cells, one cell after another.
use Rattle.std.proofs.Common.{◌≡◌, ℕ, ◌+◌, List, [], ◌∷◌, ◌++◌, drop, sym, subst, refl, append_assoc}
use Rattle.std.proofs.lemmas.List.{append-nil}
use Rattle.abt_gcra.specs.declared.verdict.Verdict.{Verdict}
use Rattle.abt_gcra.specs.Windows.{Arrival, IsVerdict, AreVerdicts, taken_after}
use Rattle.abt_gcra.specs.Policing.{Policing}
use Rattle.abt_gcra.specs.Standing.{StandsFor}
use Rattle.abt_gcra.specs.Refusal.{arrivals_in}

-- The verdicts on the first of the pairs are there: they go on with those on the rest, after the cells that were taken.
pub record HasBegun (tau : ℕ) (policing : Policing) (pairs : List (ℕ × ℕ)) (index : ℕ) (verdicts : List Verdict) : Type 0 where
  pub taken : List Arrival
  pub stands : StandsFor policing taken
  pub goes_on : (rest : List Verdict) → AreVerdicts tau taken (arrivals_in (drop index pairs)) rest → AreVerdicts tau [] (arrivals_in pairs) (verdicts ++ rest)

pub begun_none : (tau : ℕ) (policing : Policing) (pairs : List (ℕ × ℕ)) (verdicts : List Verdict) → StandsFor policing [] → verdicts ≡ [] → HasBegun tau policing pairs 0 verdicts
begun_none tau policing pairs verdicts stands none = record {
  taken = [];
  stands = stands;
  goes_on = λ rest are. rw none are;
}

pub begun_more : (tau : ℕ) (old new : Policing) (pairs : List (ℕ × ℕ)) (index : ℕ) (pair : ℕ × ℕ) (verdicts : List Verdict) (verdict : Verdict) → drop index pairs ≡ pair ∷ drop (index + 1) pairs → old.tau ≡ tau → HasBegun tau old pairs index verdicts → ((taken : List Arrival) → StandsFor old taken → IsVerdict old.tau taken (record { at = pair.0; spacing = pair.1 }) verdict × StandsFor new (taken_after taken (record { at = pair.0; spacing = pair.1 }) verdict)) → HasBegun tau new pairs (index + 1) (verdicts ++ verdict ∷ [])
begun_more tau old new pairs index pair verdicts verdict next tau_is begun windows =
    let follows = windows begun.taken begun.stands in
    record {
      taken = taken_after begun.taken (record { at = pair.0; spacing = pair.1 }) verdict;
      stands = follows.1;
      goes_on = λ rest are.
          let here : IsVerdict tau begun.taken (record { at = pair.0; spacing = pair.1 }) verdict =
          subst (λ t. IsVerdict t begun.taken (record { at = pair.0; spacing = pair.1 }) verdict) tau_is follows.0 in
          let both : AreVerdicts tau begun.taken (arrivals_in (pair ∷ drop (index + 1) pairs)) (verdict ∷ rest) = (here, are) in
          let whole = begun.goes_on (verdict ∷ rest) (subst (λ ps. AreVerdicts tau begun.taken (arrivals_in ps) (verdict ∷ rest)) (sym next) both) in
          subst (λ vs. AreVerdicts tau [] (arrivals_in pairs) vs) (sym (append_assoc verdicts (verdict ∷ []) rest)) whole;
    }

pub begun_all : (tau : ℕ) (policing : Policing) (pairs : List (ℕ × ℕ)) (index : ℕ) (verdicts : List Verdict) → drop index pairs ≡ [] → HasBegun tau policing pairs index verdicts → AreVerdicts tau [] (arrivals_in pairs) verdicts
begun_all tau policing pairs index verdicts end begun =
    let rest : AreVerdicts tau begun.taken (arrivals_in (drop index pairs)) [] = rw end refl in
    subst (λ vs. AreVerdicts tau [] (arrivals_in pairs) vs) (append-nil verdicts) (begun.goes_on [] rest)
