-- Each cell that arrives conforms.
use Rattle.std.proofs.Common.{◌≡◌, ◌≢◌, ℕ, ◌+◌, ◌-◌, ◌≤◌, ◌<◌, inl, inr, refl, ap, true, List, [], ◌∷◌, ◌∙◌, sym, arith}
use Rattle.std.specs.Prelude.{max}
use Rattle.std.proofs.lemmas.Bool.{ne_eqb, cond-false, cond-true, cases_eq, and_from, le-leb}
use Rattle.abt_rate.specs.Rate.{spacing_of}
use Rattle.abt_gcra.specs.declared.verdict.Verdict.{Verdict}
use Rattle.abt_gcra.specs.declared.verdict.Verdict.TheVariants.{Conforming}
use Rattle.abt_gcra.specs.Windows.{Arrival, taken_after}
use Rattle.abt_gcra.specs.Finding.{keeps, conforms}
use Rattle.abt_facts.specs.declared.fact.Fact.{Fact}
use Rattle.abt_facts.specs.declared.fact.Fact.TheVariants.{Arrived}
use Rattle.abt_facts.specs.Cells.{emitted_of, moment_of, cell_rate_of, after_last_of, taken_of, verdict_at}
use Rattle.abt_model.specs.Safe.{AllConform}
use Rattle.abt_model.proofs.Spacings.{spacing_antitone}
use Rattle.abt_model.proofs.Lawful.{Route, MayFollow, IsLawful}
use Rattle.abt_model.proofs.CellRates.{cell_held}
use Rattle.abt_model.proofs.Emissions.{emitted_more, sent_more, sent_facts, sent_order}

-- the theoretical arrival time after these cells, 0 after none
abbrev pub tat : List Arrival → ℕ
tat [] = 0
tat (cell ∷ cells) = max cell.at (tat cells) + cell.spacing

tat_follows : (limit owed : ℕ) (cells : List Arrival) → tat cells + owed ≤ limit → keeps limit owed cells ≡ true
tat_follows limit owed [] le = refl
tat_follows limit owed (cell ∷ cells) le =
    and_from _ _ (le-leb _ _ (omega arith)) (tat_follows limit (cell.spacing + owed) cells (omega arith))

-- after each arrival the theoretical arrival time is at most that cell's emission, the greatest delay and its spacing
pub record IsTimely (l : Route) (fs : List Fact) : Type 0 where
  pub low : after_last_of fs ≤ emitted_of fs
  pub bound : (n : ℕ) → after_last_of fs ≡ n + 1 → tat (taken_of fs) ≤ moment_of fs n + l.delay + l.tau + spacing_of (cell_rate_of fs n)
  pub none : after_last_of fs ≡ 0 → tat (taken_of fs) ≡ 0
  pub kept : conforms l.tau (taken_of fs) ≡ true

IsTimely-more : (l : Route) (f : Fact) (fs : List Fact) → MayFollow l fs f → IsTimely l fs → after_last_of (f ∷ fs) ≡ after_last_of fs → taken_of (f ∷ fs) ≡ taken_of fs → IsTimely l (f ∷ fs)
IsTimely-more l f fs may old same cells = record {
  low = omega (arith, same, old.low, emitted_more f fs);
  bound = λ n e. (
      let sent : n < emitted_of fs = omega (arith, old.low) in
      let kept = sent_more l f fs may n sent in
      let b = old.bound n (sym same ∙ e) in
      omega (arith, ap tat cells, kept.0, ap spacing_of kept.1, b));
  none = λ z. ap tat cells ∙ old.none (sym same ∙ z);
  kept = ap (conforms l.tau) cells ∙ old.kept;
}

-- what an arrival finds
pub arrival : (l : Route) (fs : List Fact) → IsLawful l fs → 1 ≤ l.hops → IsTimely l fs → (n a r : ℕ) (v : Verdict) → MayFollow l fs (Arrived n a r v) →
    (v ≡ Conforming) × (tat (taken_of fs) ≤ moment_of fs n + l.delay + l.tau) × (spacing_of r ≤ spacing_of (cell_rate_of fs n)) × (keeps (a + l.tau) 0 (taken_of fs) ≡ true) × (0 < r)
arrival l fs lawful some old n a r v may =
    let cell = sent_facts l fs lawful n may.0 in
    let holds : cell_rate_of fs n ≤ r = omega (arith, cell_held l fs lawful some n may.0 may.1, may.5) in
    let early : tat (taken_of fs) ≤ moment_of fs n + l.delay + l.tau = elim (cases_eq (after_last_of fs) 0) [
      | inl z ↦ omega (arith, old.none z)
      | inr more ↦ (
          let m = after_last_of fs - 1 in
          let is : after_last_of fs ≡ m + 1 = omega arith in
          let b = old.bound m is in
          let order = sent_order l fs lawful m n (omega (arith, may.1)) may.0 in
          omega (arith, b, order))
    ] in
    let fits : keeps (a + l.tau) 0 (taken_of fs) ≡ true = tat_follows (a + l.tau) 0 (taken_of fs) (omega (arith, early, may.2)) in
    let some_rate : r ≢ 0 = λ z. omega (arith, cell.some, holds) in
    let all : conforms l.tau (record { at = a; spacing = spacing_of r } ∷ taken_of fs) ≡ true = and_from _ _ fits old.kept in
    let conforming : verdict_at l.tau fs a r ≡ Conforming = cond-false _ _ _ (ne_eqb r 0 some_rate) ∙ cond-true _ _ _ all in
    (may.6 ∙ conforming, early, spacing_antitone (cell_rate_of fs n) r cell.some holds, fits, omega (arith, cell.some, holds))

pub timely : (l : Route) (fs : List Fact) → IsLawful l fs → 1 ≤ l.hops → IsTimely l fs
timely l [] lawful some = record { low = omega arith; bound = λ n e. absurd (omega arith); none = λ z. refl; kept = refl }
timely l (Arrived n a r v ∷ fs) lawful some =
    let old = timely l fs lawful.1 some in
    let finds = arrival l fs lawful.1 some old n a r v lawful.0 in
    let cells : taken_of (Arrived n a r v ∷ fs) ≡ record { at = a; spacing = spacing_of r } ∷ taken_of fs = ap (λ (u : Verdict). taken_after (taken_of fs) (record { at = a; spacing = spacing_of r }) u) finds.0 in
    record {
      low = omega (arith, lawful.0.0);
      bound = λ m e. (let same : m ≡ n = omega arith in rw same (omega (arith, ap tat cells, finds.1, finds.2, lawful.0.3)));
      none = λ z. absurd (omega arith);
      kept = ap (conforms l.tau) cells ∙ and_from _ _ finds.3 old.kept;
    }
timely l (f ∷ fs) lawful some = IsTimely-more l f fs lawful.0 (timely l fs lawful.1 some) refl refl

pub all_conform : (l : Route) (fs : List Fact) → IsLawful l fs → 1 ≤ l.hops → AllConform fs
all_conform l [] lawful some = tt
all_conform l (Arrived n a r v ∷ fs) lawful some = ((arrival l fs lawful.1 some (timely l fs lawful.1 some) n a r v lawful.0).0, all_conform l fs lawful.1 some)
all_conform l (f ∷ fs) lawful some = all_conform l fs lawful.1 some
