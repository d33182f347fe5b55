-- A book with an empty history keeps the rule.
use Rattle.std.proofs.Common.{◌≡◌, ℕ, ◌<◌, true, false, [], length, refl, ap, ◌∙◌, sym, subst}
use Rattle.std.specs.Prelude.{nat_lt, replicate}
use Rattle.std.proofs.lemmas.Bool.{cond_both}
use Rattle.std.proofs.lemmas.List.{length-replicate, get_or-replicate}
use Rattle.abt_net.specs.Topology.{Topology}
use Rattle.abt_history.specs.Histories.{count_of, words_of}
use Rattle.abt_history.specs.Rules.{IsKept}

none_counted : (net : Topology) (key : ℕ) → count_of net key [] ≡ 0
none_counted net key = cond_both (nat_lt key (length net.capacities)) 0 0 (λ (n : ℕ). n ≡ 0) (λ e. refl) (λ e. refl)

pub opens : (net : Topology) (words : ℕ) → words ≡ words_of net → IsKept net (replicate words (0, true)) []
opens net words is = record {
  all = length-replicate words (0, true) ∙ is;
  each = λ k low. get_or-replicate words k (0, true) (0, false) (subst (λ n. k < n) (sym is) low) ∙ ap (λ (n : ℕ). (n, true)) (sym (none_counted net k));
  legal = tt;
}
