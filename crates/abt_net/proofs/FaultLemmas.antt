-- The order of faults, and that two lists without a fault are a net.
use Rattle.std.proofs.Common.{◌≡◌, ℕ, zero, suc, ◌+◌, ◌<◌, ◌⊎◌, refl, sym, ◌∙◌, ap, subst, inl, inr, arith}
use Rattle.std.proofs.lemmas.Bool.{cases_lt, cases_order}
use Rattle.abt_net.specs.declared.fault.NetFault.{NetFault}
use Rattle.abt_net.specs.declared.fault.NetFault.TheVariants.{NoPort, PathLength, PathRepeat, VcRepeat, Limit, Memory}
use Rattle.abt_net.specs.Faults.{IsWrong, number_of, connection_of, IsFirstFault}
use Rattle.abt_net.specs.Search.{IsLeastPlace}
use Rattle.abt_net.specs.Topology.{Topology}

-- the fault of a number and a connection
abbrev pub fault_at : ℕ → ℕ → NetFault
fault_at (suc zero) c = NoPort c
fault_at (suc (suc zero)) c = PathLength c
fault_at (suc (suc (suc zero))) c = PathRepeat c
fault_at (suc (suc (suc (suc zero)))) c = VcRepeat c
fault_at (suc (suc (suc (suc (suc zero))))) c = Limit
fault_at _ c = Memory

fault_at_own : (f : NetFault) → fault_at (number_of f) (connection_of f) ≡ f
fault_at_own (NoPort c) = refl
fault_at_own (PathLength c) = refl
fault_at_own (PathRepeat c) = refl
fault_at_own (VcRepeat c) = refl
fault_at_own Limit = refl
fault_at_own Memory = refl

-- No fault of a number below k applies.
abbrev pub IsClearBelow : Topology → ℕ → Type 0
IsClearBelow net k = (f : NetFault) → number_of f < k → ¬ IsWrong f net

pub clear_at_first : (net : Topology) → IsClearBelow net 1
clear_at_first net (NoPort c) below = absurd (omega arith)
clear_at_first net (PathLength c) below = absurd (omega arith)
clear_at_first net (PathRepeat c) below = absurd (omega arith)
clear_at_first net (VcRepeat c) below = absurd (omega arith)
clear_at_first net Limit below = absurd (omega arith)
clear_at_first net Memory below = λ wrong. wrong

at_number : (net : Topology) (f : NetFault) (k : ℕ) → number_of f ≡ k → IsWrong f net → IsWrong (fault_at k (connection_of f)) net
at_number net f k same wrong =
    let P : NetFault → Type 0 = λ g. IsWrong g net in
    subst P (sym (fault_at_own f) ∙ ap (λ n. fault_at n (connection_of f)) same) wrong

-- nor any of the number k
pub clear_more : (net : Topology) (k : ℕ) → IsClearBelow net k → ((c : ℕ) → ¬ IsWrong (fault_at k c) net) → IsClearBelow net (k + 1)
clear_more net k clear none f below wrong =
    elim (cases_lt (number_of f) k) [ inl lower ↦ clear f lower wrong | inr upper ↦ none (connection_of f) (at_number net f k (omega arith) wrong) ]

-- the first fault, once the numbers below are clear
pub first_at : (net : Topology) (fault : NetFault) → IsClearBelow net (number_of fault) → IsLeastPlace (λ c. IsWrong (fault_at (number_of fault) c) net) (connection_of fault) → IsFirstFault net fault
first_at net fault clear least = record {
  wrong = let P : NetFault → Type 0 = λ g. IsWrong g net in subst P (fault_at_own fault) least.0;
  none_before = λ earlier before wrong. elim before [
    | inl lower ↦ clear earlier lower wrong
    | inr (same, below) ↦ least.1 (connection_of earlier) below (at_number net earlier (number_of fault) same wrong)
  ];
}

-- there is one first fault
pub one_first : (net : Topology) (f g : NetFault) → IsFirstFault net f → IsFirstFault net g → f ≡ g
one_first net f g first other = go (cases_order (number_of f) (number_of g)) where
  same_number : number_of f ≡ number_of g → (connection_of f ≡ connection_of g) ⊎ ((connection_of f < connection_of g) ⊎ (connection_of g < connection_of f)) → f ≡ g
  same_number number (inl connection) = sym (fault_at_own f) ∙ ap (λ n. fault_at n (connection_of f)) number ∙ ap (fault_at (number_of g)) connection ∙ fault_at_own g
  same_number number (inr (inl below)) = absurd (other.none_before f (inr (number, below)) first.wrong)
  same_number number (inr (inr above)) = absurd (first.none_before g (inr (sym number, above)) other.wrong)

  go : (number_of f ≡ number_of g) ⊎ ((number_of f < number_of g) ⊎ (number_of g < number_of f)) → f ≡ g
  go (inl same) = same_number same (cases_order (connection_of f) (connection_of g))
  go (inr (inl below)) = absurd (other.none_before f (inl below) first.wrong)
  go (inr (inr above)) = absurd (first.none_before g (inl above) other.wrong)

-- the paths keep the rules
pub clear_paths : (net : Topology) → ((c : ℕ) → ¬ IsWrong (NoPort c) net) → ((c : ℕ) → ¬ IsWrong (PathLength c) net) → ((c : ℕ) → ¬ IsWrong (PathRepeat c) net) → IsClearBelow net 4
clear_paths net ports lengths visits = clear_more net 3 (clear_more net 2 (clear_more net 1 (clear_at_first net) ports) lengths) visits

-- and so do the channels and the limits
pub clear_channels : (net : Topology) → IsClearBelow net 4 → ((c : ℕ) → ¬ IsWrong (VcRepeat c) net) → IsClearBelow net 5
clear_channels net clear channels = clear_more net 4 clear channels

pub clear_of_all : (net : Topology) → IsClearBelow net 5 → ¬ IsWrong Limit net → (fault : NetFault) → ¬ IsWrong fault net
clear_of_all net clear limits Limit wrong = limits wrong
clear_of_all net clear limits Memory wrong = wrong
clear_of_all net clear limits (NoPort c) wrong = clear (NoPort c) (omega arith) wrong
clear_of_all net clear limits (PathLength c) wrong = clear (PathLength c) (omega arith) wrong
clear_of_all net clear limits (PathRepeat c) wrong = clear (PathRepeat c) (omega arith) wrong
clear_of_all net clear limits (VcRepeat c) wrong = clear (VcRepeat c) (omega arith) wrong

-- the limits come first once all else is clear
pub first_limit : (net : Topology) → IsClearBelow net 5 → IsWrong Limit net → IsFirstFault net Limit
first_limit net clear wrong = first_at net Limit clear (wrong, λ m below. absurd (omega arith))
