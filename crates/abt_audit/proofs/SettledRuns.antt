-- The journals of all sources are settled, one after the other, and with them a run.
use Rattle.std.proofs.Common.{◌≡◌, ℕ, suc, ◌+◌, ◌++◌, List, [], ◌∷◌, length, refl, sym, ap, subst, arith, append_assoc, append-nil, length-append}
use Rattle.abt_net.specs.Topology.{Topology}
use Rattle.abt_model.specs.declared.journal.SourceJournal.{SourceJournal}
use Rattle.abt_journal_text.specs.declared.open_write.OpenWrite.{OpenWrite}
use Rattle.abt_audit.specs.Settling.{SettlesAt, AreSettledFrom, AreSettled}

-- What becomes of the journals that are left becomes of all.
pub record SettlesOn (net : Topology) (writes : List OpenWrite) (all left settled : List SourceJournal) : Type 0 where
  pub on : (others : List SourceJournal) → AreSettledFrom net writes (length settled) left others → AreSettled net writes all (settled ++ others)

pub settles_first : (net : Topology) (writes : List OpenWrite) (all settled : List SourceJournal) → settled ≡ [] → SettlesOn net writes all all settled
settles_first net writes all settled is = subst (SettlesOn net writes all all) (sym is) (record { on = λ others so. so })

pub settles_more : (net : Topology) (writes : List OpenWrite) (all left settled : List SourceJournal) (journal one : SourceJournal)
    → SettlesOn net writes all (journal ∷ left) settled → SettlesAt net writes (length settled) journal one
    → SettlesOn net writes all left (settled ++ one ∷ [])
settles_more net writes all left settled journal one p at = record {
  on = λ others so. (
      let longer : length (settled ++ one ∷ []) ≡ length settled + 1 = (let sum = length-append settled (one ∷ []) in omega arith) in
      subst (AreSettled net writes all) (sym (append_assoc settled (one ∷ []) others))
      (p.on (one ∷ others) (at, subst (λ (c : ℕ). AreSettledFrom net writes c left others) longer so)));
}

pub no_journals : (sources : List SourceJournal) → length sources ≡ 0 → sources ≡ []
no_journals [] is = refl
no_journals (journal ∷ more) is = absurd (omega (arith, is))

pub settles_done : (net : Topology) (writes : List OpenWrite) (all left settled : List SourceJournal) → left ≡ [] → SettlesOn net writes all left settled
    → AreSettled net writes all settled
settles_done net writes all left settled none p =
    subst (AreSettled net writes all) (append-nil settled) (p.on [] (subst (λ (l : List SourceJournal). AreSettledFrom net writes (length settled) l []) (sym none) refl))

as_many_from : (net : Topology) (writes : List OpenWrite) (c : ℕ) (sources settled : List SourceJournal) → AreSettledFrom net writes c sources settled
    → length settled ≡ length sources
as_many_from net writes c [] settled is = ap length is
as_many_from net writes c (journal ∷ more) [] is = absurd is
as_many_from net writes c (journal ∷ more) (settled ∷ others) is = ap suc (as_many_from net writes (c + 1) more others is.1)

pub as_many : (net : Topology) (writes : List OpenWrite) (sources settled : List SourceJournal) → AreSettled net writes sources settled
    → length settled ≡ length sources
as_many net writes sources settled is = as_many_from net writes 0 sources settled is
