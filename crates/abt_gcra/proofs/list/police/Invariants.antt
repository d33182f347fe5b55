use Rattle.std.proofs.Common.{◌≡◌, ℕ, ◌≤◌, ◌<◌, length, vec_len, vec_capacity}
use Rattle.abt_gcra.specs.declared.fault.GcraFault.{GcraFault}
use Rattle.abt_gcra.specs.Refusal.{moments_in, clock_before, IsRefused}
use Rattle.abt_gcra.proofs.PoliceLemmas.{HasBegun}
use Rattle.abt_gcra.proofs.list.police.Given as goal

abbrev pub invariant-loop-index : goal.invariant-loop-index
invariant-loop-index l = record {
  room : length l.cells ≤ vec_capacity l.verdicts;
  count : vec_len l.verdicts ≡ l.index;
  tau_stays : l.gcra.tau ≡ l.tau;
  clock_is : l.gcra.clock ≡ clock_before (moments_in l.cells) l.index;
  accepted : (before : ℕ) (fault : GcraFault) → before < l.index → IsRefused (moments_in l.cells) before fault → ⊥;
  begun : HasBegun l.tau l.gcra l.cells l.index l.verdicts.items;
}
