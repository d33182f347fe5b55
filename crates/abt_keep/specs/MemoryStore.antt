-- A store in memory. Each read and write goes by the plan that stands, which is then used up.
use Rattle.std.specs.Prelude.{ℕ, ◌+◌, min, Result, Ok, Err}
use Rattle.abt_keep.specs.Record.{KeptRecord}
use Rattle.abt_keep.specs.declared.plan.StorePlan.{StorePlan}
use Rattle.abt_keep.specs.declared.plan.StorePlan.TheVariants.{Works, FailsBefore, FailsAfter}
use Rattle.abt_keep.specs.declared.fault.StoreFault.{StoreFault}
use Rattle.abt_keep.specs.declared.fault.StoreFault.TheVariants.{Device}

-- the record that is kept, the plan of the next call, and how many calls failed
pub record StoreView : Type 0 where
  pub kept : KeptRecord
  pub plan : StorePlan
  pub failures : ℕ

-- one failure more; the greatest count stays
abbrev pub one_more : ℕ → ℕ
one_more failures = min (failures + 1) 18446744073709551615

-- the store after a call that worked, and after one that failed, with the record that it then keeps
abbrev pub after_success : StoreView → KeptRecord → StoreView
after_success m kept = record { kept = kept; plan = Works; failures = m.failures }

abbrev pub after_failure : StoreView → KeptRecord → StoreView
after_failure m kept = record { kept = kept; plan = Works; failures = one_more m.failures }

-- the result of a read under a plan, and the store after it
abbrev pub kept_under : StorePlan → StoreView → Result KeptRecord StoreFault × StoreView
kept_under Works m = (Ok m.kept, after_success m m.kept)
kept_under FailsBefore m = (Err Device, after_failure m m.kept)
kept_under FailsAfter m = (Err Device, after_failure m m.kept)

-- the result of a write under a plan, and the store after it
abbrev pub keep_under : StorePlan → StoreView → KeptRecord → Result (Unit {0}) StoreFault × StoreView
keep_under Works m kept = (Ok tt, after_success m kept)
keep_under FailsBefore m kept = (Err Device, after_failure m m.kept)
keep_under FailsAfter m kept = (Err Device, after_failure m kept)
