-- The journals so far, and those that are left, are all.
use Rattle.std.proofs.Common.{drop, map}
use Rattle.std.specs.Prelude.{Vec}
use Rattle.std.specs.declared.alloc.Global.{Global}
use Rattle.abt_journal_text.specs.declared.spot.Spot.{Spot}
use Rattle.abt_derive.proofs.Crashing.{ArePartly}
use Rattle.abt_derive.proofs.restarting.all_restarted.Given as goal

abbrev pub invariant-loop-number : goal.invariant-loop-number
invariant-loop-number l = ArePartly (map (λ (spots : Vec Spot Global). spots.items) l.spots) l.number l.sources (drop l.number l.sources) l.all
