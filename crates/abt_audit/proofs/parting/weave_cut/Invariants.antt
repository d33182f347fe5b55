-- The journals are cut where weaving them was stuck so far, and get shorter each time.
use Rattle.abt_audit.specs.Parts.{journals_in}
use Rattle.abt_audit.proofs.Once.{IsHeld}
use Rattle.abt_audit.proofs.Parted.{IsUnderWay, total}
use Rattle.abt_audit.proofs.parting.weave_cut.Given as goal

abbrev pub invariant-cutting : goal.invariant-cutting
invariant-cutting l = record {
  way : IsUnderWay l.net (journals_in l.fn.part) (journals_in l.part) l.stuck.items;
  held : IsHeld l.net (journals_in l.part) l.stuck.items;
}

abbrev pub decreases-cutting : goal.decreases-cutting
decreases-cutting l = total (journals_in l.part)
