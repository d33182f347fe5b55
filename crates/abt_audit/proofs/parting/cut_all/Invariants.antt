-- What is left to cut is cut of what was left so far.
use Rattle.std.proofs.Common.{◌≡◌, drop}
use Rattle.abt_audit.specs.Parts as spec
use Rattle.abt_audit.specs.Parts.{journals_in}
use Rattle.abt_audit.proofs.parting.cut_all.Given as goal

abbrev pub invariant-loop-stuck : goal.invariant-loop-stuck
invariant-loop-stuck l = spec.cut_all (journals_in l.part) (drop l.stuck-index l.all) ≡ spec.cut_all (journals_in l.initial.part) l.all
