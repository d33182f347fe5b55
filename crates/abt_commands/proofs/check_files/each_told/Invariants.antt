-- The files so far are told, and whether one of them has a fault.
use Rattle.std.proofs.Common.{take}
use Rattle.abt_commands.specs.CheckedFiles.{AreTold}
use Rattle.abt_commands.proofs.check_files.each_told.Given as goal

abbrev pub invariant-loop-index : goal.invariant-loop-index
invariant-loop-index g l =
    AreTold l.form 1 (take l.index l.names) l.is_faulty (g.W.Write.contents l.initial.out) (g.W.Write.contents l.out)
