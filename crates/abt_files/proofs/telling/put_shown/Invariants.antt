-- The letters so far are written as they are shown.
use Rattle.std.specs.Io.KnownBytes.{Appends}
use Rattle.abt_files.proofs.Letters.{letters}
use Rattle.abt_files.proofs.telling.put_shown.Given as goal

abbrev pub invariant-loop-letter : goal.invariant-loop-letter
invariant-loop-letter g l = Appends (g.W.Write.contents l.initial.writer) (g.W.Write.contents l.writer) (letters l.yielded)
